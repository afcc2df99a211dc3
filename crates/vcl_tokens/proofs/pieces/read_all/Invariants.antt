use Rattle.std.proofs.Common.{◌+◌, ◌≤◌, ℕ, List, ◌++◌, length}
use Rattle.vcl_tree.specs.declared.token.Token.{Token}
use Rattle.vcl_tokens.specs.Reading.{Reads, Faults, text_limit}
use Rattle.vcl_tokens.proofs.pieces.read_all.Given as goal

abbrev pub invariant-loop-rest : goal.invariant-loop-rest
invariant-loop-rest l = record {
  left : l.place + length l.rest ≤ text_limit;
  reads : (tokens : List Token) → Reads l.place l.rest tokens → Reads 0 l.bytes (l.tokens ++ tokens);
  faults : (last : ℕ) → Faults l.place l.rest last → Faults 0 l.bytes last;
}

abbrev pub decreases-loop-rest : goal.decreases-loop-rest
decreases-loop-rest l = length l.rest
