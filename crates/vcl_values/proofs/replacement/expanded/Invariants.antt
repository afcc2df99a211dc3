use Rattle.std.proofs.Common.{◌≡◌, ◌≤◌, ◌++◌, length, take}
use Rattle.std.specs.Prelude.{vec_len}
use Rattle.vcl_values.specs.Captured.{captured}
use Rattle.vcl_values.specs.Replacements.{written}
use Rattle.vcl_values.proofs.replacement.expanded.Given as goal

abbrev pub invariant-pieces : goal.invariant-pieces
invariant-pieces l = record {
  within : vec_len l.out ≤ l.room;
  so_far : take l.room (l.out.items ++ written (captured l.captures) l.rest) ≡ take l.room (written (captured l.captures) l.fn.by);
}

abbrev pub decreases-pieces : goal.decreases-pieces
decreases-pieces l = length l.rest
