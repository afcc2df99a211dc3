use Rattle.std.proofs.Common.{◌≡◌, drop}
use Rattle.vcl_tokens.specs.Longest.{best_of, longest_behind}
use Rattle.vcl_tokens.specs.declared.spelling.State.TheVariants as state
use Rattle.vcl_tokens.proofs.longest.scan.Given as goal

abbrev pub invariant-loop-i : goal.invariant-loop-i
invariant-loop-i l = best_of l.i (longest_behind l.state (drop l.i l.text)) l.best ≡ longest_behind state.Start l.text
