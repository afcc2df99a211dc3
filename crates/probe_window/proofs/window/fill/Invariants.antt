use Rattle.std.proofs.Common.{◌≡◌, ◌+◌, ◌++◌, replicate}
use Rattle.arrayvec.specs.ArrayVec.{array_vec_len}
use Rattle.probe_window.proofs.window.fill.Given as goal

-- filled so far
abbrev pub invariant-loop-filled : goal.invariant-loop-filled
invariant-loop-filled l = record {
  items : l.results.items ≡ l.initial.results.items ++ replicate l.filled l.good;
  long : array_vec_len l.results ≡ array_vec_len l.initial.results + l.filled;
}
