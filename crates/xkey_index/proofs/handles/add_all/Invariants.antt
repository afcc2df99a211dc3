use Rattle.std.proofs.Common.{take}
use Rattle.xkey_index.specs.Handles.{Adds, has_key}
use Rattle.xkey_index.proofs.handles.add_all.Given as goal

abbrev pub invariant-loop-place : goal.invariant-loop-place
invariant-loop-place l = Adds l.initial.handles l.handle (has_key (take l.place l.keys)) l.handles
