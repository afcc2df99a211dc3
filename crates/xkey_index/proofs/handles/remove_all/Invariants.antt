use Rattle.std.proofs.Common.{take}
use Rattle.xkey_index.specs.Handles.{Removes, has_key}
use Rattle.xkey_index.proofs.handles.remove_all.Given as goal

abbrev pub invariant-loop-key : goal.invariant-loop-key
invariant-loop-key l = Removes l.initial.handles l.handle (has_key (take l.key-index l.keys)) l.handles
