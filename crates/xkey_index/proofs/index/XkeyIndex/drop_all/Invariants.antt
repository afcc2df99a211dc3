use Rattle.std.proofs.Common.{◌≡◌, take}
use Rattle.xkey_index.specs.Members.{without_all}
use Rattle.xkey_index.proofs.index.XkeyIndex.drop_all.Given as goal

abbrev pub invariant-loop-handle : goal.invariant-loop-handle
invariant-loop-handle l = l.self ≡ without_all (take l.handle-index l.handles) l.initial.self
