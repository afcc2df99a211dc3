use Rattle.std.proofs.Common.{◌≡◌, take}
use Rattle.object_heads.specs.Members.{without_all}
use Rattle.object_heads.proofs.heads.Heads.drop_all.Given as goal

abbrev pub invariant-loop-handle : goal.invariant-loop-handle
invariant-loop-handle g l = l.self ≡ without_all (take l.handle-index l.handles) l.initial.self
