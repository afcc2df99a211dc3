use Rattle.std.proofs.Common.{◌∙◌, ap, sym}
use Rattle.object_heads.specs.Members.{without}
use Rattle.object_heads.proofs.DropLemmas.{gone_more, none_gone}
use Rattle.object_heads.proofs.heads.Heads.drop_all.Goals as goal

pub loop-handle-init : goal.loop-handle-init
loop-handle-init g c = sym (none_gone c.args.self.now)

pub loop-handle-preserved : goal.loop-handle-preserved
loop-handle-preserved g c =
    c.take.ensures.rest ∙ ap (without _) c.loop-handle.invariant
    ∙ gone_more c.args.handles.now c.loop-handle.handle-index _ c.args.self.now c.loop-handle-test.true
