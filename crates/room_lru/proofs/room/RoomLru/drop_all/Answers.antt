use Rattle.std.proofs.Common.{◌∙◌, ap, sym}
use Rattle.room_lru.specs.Members.{without}
use Rattle.room_lru.proofs.DropLemmas.{gone_more, none_gone}
use Rattle.room_lru.proofs.room.RoomLru.drop_all.Goals as goal

pub loop-used-init : goal.loop-used-init
loop-used-init c = sym (none_gone c.args.self.now)

pub loop-used-preserved : goal.loop-used-preserved
loop-used-preserved c =
    c.take.ensures.rest ∙ ap (without _) c.loop-used.invariant
    ∙ gone_more c.args.uses.now c.loop-used.used-index _ c.args.self.now c.loop-used-test.true
