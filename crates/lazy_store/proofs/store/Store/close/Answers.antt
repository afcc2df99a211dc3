use Rattle.std.proofs.Common.{◌∙◌}
use Rattle.lazy_store.proofs.Settles.{close_alive, close_dead, close_later, close_place, sound_says}
use Rattle.lazy_store.proofs.store.Store.close.Goals as goal

pub returns-then-verdict : goal.returns-then-verdict
returns-then-verdict c = c.remove.ensures ∙ close_dead c.args.verdict c.args.self.now c.args.place c.item-item.ensures.apart c.requires.open_ c.if-verdict.true

pub move_to-requires-clause-place : goal.move_to-requires-clause-place
move_to-requires-clause-place c = close_place c.args.verdict c.args.self.now c.args.place c.args.self.now.issued c.issued-issued.ensures.within c.requires.open_

pub move_to-requires-clause-later : goal.move_to-requires-clause-later
move_to-requires-clause-later c =
    close_later c.args.verdict c.args.self.now c.args.place c.item-item.ensures.apart c.requires.open_ (sound_says c.args.self.now.issued c.args.verdict c.requires.sound c.if-verdict.false).0

pub returns : goal.returns
returns c = c.move_to.ensures ∙ close_alive c.args.verdict c.args.self.now c.args.place c.item-item.ensures.apart c.requires.open_ c.if-verdict.false
