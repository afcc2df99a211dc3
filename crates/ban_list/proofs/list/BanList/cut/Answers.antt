use Rattle.std.proofs.Common.{◌∙◌, ap, not, refl, inl}
use Rattle.ban_list.proofs.CutLemmas.{cuts_on, cuts_end}
use Rattle.ban_list.proofs.list.BanList.cut.Goals as goal

pub loop-self-init : goal.loop-self-init
loop-self-init c = inl refl

pub loop-self-preserved : goal.loop-self-preserved
loop-self-preserved c =
    let some = c.is_oldest_spare.ensures.there c.loop-self-test.true in
    cuts_on c.args.self.now c.loop-self.self c.drop_oldest.new.self c.is_oldest_spare.ensures.whole c.loop-self.invariant some
    (c.is_oldest_spare.ensures.needed some ∙ ap not c.loop-self-test.true) c.drop_oldest.ensures

pub returns : goal.returns
returns c =
    cuts_end c.args.self.now c.loop-self.self c.is_oldest_spare.ensures.whole c.loop-self.invariant
    (λ some. c.is_oldest_spare.ensures.needed some ∙ ap not c.loop-self-test.false)
