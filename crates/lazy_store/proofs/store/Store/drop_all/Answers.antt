use Rattle.std.proofs.Common.{List, ap, ◌∙◌}
use Rattle.lazy_law.specs.Placed.{Placed}
use Rattle.lazy_store.specs.Changes.{without}
use Rattle.lazy_store.proofs.Numbers.{gone_more, none_gone}
use Rattle.lazy_store.proofs.store.Store.drop_all.Goals as goal

pub loop-number-init : goal.loop-number-init
loop-number-init c = ap (λ (objects : List Placed). record c.args.self.now { objects = objects }) (none_gone c.args.self.now.objects)

pub loop-number-preserved : goal.loop-number-preserved
loop-number-preserved c =
    c.remove.ensures ∙ ap (without _) c.loop-number.invariant
    ∙ ap (λ (objects : List Placed). record c.args.self.now { objects = objects }) (gone_more c.args.numbers.now c.loop-number.number-index _ c.args.self.now.objects c.loop-number-test.true)
