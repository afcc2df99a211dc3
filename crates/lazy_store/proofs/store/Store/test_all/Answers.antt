use Rattle.std.proofs.Common.{List, get_or, ap, ◌∙◌}
use Rattle.lazy_law.specs.Placed.{Lazy, Placed}
use Rattle.lazy_store.specs.Changes.{moved}
use Rattle.lazy_store.proofs.Numbers.{none_tested, tested_more}
use Rattle.lazy_store.proofs.store.Store.test_all.Goals as goal

pub loop-number-init : goal.loop-number-init
loop-number-init c = ap (λ (objects : List Placed). record c.args.self.now { objects = objects }) (none_tested c.args.self.now.issued c.args.self.now.objects)

pub loop-number-preserved : goal.loop-number-preserved
loop-number-preserved c =
    c.test.ensures ∙ ap (λ (lazy : Lazy). moved (get_or c.args.numbers.now c.loop-number.number-index 0) (record { place = lazy.issued; mark = lazy.issued }) lazy) c.loop-number.invariant
    ∙ ap (λ (objects : List Placed). record c.args.self.now { objects = objects })
    (tested_more c.args.numbers.now c.loop-number.number-index 0 c.args.self.now.issued c.args.self.now.objects c.loop-number-test.true)
