use Rattle.std.proofs.Common.{List, ℕ, ap, ◌∙◌, arith}
use Rattle.std.proofs.lemmas.List.{take_all}
use Rattle.lazy_law.specs.Placed.{Placed}
use Rattle.lazy_store.specs.Softening.{marked, marked_all}
use Rattle.lazy_store.proofs.SoftPurges.{marked_more, none_marked}
use Rattle.lazy_store.proofs.store.Store.mark_all.Goals as goal

pub loop-number-init : goal.loop-number-init
loop-number-init c = ap (λ (objects : List Placed). record c.args.self.now { objects = objects }) (none_marked c.args.self.now.issued c.args.self.now.objects)

pub loop-number-preserved : goal.loop-number-preserved
loop-number-preserved c =
    c.mark.ensures ∙ ap (marked _) c.loop-number.invariant
    ∙ ap (λ (objects : List Placed). record c.args.self.now { objects = objects }) (marked_more c.args.numbers.now c.loop-number.number-index _ c.args.self.now.issued c.args.self.now.objects c.loop-number-test.true)

pub returns : goal.returns
returns c = c.loop-number.invariant ∙ ap (λ (ns : List ℕ). marked_all ns c.args.self.now) (take_all c.loop-number.number-index c.args.numbers.now (omega arith))
