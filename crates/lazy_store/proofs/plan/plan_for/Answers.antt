use Rattle.std.proofs.Common.{List, ℕ, ◌+◌, ◌++◌, drop, ap, ◌∙◌}
use Rattle.std.specs.Prelude.{filter_map}
use Rattle.cache_law.specs.declared.object.Object.{Object}
use Rattle.room_lru.specs.declared.ending.Ending.{Ending}
use Rattle.lazy_store.specs.Softening.{ending_at, object_at}
use Rattle.lazy_store.proofs.Plans.{more_planned}
use Rattle.lazy_store.proofs.plan.plan_for.Goals as goal

pub loop-number-preserved : goal.loop-number-preserved
loop-number-preserved c =
    let rest : List ℕ = drop (c.loop-number.number-index + 1) c.args.numbers.now in
    record {
      endings = ap (λ (es : List Ending). es ++ filter_map (ending_at c.args.moment c.args.heads.now) rest) c.in_ok-add_to.ensures.endings
          ∙ more_planned (ending_at c.args.moment c.args.heads.now) c.args.numbers.now c.loop-number.number-index _ c.loop-number.plan.endings.items c.loop-number-test.true
          ∙ c.loop-number.invariant.endings;
      objects = ap (λ (os : List (ℕ × Object)). os ++ filter_map (object_at c.args.moment c.args.heads.now) rest) c.in_ok-add_to.ensures.objects
          ∙ more_planned (object_at c.args.moment c.args.heads.now) c.args.numbers.now c.loop-number.number-index _ c.loop-number.plan.objects.items c.loop-number-test.true
          ∙ c.loop-number.invariant.objects;
    }
