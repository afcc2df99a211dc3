use Rattle.std.proofs.Common.{◌∙◌}
use Rattle.lazy_store.specs.Numbered.{is_alive_at}
use Rattle.lazy_store.specs.Softening.{is_dead_at}
use Rattle.lazy_store.proofs.Plans.{chosen_more}
use Rattle.lazy_store.proofs.store.Store.fates_of.Goals as goal

pub loop-number-preserved : goal.loop-number-preserved
loop-number-preserved c = record {
  alive = c.in_ok-add_fate.ensures.alive
      ∙ chosen_more (is_alive_at c.args.moment c.args.self.now) c.args.numbers.now c.loop-number.number-index _ c.loop-number.fates.alive.items c.loop-number-test.true c.loop-number.invariant.alive;
  dead = c.in_ok-add_fate.ensures.dead
      ∙ chosen_more (is_dead_at c.args.moment c.args.self.now) c.args.numbers.now c.loop-number.number-index _ c.loop-number.fates.dead.items c.loop-number-test.true c.loop-number.invariant.dead;
}
