-- Nobody is taken down at first, and then one worker after another.
use Rattle.std.proofs.Common.{◌≡◌, ◌∷◌, sym, rules, arith, append-nil}
use Rattle.std.specs.Prelude.{IsSome}
use Rattle.std.proofs.lemmas.Grind.{common_steps}
use Rattle.std.proofs.lemmas.List.Elements.{All-head, All-tail}
use Rattle.workers.specs.declared.worker.Worker.{Worker}
use Rattle.workers.proofs.Joins.{joins_items, joins_counts}
use Rattle.workers.proofs.joining.disband.Goals as goal

pub loop-worker-init : goal.loop-worker-init
loop-worker-init g c = record {
  rest = first_of (search rules, grind (arith, common_steps));
  posts = sym (append-nil _);
  accepted = omega arith;
  accepted_parts = omega arith;
  left = omega arith;
  left_parts = omega arith;
  seats = first_of (search rules, grind (arith, common_steps));
  count = first_of (search rules, grind (arith, common_steps));
}

pub join_one-requires-clause-has : goal.join_one-requires-clause-has
join_one-requires-clause-has g c =
    let is : c.loop-worker.worker-iterator.rest.items ≡ c.in-Some.worker ∷ c.next.new.self.rest.items = first_of (search rules, grind (arith, common_steps)) in
    let has = All-head (λ (worker : Worker g.row.H.Denot g.row.N.Denot g.row.A.Denot g.row.B.Denot). IsSome worker.post) c.in-Some.worker c.next.new.self.rest.items (rw is at c.loop-worker.invariant.rest) in
    has

pub join_one-requires-clause-seats : goal.join_one-requires-clause-seats
join_one-requires-clause-seats g c =
    let is : c.loop-worker.worker-iterator.rest.items ≡ c.in-Some.worker ∷ c.next.new.self.rest.items = first_of (search rules, grind (arith, common_steps)) in
    let seats = rw is at c.loop-worker.invariant.seats in
    omega arith

pub loop-worker-preserved : goal.loop-worker-preserved
loop-worker-preserved g c =
    let is : c.loop-worker.worker-iterator.rest.items ≡ c.in-Some.worker ∷ c.next.new.self.rest.items = first_of (search rules, grind (arith, common_steps)) in
    let seats = rw is at c.loop-worker.invariant.seats in
    let count = rw is at c.loop-worker.invariant.count in
    let one = c.join_one.ensures.seats in record {
      rest = All-tail (λ (worker : Worker g.row.H.Denot g.row.N.Denot g.row.A.Denot g.row.B.Denot). IsSome worker.post) c.in-Some.worker c.next.new.self.rest.items (rw is at c.loop-worker.invariant.rest);
      posts = joins_items c.loop-worker.yielded c.in-Some.worker (λ worker. worker.post) _ _ _ c.loop-worker.invariant.posts c.join_one.ensures.posts;
      accepted = joins_counts c.loop-worker.yielded c.in-Some.worker (λ worker. worker.accepted.amount) _ _ _ c.loop-worker.invariant.accepted c.join_one.ensures.accepted.0;
      accepted_parts = joins_counts c.loop-worker.yielded c.in-Some.worker (λ worker. worker.accepted.parts) _ _ _ c.loop-worker.invariant.accepted_parts c.join_one.ensures.accepted.1;
      left = joins_counts c.loop-worker.yielded c.in-Some.worker (λ worker. worker.left.amount) _ _ _ c.loop-worker.invariant.left c.join_one.ensures.left.0;
      left_parts = joins_counts c.loop-worker.yielded c.in-Some.worker (λ worker. worker.left.parts) _ _ _ c.loop-worker.invariant.left_parts c.join_one.ensures.left.1;
      seats = omega arith;
      count = omega arith;
    }
