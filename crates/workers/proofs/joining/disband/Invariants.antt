-- What the workers that were taken down so far have left, and that there is room for what the others leave.
use Rattle.std.proofs.Common.{◌≡◌, ◌+◌, ◌≤◌, ◌++◌, map, Some, length}
use Rattle.std.specs.Prelude.{All, IsSome, sum_by, vec_len, vec_capacity}
use Rattle.workers.proofs.joining.disband.Given as goal

abbrev pub invariant-loop-worker : goal.invariant-loop-worker
invariant-loop-worker g l = record {
  rest : All (λ worker. IsSome worker.post) l.worker-iterator.rest.items;
  posts : map Some l.joined.posts.items ≡ map Some l.fn.joined.posts.items ++ map (λ worker. worker.post) l.yielded;
  accepted : l.joined.accepted.amount ≡ l.fn.joined.accepted.amount + sum_by (λ worker. worker.accepted.amount) l.yielded;
  accepted_parts : l.joined.accepted.parts ≡ l.fn.joined.accepted.parts + sum_by (λ worker. worker.accepted.parts) l.yielded;
  left : l.joined.left.amount ≡ l.fn.joined.left.amount + sum_by (λ worker. worker.left.amount) l.yielded;
  left_parts : l.joined.left.parts ≡ l.fn.joined.left.parts + sum_by (λ worker. worker.left.parts) l.yielded;
  seats : vec_len l.joined.posts + length l.worker-iterator.rest.items ≤ vec_capacity l.joined.posts;
  count : vec_len l.joined.posts + length l.worker-iterator.rest.items ≡ vec_len l.fn.joined.posts + vec_len l.fn.workers;
}
