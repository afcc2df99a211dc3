-- What the worker has done so far.
use Rattle.std.proofs.Common.{◌≡◌}
use Rattle.std.specs.Prelude.{IsSomeAnd}
use Rattle.workers.specs.Serving.{Works}
use Rattle.workers.proofs.serving.serve_worker.Given as goal

abbrev pub invariant-connections : goal.invariant-connections
invariant-connections g l = record {
  ready : IsSomeAnd l.worker.post (λ post. g.S.Service.Ready l.service l.site post.shift);
  works : Works (g.S.Service.Serves l.service l.site) g.S.Service.Told l.fn.worker.post l.worker.post l.fn.worker.accepted.amount l.worker.accepted.amount;
  left : l.worker.left.amount ≡ l.fn.worker.left.amount;
  accepted_parts : l.worker.accepted.parts ≡ l.fn.worker.accepted.parts;
  left_parts : l.worker.left.parts ≡ l.fn.worker.left.parts;
  leave : l.worker.leave ≡ l.fn.worker.leave;
}
