-- Nothing is served at first, and then one connection after another.
use Rattle.std.proofs.Common.{refl, ◌∙◌}
use Rattle.workers.proofs.Served.{works_begun, works_then}
use Rattle.workers.proofs.serving.serve_worker.Goals as goal

pub connections-init : goal.connections-init
connections-init g c = record {
  ready = c.requires.ready;
  works = works_begun _ _ (λ post. g.S.Service.Ready c.args.service.now c.args.site.now post.shift) _ _ c.requires.ready;
  left = refl;
  accepted_parts = refl;
  left_parts = refl;
  leave = refl;
}

pub returns-in-Some-go_on-clause-works : goal.returns-in-Some-go_on-clause-works
returns-in-Some-go_on-clause-works g c = works_then _ _ _ _ _ _ _ _ c.connections.invariant.works c.go_on.ensures.works

pub connections-preserved : goal.connections-preserved
connections-preserved g c = record {
  ready = c.go_on.ensures.ready;
  works = works_then _ _ _ _ _ _ _ _ c.connections.invariant.works c.go_on.ensures.works;
  left = c.in_default.ensures.goes_on ∙ c.connections.invariant.left;
  accepted_parts = c.go_on.ensures.parts.0 ∙ c.connections.invariant.accepted_parts;
  left_parts = c.go_on.ensures.parts.1 ∙ c.connections.invariant.left_parts;
  leave = c.go_on.ensures.leave ∙ c.connections.invariant.leave;
}
