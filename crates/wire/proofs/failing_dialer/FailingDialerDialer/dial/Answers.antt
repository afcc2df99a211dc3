-- The connection is that of the plan that was taken.
use Rattle.std.proofs.Common.{◌∙◌, ap}
use Rattle.wire.specs.DialerMemory.{planned_link}
use Rattle.wire.specs.declared.peer.Peer.{Peer}
use Rattle.wire.proofs.failing_dialer.FailingDialerDialer.dial.Goals as goal

pub returns-in-Some-clause-gives : goal.returns-in-Some-clause-gives
returns-in-Some-clause-gives c = record {
  plan = c.in-Some.plan;
  takes = c.in-Some.ensures;
  link_is = c.at_place.ensures ∙ c.link_of.ensures ∙ ap (λ (p : Peer). planned_link c.in-Some.plan p) c.in_ok-peer.ensures;
}
