use Rattle.std.proofs.Common.{◌≡◌, Option, subst}
use Rattle.std.specs.Prelude.{IfOk}
use Rattle.backend_request.specs.declared.receiving.Received.{Received}
use Rattle.fetch_graph.specs.Answers.{after_receipt}
use Rattle.fetch_graph.proofs.answering.replied.Goals as goal

pub returns : goal.returns
returns c =
    subst (λ (r : Option Received). IfOk c.arrived.result (λ next. next ≡ after_receipt r c.args.context c.args.fetch))
    (rw (← c.purpose_of.ensures, ← c.content_of.ensures) c.in-Ok.ensures) c.arrived.ensures
