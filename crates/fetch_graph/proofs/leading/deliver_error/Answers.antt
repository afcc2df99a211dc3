use Rattle.std.proofs.Common.{◌≡◌, ◌∙◌, ℤ, ap, subst, w64}
use Rattle.std.specs.Prelude.{IfOk}
use Rattle.std.proofs.lemmas.Int.{to_z-of_z}
use Rattle.fetch_graph.specs.declared.fetch.Arrived.{Arrived}
use Rattle.fetch_graph.specs.Graph.{deliver_as, kept_by, made_at}
use Rattle.fetch_graph.proofs.leading.deliver_error.Goals as goal

pub returns : goal.returns
returns c =
    subst (λ (a : Arrived). IfOk c.deliver_whole.result (λ next. next ≡ deliver_as (kept_by c.args.context.fetch_response) a c.args.context c.args.fetch))
    (c.in-Ok.ensures ∙ ap (λ (o : ℤ). made_at o c.args.context) (to_z-of_z w64 c.args.origin c.ranges.origin)) c.deliver_whole.ensures
