use Rattle.std.proofs.Common.{◌≡◌, subst}
use Rattle.std.specs.Prelude.{IfOk}
use Rattle.cache_law.specs.declared.object.Response.{Response}
use Rattle.fetch_graph.specs.Graph.{insertion_first, deliver_as}
use Rattle.fetch_graph.proofs.keeping.deliver.Goals as goal

pub returns : goal.returns
unfolding deliver_as
returns c =
    subst (λ (r : Response). IfOk c.hand_over.result (λ next. next ≡ insertion_first c.args.fetch.order.looked c.args.store_as r c.args.context c.args.fetch))
    c.in-Ok.ensures c.hand_over.ensures
