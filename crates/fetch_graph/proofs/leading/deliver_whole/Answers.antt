use Rattle.std.proofs.Common.{◌≡◌, subst}
use Rattle.std.specs.Prelude.{IfOk}
use Rattle.fetch_graph.specs.declared.fetch.StoreAs.{StoreAs}
use Rattle.fetch_graph.specs.Graph.{deliver_as}
use Rattle.fetch_graph.proofs.leading.deliver_whole.Goals as goal

pub returns : goal.returns
returns c =
    subst (λ (k : StoreAs). IfOk c.deliver.result (λ next. next ≡ deliver_as k c.args.arrived c.args.context c.args.fetch)) c.kept_by-store_as.ensures c.deliver.ensures
