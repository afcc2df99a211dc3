use Rattle.std.proofs.Common.{◌≡◌, Option, sym, subst}
use Rattle.std.specs.Prelude.{IfOk}
use Rattle.cache_law.specs.declared.call.Query.{Query}
use Rattle.fetch_graph.specs.Graph.{insertion_first}
use Rattle.fetch_graph.proofs.keeping.hand_over.Goals as goal

pub returns-in-None : goal.returns-in-None
unfolding insertion_first
returns-in-None c =
    subst (λ (looked : Option Query). IfOk c.deliver_passed.result (λ next. next ≡ insertion_first looked c.args.store_as c.args.response c.args.context c.args.fetch))
    (sym c.in-None.is) c.deliver_passed.ensures

pub returns-in-Some : goal.returns-in-Some
returns-in-Some c =
    subst (λ (looked : Option Query). IfOk c.insert.result (λ next. next ≡ insertion_first looked c.args.store_as c.args.response c.args.context c.args.fetch))
    (sym c.in-Some.is) (c.insert.ensures c.in-Some.field-0)
