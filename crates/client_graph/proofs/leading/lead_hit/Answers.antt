use Rattle.std.proofs.Common.{Option, ap, ◌∙◌}
use Rattle.client_graph.specs.declared.round.HeldFetch.{HeldFetch}
use Rattle.client_graph.specs.declared.round.Next.{Next}
use Rattle.client_graph.specs.Graph.{giving_up}
use Rattle.client_graph.proofs.Words.{hit-other}
use Rattle.client_graph.proofs.leading.lead_hit.Goals as goal

pub returns-in-Ok : goal.returns-in-Ok
returns-in-Ok c =
    c.give_up-in_default.ensures
    ∙ ap (λ (h : Option HeldFetch). giving_up h c.in-Ok.next) c.held_of-in_default.ensures
    ∙ ap (λ (n : Next). giving_up c.args.found.held n) c.in-Ok.ensures
    ∙ hit-other c.args.found c.args.word.now c.args.context c.args.round c.in_default.not-Deliver c.in_default.not-Pass
