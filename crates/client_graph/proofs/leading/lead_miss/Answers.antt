use Rattle.std.proofs.Common.{Some, ap, ◌∙◌}
use Rattle.client_graph.specs.declared.round.Next.{Next}
use Rattle.client_graph.specs.Graph.{giving_up}
use Rattle.client_graph.proofs.Words.{miss-other}
use Rattle.client_graph.proofs.leading.lead_miss.Goals as goal

pub returns-in-Ok : goal.returns-in-Ok
returns-in-Ok c =
    c.give_up-in_default.ensures
    ∙ ap (λ (n : Next). giving_up (Some c.args.held) n) c.in-Ok.ensures
    ∙ miss-other c.args.held c.args.word.now c.args.context c.args.round c.in_default.not-Fetch c.in_default.not-Pass
