use Rattle.client_graph.specs.Opening.{opening}
use Rattle.client_task.specs.Rounds.{evaluator}
use Rattle.client_task.proofs.Places.{goes-on-first, stands-first}
use Rattle.client_task.proofs.client.Client.start.Goals as goal

pub returns : goal.returns
returns g c =
    let runner = g.M.Runner in
    record {
      stands = λ program. stands-first (evaluator runner.turns runner.targets program) (λ run ran. runner.stands run program ran) runner.fits _
          c.in_ok-next.next (opening c.args.number c.args.vcl c.args.request c.args.peer) c.in_ok-place.ensures c.in_ok-next.ensures;
      goes_on = λ program. goes-on-first (λ run ran. runner.stands run program ran) runner.fits _ c.in_ok-next.next c.in_ok-place.ensures;
    }
