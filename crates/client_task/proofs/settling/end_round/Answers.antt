use Rattle.client_task.proofs.settling.end_round.Goals as goal

pub returns : goal.returns
returns g c = c.rest.ensures
