use Rattle.vcl_runs.specs.Evaluators.{evaluator}
use Rattle.round_task.proofs.Settling.{each-client, each-fetch, each-opening, each-over, if_ok, may-client, may-fetch, not-broken, over-may}
use Rattle.round_task.proofs.round.take_up.Goals as goal

pub returns-in-Opening : goal.returns-in-Opening
returns-in-Opening g c =
    let runner = g.M.Runner in
    let e = evaluator runner.turns runner.targets runner.default_of c.args.program.now in
    record {
      broken = λ b. absurd (not-broken _ _ c.in-Opening.is (λ x. x) b);
      settles = if_ok _ _ c.open.result
          (λ settled h. each-opening e (λ run ran. runner.stands run c.args.program.now ran) runner.fits c.args.drawn c.args.place c.in-Opening.request c.in-Opening.peer c.args.given settled c.in-Opening.is h)
          c.open.ensures.settles;
      goes_on = c.open.ensures.goes_on;
    }

pub to_client-requires : goal.to_client-requires
to_client-requires g c = record { may = may-client (λ run ran. g.M.Runner.stands run c.args.program.now ran) g.M.Runner.fits c.args.place c.in-Client.client c.in-Client.is c.requires }

pub returns-in-Client : goal.returns-in-Client
returns-in-Client g c =
    let runner = g.M.Runner in
    let e = evaluator runner.turns runner.targets runner.default_of c.args.program.now in
    record {
      broken = λ b. absurd (not-broken _ _ c.in-Client.is (λ x. x) b);
      settles = if_ok _ _ c.to_client.result
          (λ settled h. each-client e (λ run ran. runner.stands run c.args.program.now ran) runner.fits c.args.drawn c.args.place c.in-Client.client c.args.given settled c.in-Client.is h)
          c.to_client.ensures.settles;
      goes_on = c.to_client.ensures.goes_on;
    }

pub to_fetch-requires : goal.to_fetch-requires
to_fetch-requires g c = record { may = may-fetch (λ run ran. g.M.Runner.stands run c.args.program.now ran) g.M.Runner.fits c.args.place c.in-Fetch.client c.in-Fetch.number c.in-Fetch.fetch c.in-Fetch.is c.requires }

pub returns-in-Fetch : goal.returns-in-Fetch
returns-in-Fetch g c =
    let runner = g.M.Runner in
    let e = evaluator runner.turns runner.targets runner.default_of c.args.program.now in
    record {
      broken = λ b. absurd (not-broken _ _ c.in-Fetch.is (λ x. x) b);
      settles = if_ok _ _ c.to_fetch.result
          (λ settled h. each-fetch e (λ run ran. runner.stands run c.args.program.now ran) runner.fits c.args.drawn c.args.place c.in-Fetch.client c.in-Fetch.number c.in-Fetch.fetch c.args.given settled c.in-Fetch.is h)
          c.to_fetch.ensures.settles;
      goes_on = c.to_fetch.ensures.goes_on;
    }

pub returns-in-Over : goal.returns-in-Over
returns-in-Over g c =
    let runner = g.M.Runner in
    let e = evaluator runner.turns runner.targets runner.default_of c.args.program.now in
    record {
      broken = λ b. absurd (not-broken _ _ c.in-Over.is (λ x. x) b);
      settles = each-over e (λ run ran. runner.stands run c.args.program.now ran) runner.fits c.args.drawn c.args.place c.args.given c.over.result c.in-Over.is c.over.ensures;
      goes_on = over-may (λ run ran. runner.stands run c.args.program.now ran) runner.fits c.over.result c.over.ensures;
    }
