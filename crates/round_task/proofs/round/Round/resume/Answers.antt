use Rattle.std.proofs.Common.{◌∙◌}
use Rattle.vcl_runs.specs.Evaluators.{evaluator}
use Rattle.round_task.proofs.Settling.{may-at, settles-at, stands-next, wants-next}
use Rattle.round_task.proofs.round.Round.resume.Goals as goal

pub take_up-requires : goal.take_up-requires
take_up-requires g c = may-at (λ run ran. g.M.Runner.stands run c.args.program.now ran) g.M.Runner.fits _ c.args.self.now.place c.replace-place.ensures.value c.requires

pub returns-clause-stands : goal.returns-clause-stands
returns-clause-stands g c =
    let runner = g.M.Runner in
    let e = evaluator runner.turns runner.targets runner.default_of c.args.program.now in
    let each = settles-at e (λ run ran. runner.stands run c.args.program.now ran) runner.fits c.args.drawn c.replace-place.result c.args.self.now.place c.args.given c.in_ok-settled.settled c.replace-place.ensures.value c.in_ok-settled.ensures.settles in
    stands-next e (λ run ran. runner.stands run c.args.program.now ran) runner.fits c.args.drawn c.args.self.now.place c.args.given c.in_ok-settled.settled each

pub returns-clause-wants : goal.returns-clause-wants
returns-clause-wants g c =
    let runner = g.M.Runner in
    let e = evaluator runner.turns runner.targets runner.default_of c.args.program.now in
    let each = settles-at e (λ run ran. runner.stands run c.args.program.now ran) runner.fits c.args.drawn c.replace-place.result c.args.self.now.place c.args.given c.in_ok-settled.settled c.replace-place.ensures.value c.in_ok-settled.ensures.settles in
    wants-next e (λ run ran. runner.stands run c.args.program.now ran) runner.fits c.args.drawn c.args.self.now.place c.args.given c.in_ok-settled.settled each

pub returns-clause-broken : goal.returns-clause-broken
returns-clause-broken g c = λ b. c.in_ok-settled.ensures.broken (c.replace-place.ensures.value ∙ b)
