use Rattle.std.proofs.Common.{◌∷◌, ◌∙◌}
use Rattle.std.proofs.lemmas.Bool.{false≢true}
use Rattle.client_task.specs.Rounds.{evaluator}
use Rattle.client_task.proofs.Places.{goes-on-next, may-at, settles-at, stands-at, stands-next, wants-next}
use Rattle.client_task.proofs.client.Client.resume.Goals as goal

pub take_up-requires : goal.take_up-requires
take_up-requires g c = may-at (λ run ran. g.M.Runner.stands run c.args.program.now ran) g.M.Runner.fits _ c.args.self.now.place c.replace-before.ensures.old c.requires

pub returns-clause-stands : goal.returns-clause-stands
returns-clause-stands g c =
    let runner = g.M.Runner in
    let e = evaluator runner.turns runner.targets c.args.program.now in
    let each = settles-at e (λ run ran. runner.stands run c.args.program.now ran) runner.fits c.replace-before.result c.args.self.now.place c.args.given c.in_ok-settled.settled c.replace-before.ensures.old c.in_ok-settled.ensures.settles in
    λ opened givens at. stands-at e (λ run ran. runner.stands run c.args.program.now ran) runner.fits _ _ opened (c.args.given ∷ givens) c.replace.ensures.new
    (stands-next e _ runner.fits c.args.self.now.place c.args.given c.in_ok-settled.settled each opened givens at)

pub returns-clause-wants : goal.returns-clause-wants
returns-clause-wants g c =
    let runner = g.M.Runner in
    let e = evaluator runner.turns runner.targets c.args.program.now in
    let each = settles-at e (λ run ran. runner.stands run c.args.program.now ran) runner.fits c.replace-before.result c.args.self.now.place c.args.given c.in_ok-settled.settled c.replace-before.ensures.old c.in_ok-settled.ensures.settles in
    wants-next e _ runner.fits c.args.self.now.place c.args.given c.in_ok-settled.settled each

pub returns-clause-goes_on : goal.returns-clause-goes_on
returns-clause-goes_on g c =
    let runner = g.M.Runner in
    let e = evaluator runner.turns runner.targets c.args.program.now in
    let each = settles-at e (λ run ran. runner.stands run c.args.program.now ran) runner.fits c.replace-before.result c.args.self.now.place c.args.given c.in_ok-settled.settled c.replace-before.ensures.old c.in_ok-settled.ensures.settles in
    let on = goes-on-next e _ runner.fits c.args.self.now.place c.args.given c.in_ok-settled.settled each c.requires (λ b. false≢true (c.in_ok-settled.ensures.broken (c.replace-before.ensures.old ∙ b))) in
    may-at (λ run ran. runner.stands run c.args.program.now ran) runner.fits _ _ c.replace.ensures.new on

pub returns-clause-broken : goal.returns-clause-broken
returns-clause-broken g c = λ b. c.in_ok-settled.ensures.broken (c.replace-before.ensures.old ∙ b)
