use Rattle.vcl_runs.specs.Languages.{language_of}
use Rattle.replay.proofs.Dues.{due-calm, due-can, turn-wants}
use Rattle.replay.proofs.Leading.{if_ok}
use Rattle.replay.proofs.turn.TurnProgramPolicy.resume.Goals as goal

pub resume-requires : goal.resume-requires
resume-requires g c =
    let runner = g.M.Runner in
    let language = language_of g.L.Programs.of_text runner.turns runner.targets runner.default_of g.L.Programs.backends in
    due-can language runner.stands runner.fits c.args.self.now c.in-Round.round c.args.given c.in-Round.is c.requires

pub returns-in-Round-clause-calm : goal.returns-in-Round-clause-calm
returns-in-Round-clause-calm g c =
    let runner = g.M.Runner in
    let language = language_of g.L.Programs.of_text runner.turns runner.targets runner.default_of g.L.Programs.backends in
    λ sent. if_ok _ _ c.resume.result
    (λ want wanted. due-calm language runner.stands runner.fits (record { same = g.met.L.Programs.one_meaning; turns = λ program ran one other p q. g.met.M.Runner.one_turn program ran one other p q }) c.args.self.now c.args.given want c.requires
    (turn-wants language runner.stands runner.fits c.args.self.now c.args.given c.in-Round.round want c.in-Round.is wanted) sent)
    c.resume.ensures.wanted
