-- One want is answered, and the round is asked again.
use Rattle.vcl_runs.specs.Evaluators.{evaluator}
use Rattle.round_lead.proofs.Onward.{fails, goes_one, stops_behind}
use Rattle.round_lead.proofs.Told.{Went-told}
use Rattle.wire.specs.Telling.{told_by}
use Rattle.round_lead.proofs.following.ask_next.Goals as goal

pub returns-in-Err-clause-stops : goal.returns-in-Err-clause-stops
returns-in-Err-clause-stops g c = fails _ _ _ _ _ _ c.args.want _ _ c.in-Err.cut c.in-Err.ensures.cut

pub returns-in-Ok-resume-clause-goes : goal.returns-in-Ok-resume-clause-goes
returns-in-Ok-resume-clause-goes g c =
    let program = c.args.program.now in
    rw c.word-word.ensures.readings (goes_one (evaluator g.M.Runner.turns g.M.Runner.targets g.M.Runner.default_of program) (λ run ran. g.M.Runner.stands run program ran) g.M.Runner.fits
    (told_by g.D.Link.Link.flow g.D.Link.Link.read_faults g.D.Link.Link.write_faults g.D.Link.Link.peer g.D.Link.Link.is_open) (g.P.Programs.backends program) c.args.machine.now.place c.resume.new.self.place c.args.want c.in-Ok-resume.next _ _ _ c.in-Ok.given c.word-word.result
    c.word-word.ensures.word c.in-Ok.ensures.given c.in-Ok-resume.ensures.stands c.in-Ok-resume.ensures.wants)

pub returns-in-Err-resume-clause-stops : goal.returns-in-Err-resume-clause-stops
returns-in-Err-resume-clause-stops g c =
    let program = c.args.program.now in
    rw c.word-word.ensures.readings (stops_behind (evaluator g.M.Runner.turns g.M.Runner.targets g.M.Runner.default_of program) (λ run ran. g.M.Runner.stands run program ran) g.M.Runner.fits
    (told_by g.D.Link.Link.flow g.D.Link.Link.read_faults g.D.Link.Link.write_faults g.D.Link.Link.peer g.D.Link.Link.is_open) (g.P.Programs.backends program) c.args.machine.now.place c.args.want _ _ _ c.in-Ok.given (Went-told _ _ c.word-word.result c.word-word.ensures.word) c.in-Ok.ensures.given)
