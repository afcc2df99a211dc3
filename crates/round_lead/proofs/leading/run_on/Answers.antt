-- A round asked for its first want, and on to where its End is wanted.
use Rattle.std.proofs.Common.{[], inl}
use Rattle.std.proofs.lemmas.Result.{on_ok_weaker, IfErr-weaker}
use Rattle.vcl_runs.specs.Languages.{language_of}
use Rattle.round_task.specs.declared.want.Want.TheVariants.{Done}
use Rattle.round_lead.specs.Steps.{stood}
use Rattle.round_lead.proofs.Going.{cut_at_once, whole_from, cuts_from}
use Rattle.wire.specs.Telling.{told_by}
use Rattle.round_lead.proofs.leading.run_on.Goals as goal

pub resume-requires : goal.resume-requires
resume-requires g c = c.start-machine.ensures.goes_on c.args.program.now

pub returns-in-Ok-clause-whole : goal.returns-in-Ok-clause-whole
returns-in-Ok-clause-whole g c =
    let start = c.start-machine.ensures.stands c.args.program.now in
    let whole = rw c.word-word.ensures.readings at c.follow.ensures.whole in
    on_ok_weaker c.follow.result
    (λ w. whole_from _ _ _ _ _ _ _ c.args.program.now _ _ _ _ _ c.word-word.result c.word-word.ensures.word c.requires.ran
    (c.in-Ok.ensures.stands c.args.request c.args.peer [] start) (c.in-Ok.ensures.wants c.args.request c.args.peer [] start) w.0 w.1)
    whole

pub returns-in-Ok-clause-cut : goal.returns-in-Ok-clause-cut
returns-in-Ok-clause-cut g c =
    let start = c.start-machine.ensures.stands c.args.program.now in
    let stops = rw c.word-word.ensures.readings at c.follow.ensures.stops in
    IfErr-weaker c.follow.result _ _
    (λ cut stopped. inl (cuts_from _ _ _ _ _ _ _ c.args.program.now _ _ _ _ _ c.word-word.result c.word-word.ensures.word c.requires.ran
    (c.in-Ok.ensures.stands c.args.request c.args.peer [] start) (c.in-Ok.ensures.wants c.args.request c.args.peer [] start) cut stopped))
    stops

pub returns-clause-cut : goal.returns-clause-cut
returns-clause-cut g c =
    let program = c.args.program.now in
    let first = stood g.D.Dialer.talks g.D.Dialer.dial_faults g.K.Clock.readings g.K.Clock.words c.args.shift.now (g.L.Link.flow c.args.link.now) c.args.progress.now in
    rw c.word-word.ensures.readings (inl (cut_at_once
    (language_of g.P.Programs.of_text g.M.Runner.turns g.M.Runner.targets g.M.Runner.default_of g.P.Programs.backends) (told_by g.D.Link.Link.flow g.D.Link.Link.read_faults g.D.Link.Link.write_faults g.D.Link.Link.peer g.D.Link.Link.is_open)
    (λ run ran. g.M.Runner.stands run program ran) g.M.Runner.fits c.args.request c.args.peer c.args.told program c.resume.new.self.place Done first first _ c.word-word.result
    c.word-word.ensures.word c.requires.ran))
