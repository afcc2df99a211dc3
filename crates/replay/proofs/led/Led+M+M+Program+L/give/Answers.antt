use Rattle.vcl_runs.specs.Languages.{language_of}
use Rattle.replay.proofs.Leading.{if_ok, may-at, on_ok, stood-at, stood-off, wants-at, wants-off}
use Rattle.replay.proofs.led.Led+M+M+Program+L.give.Goals as goal

pub resume-requires : goal.resume-requires
resume-requires g c =
    let runner = g.M.Runner in
    let language = language_of g.L.Programs.of_text runner.turns runner.targets runner.default_of g.L.Programs.backends in
    may-at language runner.stands runner.fits c.requires.message c.requires.peer c.args.given c.requires.given c.args.self.now.round c.open.new.self.round c.args.self.now.begun c.args.self.now.program c.open.new.self.program c.in-Some.program _
    c.requires.stood c.in-Ok.ensures.program c.in-Some.is c.in-Ok.ensures.round c.deref.ensures

pub returns-in-Some-clause-stands : goal.returns-in-Some-clause-stands
returns-in-Some-clause-stands g c =
    let runner = g.M.Runner in
    let language = language_of g.L.Programs.of_text runner.turns runner.targets runner.default_of g.L.Programs.backends in
    on_ok _ _ c.resume.result
    (λ step message peer before stood. stood-at language runner.stands runner.fits message peer c.args.given before c.args.self.now.round c.open.new.self.round c.resume.new.self c.args.self.now.begun c.args.self.now.program c.open.new.self.program c.in-Some.program _
    stood c.in-Ok.ensures.program c.in-Some.is c.in-Ok.ensures.round c.deref.ensures (step message peer before) c.open.new.self.begun c.in-Ok.ensures.begun)
    c.resume.ensures.stands

pub returns-in-Some-clause-wanted : goal.returns-in-Some-clause-wanted
returns-in-Some-clause-wanted g c =
    let runner = g.M.Runner in
    let language = language_of g.L.Programs.of_text runner.turns runner.targets runner.default_of g.L.Programs.backends in
    if_ok _ _ c.resume.result
    (λ want step message peer before stood. wants-at language runner.stands runner.fits message peer c.args.given before c.args.self.now.round c.open.new.self.round c.args.self.now.begun c.args.self.now.program c.open.new.self.program c.in-Some.program _ want
    stood c.in-Ok.ensures.program c.in-Some.is c.in-Ok.ensures.round c.deref.ensures (step message peer before))
    c.resume.ensures.wants

pub returns-in-None-clause-stands : goal.returns-in-None-clause-stands
returns-in-None-clause-stands g c =
    let runner = g.M.Runner in
    let language = language_of g.L.Programs.of_text runner.turns runner.targets runner.default_of g.L.Programs.backends in
    λ message peer before stood. stood-off language runner.stands runner.fits message peer c.args.given before c.args.self.now.round c.open.new.self.round c.args.self.now.begun c.args.self.now.program c.open.new.self.program
    stood c.in-Ok.ensures.program c.in-None.is c.open.new.self.begun c.in-Ok.ensures.begun

pub returns-in-None-clause-wanted : goal.returns-in-None-clause-wanted
returns-in-None-clause-wanted g c =
    let runner = g.M.Runner in
    let language = language_of g.L.Programs.of_text runner.turns runner.targets runner.default_of g.L.Programs.backends in
    λ message peer before stood. wants-off language runner.stands runner.fits message peer c.args.given before c.args.self.now.round c.args.self.now.begun c.args.self.now.program c.open.new.self.program
    stood c.in-Ok.ensures.program c.in-None.is
