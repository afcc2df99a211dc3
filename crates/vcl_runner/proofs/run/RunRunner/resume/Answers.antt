use Rattle.vcl_eval.specs.Turns.{IsSureAt}
use Rattle.vcl_runner.specs.Standing.{left_after}
use Rattle.vcl_runner.proofs.Nexts.{stands-sure, resumed-stands, resumed-turns, resumed-awaits, resumed-less}
use Rattle.vcl_runner.proofs.run.RunRunner.resume.Goals as goal

pub resume-requires-clause-sure : goal.resume-requires-clause-sure
resume-requires-clause-sure g c =
    let p = c.args.program.now in
    let ran = c.requires.stands.0 in
    let here : IsSureAt p.compiled.code p.functions.stored c.args.self.now.machine =
    stands-sure p.compiled.code p.functions.stored (left_after p.compiled.program.tree.items p.compiled.program.stored ran) c.args.self.now.machine.waiting c.requires.stands.1.0 c.requires.stands.1.1 in
    rw (c.deref.ensures) here

pub returns-clause-stands : goal.returns-clause-stands
returns-clause-stands g c =
    resumed-stands c.args.program.now.compiled.code c.args.program.now.compiled.program.tree.items c.args.program.now.compiled.program.stored c.args.program.now.functions.stored c.args.answer
    c.args.self.now.machine c.resume.new.self c.resume.result (rw (c.deref.ensures) at c.resume.ensures.turn) c.resume.ensures.suits c.resume.ensures.alive

pub returns-clause-turns : goal.returns-clause-turns
returns-clause-turns g c =
    resumed-turns c.args.program.now.compiled.code c.args.program.now.compiled.program.tree.items c.args.program.now.compiled.program.stored c.args.program.now.functions.stored c.args.answer
    c.args.self.now.machine c.resume.new.self c.resume.result (rw (c.deref.ensures) at c.resume.ensures.turn) c.resume.ensures.alive

pub returns-clause-fits : goal.returns-clause-fits
returns-clause-fits g c = resumed-awaits c.resume.result c.resume.new.self c.resume.ensures.suits

pub returns-clause-less : goal.returns-clause-less
returns-clause-less g c = resumed-less c.args.program.now.compiled.code _ c.resume.result c.resume.new.self c.resume.ensures.less
