use Rattle.vcl_eval.proofs.Turns.{turn-answered}
use Rattle.vcl_eval.proofs.Sure.{waiting-along, turned-sure}
use Rattle.vcl_eval.proofs.machine.Machine.resume.Goals as goal

pub answered-requires-clause-sure : goal.answered-requires-clause-sure
answered-requires-clause-sure g c = waiting-along c.args.program.now.code c.args.functions.now.stored c.args.self.now.waiting c.in-Some.waiting c.in-Some.is c.requires.sure

pub returns-in-Ok-clause-turn : goal.returns-in-Ok-clause-turn
returns-in-Ok-clause-turn g c =
    λ left at. turn-answered c.args.program.now.code c.args.functions.now.stored left c.args.answer c.args.self.now.waiting c.in-Some.waiting c.answered.new.self c.in-Ok.stop c.stopped.result c.stopped.new.self
    c.in-Some.is at (c.in-Ok.ensures.value left) (c.stopped.ensures.turn c.args.program.now.code c.args.functions.now.stored)

pub returns-in-Ok-clause-sure : goal.returns-in-Ok-clause-sure
returns-in-Ok-clause-sure g c =
    let code = c.args.program.now.code in
    let stored = c.args.functions.now.stored in
    turned-sure code stored c.args.answer c.args.self.now.waiting c.in-Some.waiting c.stopped.result c.stopped.new.self c.in-Some.is c.requires.suits c.requires.sure
    (λ left at. turn-answered code stored left c.args.answer c.args.self.now.waiting c.in-Some.waiting c.answered.new.self c.in-Ok.stop c.stopped.result c.stopped.new.self c.in-Some.is at
    (c.in-Ok.ensures.value left) (c.stopped.ensures.turn code stored)) c.stopped.ensures.suits
