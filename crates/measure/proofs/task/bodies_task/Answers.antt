-- The digits are of one number alone.
use Rattle.measure.proofs.Words.{no_pieces}
use Rattle.measure.proofs.task.bodies_task.Goals as goal

pub returns-in-Some-eq0 : goal.returns-in-Some-eq0
returns-in-Some-eq0 c task says =
    let number = c.in-Some-eq0.ensures in
    no_pieces c.args.word.now c.args.shape.now c.args.piece.now c.in-Some-eq0.field-0 task c.in-Some-eq0.field-0-test number.0 number.1 says
