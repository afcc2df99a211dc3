use Rattle.command_line.proofs.Numbers.{too_small, too_great}
use Rattle.command_line.proofs.given.number_in.Goals as goal

pub returns-then-number-least : goal.returns-then-number-least
returns-then-number-least c = λ other w.
    too_small c.args.least c.args.most c.bytes.result.now c.args.word.now c.in_ok-number.number other c.bytes.ensures c.in_ok-number.ensures c.if-number-least.true w

pub returns-then-number-most : goal.returns-then-number-most
returns-then-number-most c = λ other w.
    too_great c.args.least c.args.most c.bytes.result.now c.args.word.now c.in_ok-number.number other c.bytes.ensures c.in_ok-number.ensures c.if-number-most.true w
