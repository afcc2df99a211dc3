use Rattle.varn_program.proofs.Asking.{too_great}
use Rattle.varn_program.proofs.words.number_of.Goals as goal

pub returns-then-number-gt-MOST : goal.returns-then-number-gt-MOST
returns-then-number-gt-MOST c = λ other option.
    too_great c.args.wanted.now c.args.name.now c.args.value.now c.bytes.result.now c.in_ok-number.number other c.bytes.ensures c.in_ok-number.ensures c.if-number-gt-MOST.true option
