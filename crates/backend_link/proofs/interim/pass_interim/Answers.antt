use Rattle.std.proofs.Common.{arith, sym}
use Rattle.backend_link.proofs.WholeHeads.{not_passed, no_head}
use Rattle.backend_link.proofs.interim.pass_interim.Goals as goal

pub returns-then-not-is_passed : goal.returns-then-not-is_passed
returns-then-not-is_passed c =
    not_passed c.args.bytes.now c.passing.rest.now c.passing.passed c.in-Ok.head c.in-Ok.count (rw c.in-Ok.is at c.in_ok-head.ensures) (sym c.if-not-is_passed.ensures) (omega arith) c.passing.invariant.1

pub returns-in-Err : goal.returns-in-Err
returns-in-Err c =
    no_head c.args.bytes.now c.passing.rest.now c.passing.passed c.in-Err.field-0 (rw c.in-Err.is at c.in_ok-head.ensures) (omega arith) c.passing.invariant.1
