use Rattle.std.proofs.Common.{sym, subst, List, ℕ}
use Rattle.units.specs.Numbers.{IsNumber}
use Rattle.varn_program.proofs.Texts.{same_number}
use Rattle.varn_program.proofs.limits.number_or.Goals as goal

pub returns-in-Some-read_number : goal.returns-in-Some-read_number
returns-in-Some-read_number c = λ number value.
    let read = rw c.in-Some.is at value in
    same_number c.as_bytes.result.now c.in-Some-read_number.number number c.in-Some-read_number.ensures
    (subst (λ (t : List ℕ). IsNumber t number) (sym c.as_bytes.ensures.value) read.0)
