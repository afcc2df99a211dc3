use Rattle.std.proofs.Common.{sym, ◌∙◌, ◌≤◌, subst, ℕ}
use Rattle.std.proofs.lemmas.Option.{none-some}
use Rattle.units.proofs.Splits.{unit_known, value_known}
use Rattle.units.specs.Durations.{millis_limit}
use Rattle.units.proofs.durations.read_millis.Goals as goal

pub returns-in_err-unit : goal.returns-in_err-unit
returns-in_err-unit c = rw c.from_residual-in_err-unit.ensures (λ n d.
    none-some d.each (c.in_err-unit.ensures.value ∙ unit_known c.args.bytes.now _ _ _ n c.in_ok-parts.ensures d))

pub returns-in_err-millis : goal.returns-in_err-millis
returns-in_err-millis c = rw c.from_residual-in_err-millis.ensures (λ n d.
    let e = value_known c.args.bytes.now _ _ _ _ n c.in_ok-parts.ensures (sym c.in_ok-unit.ensures.value) d in
    let at : ℕ → Type 0 = λ m. m ≤ millis_limit in
    c.in_err-millis.ensures (subst at e d.range))
