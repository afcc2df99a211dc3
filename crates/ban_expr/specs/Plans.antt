-- What a clause says, as far as it can be told without memory.
use Rattle.std.specs.Prelude.{◌≡◌, ⊤, ℕ, pos, List, Some}
use Rattle.units.specs.Durations.{IsDuration}
use Rattle.ban_expr.specs.declared.error.BanError.{BanError}
use Rattle.ban_expr.specs.declared.error.BanError.TheVariants.{Pattern, NoMemory}
use Rattle.ban_expr.specs.declared.subjects.Subject.TheVariants.{OfText, OfTime}
use Rattle.ban_expr.specs.declared.plans.Plan.{Plan}
use Rattle.ban_expr.specs.declared.plans.Plan.TheVariants.{OnText, OnTime}
use Rattle.ban_expr.specs.Fields.{subject_of}
use Rattle.ban_expr.specs.Operators.{text_operator, comparison_of, IsNoPattern}
use Rattle.ban_expr.specs.Reading.{Clause}

-- the clause says this, but for whether its argument is a pattern
abbrev pub IsPlanned : Clause → Plan → Type 0
IsPlanned c (OnText subject operator) =
    (subject_of c.field ≡ Some (OfText subject)) × (text_operator c.operator ≡ Some operator)
IsPlanned c (OnTime field comparison milliseconds) =
    (subject_of c.field ≡ Some (OfTime field))
    × (comparison_of c.operator ≡ Some comparison)
    × ((n : ℕ) × (milliseconds ≡ pos n) × IsDuration c.argument n)

-- what trying a text as a pattern says of it
abbrev pub IsTried : List ℕ → BanError → Type 0
IsTried text Pattern = IsNoPattern text
IsTried text NoMemory = ⊤
IsTried text error = ⊥
