-- What a clock tells, over many calls.
use Rattle.std.proofs.Common.{ℕ, List, [], ◌∷◌, ◌++◌, Option, Some, None, refl, sym, ◌∙◌, ap, inl, inr}
use Rattle.std.proofs.lemmas.List.{append-nil, append_assoc}
use Rattle.wire.specs.Tapes.{Tape, Tells, GoesOn, WasTold}

pub GoesOn-none : (tape : Option Tape) → GoesOn tape tape []
GoesOn-none None = tt
GoesOn-none (Some t) = (sym (append-nil t.told), refl)

pub GoesOn-trans : (first second third : Option Tape) (values more : List ℕ) → GoesOn first second values → GoesOn second third more → GoesOn first third (values ++ more)
GoesOn-trans None None None values more x y = tt
GoesOn-trans None None (Some c) values more x y = absurd y
GoesOn-trans None (Some b) third values more x y = absurd x
GoesOn-trans (Some a) None third values more x y = absurd x
GoesOn-trans (Some a) (Some b) None values more x y = absurd y
GoesOn-trans (Some a) (Some b) (Some c) values more x y = (
  y.0 ∙ ap (λ (l : List ℕ). l ++ more) x.0 ∙ append_assoc a.told values more,
  x.1 ∙ ap (λ (l : List ℕ). values ++ l) y.1 ∙ sym (append_assoc values more c.left),
)

-- what was told stays told
pub WasTold-later : (before after : Option Tape) (values : List ℕ) (value : ℕ) → GoesOn before after values → WasTold before value → WasTold after value
WasTold-later None None values value x h = tt
WasTold-later None (Some b) values value x h = absurd x
WasTold-later (Some a) None values value x h = absurd x
WasTold-later (Some a) (Some b) values value x h =
    (h.0, h.1 ++ values, x.0 ∙ ap (λ (l : List ℕ). l ++ values) h.2 ∙ append_assoc h.0 (value ∷ h.1) values)

-- a tape goes on where a value is told, by that value or by none
pub Tells-goes_on : (before after : Option Tape) (value : ℕ) → Tells before after value → (values : List ℕ) × GoesOn before after values
Tells-goes_on None None value h = ([], tt)
Tells-goes_on None (Some b) value h = absurd h
Tells-goes_on (Some a) None value h = absurd h
Tells-goes_on (Some a) (Some b) value (inl h) = (value ∷ [], (h.told, h.left))
Tells-goes_on (Some a) (Some b) value (inr h) =
    ([], (ap (λ (t : Tape). t.told) h.same ∙ sym (append-nil a.told), sym (ap (λ (t : Tape). t.left) h.same)))

-- and the value was told then
pub Tells-was_told : (before after : Option Tape) (value : ℕ) → Tells before after value → WasTold after value
Tells-was_told None None value h = tt
Tells-was_told None (Some b) value h = absurd h
Tells-was_told (Some a) None value h = absurd h
Tells-was_told (Some a) (Some b) value (inl h) = (a.told, [], h.told)
Tells-was_told (Some a) (Some b) value (inr h) = (h.front, [], ap (λ (t : Tape). t.told) h.same ∙ h.last)
