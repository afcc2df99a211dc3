-- Arguments by their places.
use Rattle.std.proofs.Common.{◌≡◌, ℕ, zero, suc, ◌≤◌, List, [], ◌∷◌, ◌++◌, length, refl, sym, ap, Option, Some, None, arith}
use Rattle.std.proofs.lemmas.Option.{none-some, same_Some}
use Rattle.vcl_values.specs.declared.value.Kind.{Kind}
use Rattle.vcl_values.specs.declared.value.Kind.TheVariants as kind
use Rattle.vcl_language.specs.declared.functions.Slot.{Slot}
use Rattle.vcl_check.specs.declared.seen.Argument.{Argument}
use Rattle.vcl_check.specs.Calls.{with_argument}
use Rattle.vcl_check.specs.Known.{values, takes_values, takes_behind_jar}

pub not-none : {A : Type 0} (x : A) → Some x ≡ None → ⊥
not-none x e = none-some x (sym e)

-- what stands in so many places
abbrev pub placed : ℕ → List Argument → List (Option Argument)
placed zero xs = []
placed (suc n) [] = None ∷ placed n []
placed (suc n) (x ∷ xs) = Some x ∷ placed n xs

pub one-placed : (n : ℕ) (xs : List Argument) (a : Argument) → with_argument (placed n xs) a ≡ placed n (xs ++ a ∷ [])
one-placed zero xs a = refl
one-placed (suc n) [] a = refl
one-placed (suc n) (x ∷ xs) a = ap (λ (ys : List (Option Argument)). Some x ∷ ys) (one-placed n xs a)

-- all four places are taken
abbrev pub AreFour : List (Option Argument) → Type 0
AreFour given = (p : Argument) × (q : Argument) × (r : Argument) × (s : Argument) × (given ≡ Some p ∷ Some q ∷ Some r ∷ Some s ∷ [])

pub four-placed : (xs : List Argument) (a b c d : Argument) → AreFour (with_argument (with_argument (with_argument (with_argument (placed 4 xs) a) b) c) d)
four-placed [] a b c d = (a, b, c, d, refl)
four-placed (w ∷ []) a b c d = (w, a, b, c, refl)
four-placed (w ∷ x ∷ []) a b c d = (w, x, a, b, refl)
four-placed (w ∷ x ∷ y ∷ []) a b c d = (w, x, y, a, refl)
four-placed (w ∷ x ∷ y ∷ z ∷ more) a b c d = (w, x, y, z, refl)

-- what a stored function takes
pub values-are : (kinds : List Kind) (t : List Slot) → takes_values kinds ≡ Some t → (length kinds ≤ 3) × (values 3 kinds ≡ t)
values-are [] t e = (omega arith, same_Some _ t e)
values-are (a ∷ []) t e = (omega arith, same_Some _ t e)
values-are (a ∷ b ∷ []) t e = (omega arith, same_Some _ t e)
values-are (a ∷ b ∷ c ∷ []) t e = (omega arith, same_Some _ t e)
values-are (a ∷ b ∷ c ∷ d ∷ more) t e = absurd (none-some t e)

-- the same behind the jar's text
pub behind-are : (kinds : List Kind) (t : List Slot) → takes_behind_jar kinds ≡ Some t → (written : List Kind) × (kinds ≡ kind.String ∷ written) × (length written ≤ 3) × (values 3 written ≡ t)
behind-are (kind.String ∷ []) t e = ([], refl, omega arith, same_Some _ t e)
behind-are (kind.String ∷ a ∷ []) t e = (a ∷ [], refl, omega arith, same_Some _ t e)
behind-are (kind.String ∷ a ∷ b ∷ []) t e = (a ∷ b ∷ [], refl, omega arith, same_Some _ t e)
behind-are (kind.String ∷ a ∷ b ∷ c ∷ more) t e = absurd (none-some t e)
behind-are (kind.Int ∷ more) t e = absurd (none-some t e)
behind-are (kind.Duration ∷ more) t e = absurd (none-some t e)
behind-are (kind.Bool ∷ more) t e = absurd (none-some t e)
behind-are (kind.Ip ∷ more) t e = absurd (none-some t e)
behind-are (kind.Backend ∷ more) t e = absurd (none-some t e)
behind-are [] t e = absurd (none-some t e)
