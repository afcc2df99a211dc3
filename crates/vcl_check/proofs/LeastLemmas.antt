-- The least of several faults.
use Rattle.std.proofs.Common.{◌≡◌, ℕ, ◌+◌, Bool, true, false, List, [], ◌∷◌, ◌⊎◌, inl, inr, refl, sym, subst, Option, Some, None, if◌then◌else◌}
use Rattle.vcl_tree.specs.Faults.{comes_before}
use Rattle.vcl_tree.specs.declared.error.Fault.{Fault}
use Rattle.vcl_check.specs.Least.{lesser}
use Rattle.vcl_check.specs.Faults.{IsLeastOf}
use Rattle.vcl_check.specs.Folded.{numbered, AnyOf}
use Rattle.vcl_check.proofs.Order.{comes-itself, comes-over, comes-behind}

some-none : (f : Fault) → None ≡ Some f → ⊥
some-none f e = cc

some-some : (x f : Fault) → Some x ≡ Some f → x ≡ f
some-some x f e = cc

-- no first fault of two is none of each
picked : (x y : Fault) (b : Bool) → (if b then Some y else Some x) ≡ None → ⊥
picked x y true e = absurd (some-none y (sym e))
picked x y false e = absurd (some-none x (sym e))

pub neither : (a b : Option Fault) → lesser a b ≡ None → (a ≡ None) × (b ≡ None)
neither None b e = (refl, e)
neither (Some x) None e = absurd (some-none x (sym e))
neither (Some x) (Some y) e = absurd (picked x y (comes_before y x) e)

-- the same faults
pub least-along : (P Q : Fault → Type 0) (o : Option Fault) → ((f : Fault) → P f → Q f) → ((f : Fault) → Q f → P f) → IsLeastOf P o → IsLeastOf Q o
least-along P Q None there back h = λ f q. h f (back f q)
least-along P Q (Some x) there back h = (there x h.0, λ f q. h.1 f (back f q))

-- a fault that is known
pub least-option : (o : Option Fault) → IsLeastOf (λ f. o ≡ Some f) o
least-option None = λ f e. some-none f e
least-option (Some x) = (refl, λ f e. let P : Fault → Type 0 = λ g. comes_before g x ≡ false in subst P (some-some x f e) (comes-itself x))

either-picked : (P Q : Fault → Type 0) (x y : Fault) → IsLeastOf P (Some x) → IsLeastOf Q (Some y)
    → (b : Bool) → comes_before y x ≡ b → IsLeastOf (λ f. P f ⊎ Q f) (if b then Some y else Some x)
either-picked P Q x y h k true e = (inr k.0, λ f s. elim s [ inl p ↦ comes-over f x y (h.1 f p) e | inr q ↦ k.1 f q ])
either-picked P Q x y h k false e = (inl h.0, λ f s. elim s [ inl p ↦ h.1 f p | inr q ↦ comes-behind f x y (k.1 f q) e ])

-- the faults of two kinds
pub least-either : (P Q : Fault → Type 0) (a b : Option Fault) → IsLeastOf P a → IsLeastOf Q b → IsLeastOf (λ f. P f ⊎ Q f) (lesser a b)
least-either P Q None None h k = λ f s. elim s [ inl p ↦ h f p | inr q ↦ k f q ]
least-either P Q None (Some y) h k = (inr k.0, λ f s. elim s [ inl p ↦ absurd (h f p) | inr q ↦ k.1 f q ])
least-either P Q (Some x) None h k = (inl h.0, λ f s. elim s [ inl p ↦ h.1 f p | inr q ↦ absurd (k f q) ])
least-either P Q (Some x) (Some y) h k = either-picked P Q x y h k (comes_before y x) refl

-- no faults
pub least-none : (P : Fault → Type 0) → ((f : Fault) → P f → ⊥) → IsLeastOf P None
least-none P h = h

-- the faults of the items of a list, beside those of which one is the first so far
pub least-numbered : {A : Type 0} (P : ℕ → A → Fault → Type 0) (fault : ℕ → A → Option Fault) → ((k : ℕ) (x : A) → IsLeastOf (P k x) (fault k x))
    → (Q : Fault → Type 0) (k : ℕ) (best : Option Fault) (xs : List A) → IsLeastOf Q best → IsLeastOf (λ f. Q f ⊎ AnyOf P k xs f) (numbered fault k best xs)
least-numbered P fault h Q k best [] q = least-along Q (λ f. Q f ⊎ AnyOf P k [] f) best (λ f p. inl p) (λ f s. elim s [ inl p ↦ p | inr n ↦ absurd n ]) q
least-numbered P fault h Q k best (x ∷ xs) q =
    least-along (λ f. (Q f ⊎ P k x f) ⊎ AnyOf P (k + 1) xs f) (λ f. Q f ⊎ AnyOf P k (x ∷ xs) f) (numbered fault (k + 1) (lesser best (fault k x)) xs)
    (λ f s. elim s [ inl s ↦ elim s [ inl a ↦ inl a | inr b ↦ inr (inl b) ] | inr n ↦ inr (inr n) ])
    (λ f s. elim s [ inl a ↦ inl (inl a) | inr s ↦ elim s [ inl b ↦ inl (inr b) | inr n ↦ inr n ] ])
    (least-numbered P fault h (λ f. Q f ⊎ P k x f) (k + 1) (lesser best (fault k x)) xs (least-either Q (P k x) best (fault k x) q (h k x)))
