-- The first fault over a list, and the faults of its items by their numbers.
use Rattle.std.specs.Prelude.{ℕ, ◌+◌, ◌⊎◌, List, [], ◌∷◌, Option}
use Rattle.vcl_tree.specs.declared.error.Fault.{Fault}
use Rattle.vcl_check.specs.Least.{lesser}

-- the first of a fault so far and those of the items, which are numbered from k on
abbrev pub numbered : {A : Type 0} → (ℕ → A → Option Fault) → ℕ → Option Fault → List A → Option Fault
numbered fault k best [] = best
numbered fault k best (x ∷ xs) = numbered fault (k + 1) (lesser best (fault k x)) xs

-- one of the items has the fault
abbrev pub AnyOf : {A : Type 0} → (ℕ → A → Fault → Type 0) → ℕ → List A → Fault → Type 0
AnyOf P k [] f = ⊥
AnyOf P k (x ∷ xs) f = P k x f ⊎ AnyOf P (k + 1) xs f
