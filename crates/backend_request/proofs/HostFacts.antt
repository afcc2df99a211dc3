-- Host goes on.
use Rattle.std.proofs.Common.{◌≡◌, ap, ◌⊎◌, inl, inr, Bool, true, false, List, [], ◌∷◌, filter, map, refl}
use Rattle.std.specs.Prelude.{codes}
use Rattle.http_heads.specs.declared.fields.Field.{Field}
use Rattle.http_heads.specs.Fields.{is_named}
use Rattle.freshness.specs.Directives.{values_of}
use Rattle.backend_request.specs.declared.purpose.Purpose.{Purpose}
use Rattle.backend_request.specs.Passed.{stays_in_request, passed_request}

by_bit : (b : Bool) → (b ≡ true) ⊎ (b ≡ false)
by_bit true = inl refl
by_bit false = inr refl

host_stays : (purpose : Purpose) (fields : List Field) (f : Field) → is_named (codes "host") f ≡ true → stays_in_request purpose fields f ≡ true
host_stays purpose fields f named = rw named refl

-- what a test keeps that keeps all of another, the other finds too
kept_all : {X : Type 0} (p q : X → Bool) → ((x : X) → p x ≡ true → q x ≡ true) → (xs : List X) → filter p (filter q xs) ≡ filter p xs
kept_all p q keeps [] = refl
kept_all p q keeps (x ∷ xs) = elim (by_bit (p x)) [
  | inl passes ↦ rw (keeps x passes, passes) (ap (λ l. x ∷ l) (kept_all p q keeps xs))
  | inr fails ↦ elim (by_bit (q x)) [
    | inl kept ↦ rw (kept, fails) (kept_all p q keeps xs)
    | inr left ↦ rw (left, fails) (kept_all p q keeps xs)
  ]
]

pub same_host : (purpose : Purpose) (fields : List Field) → values_of (codes "host") (passed_request purpose fields) ≡ values_of (codes "host") fields
same_host purpose fields =
    ap (map (λ (f : Field). f.value)) (kept_all (is_named (codes "host")) (stays_in_request purpose fields) (host_stays purpose fields) fields)
