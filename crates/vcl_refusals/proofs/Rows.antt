-- Rows that mark what calls lead to tell of each subroutine the same.
use Rattle.std.proofs.Common.{◌≡◌, ℕ, suc, Bool, true, false, List, [], ◌∷◌, length, Option, Some, None, refl, sym, ◌∙◌, ap, if◌then◌else◌, slice_index_or, arith}
use Rattle.std.specs.Prelude.{◌↔◌}
use Rattle.vcl_symbols.specs.declared.call_graph.Call.{Call}
use Rattle.vcl_symbols.specs.Calls.{Marked, Reaches}
use Rattle.vcl_language.specs.Names.{is_reserved, subroutine_named}
use Rattle.vcl_language.specs.declared.scope.Subroutine.{Subroutine}
use Rattle.vcl_language.specs.declared.subroutines.TheConstants.{SUBROUTINES}
use Rattle.vcl_check.specs.Reaching.{AreReached, marking, number_in, reaching, roots_by, roots_of}

same-bool : (a b : Bool) → (a ≡ true → b ≡ true) → (b ≡ true → a ≡ true) → b ≡ a
same-bool true b there back = there refl
same-bool false true there back = sym (back refl)
same-bool false false there back = refl

mark-alike : (row other : List Bool) (v : ℕ) (R : Type 0) → Marked row v ↔ R → Marked other v ↔ R → slice_index_or other v false ≡ slice_index_or row v false
mark-alike row other v R p q = same-bool (slice_index_or row v false) (slice_index_or other v false) (λ m. q.1 (p.0 m)) (λ m. p.1 (q.0 m))

marking-alike : (calls : List Call) (k : ℕ) (rows others : List (List Bool)) → length others ≡ length rows → AreReached calls k rows → AreReached calls k others
    → (ss : List Subroutine) (v : ℕ) → marking others ss v ≡ marking rows ss v
marking-alike calls k [] [] long p q ss v = refl
marking-alike calls k [] (other ∷ others) long p q ss v = absurd (omega arith)
marking-alike calls k (row ∷ rows) [] long p q ss v = absurd (omega arith)
marking-alike calls k (row ∷ rows) (other ∷ others) long p q [] v = refl
marking-alike calls k (row ∷ rows) (other ∷ others) long p q (s ∷ ss) v =
    let mark : slice_index_or other v false ≡ slice_index_or row v false = mark-alike row other v (Reaches calls k v) (p.0 v) (q.0 v) in
    let rest : marking others ss v ≡ marking rows ss v = marking-alike calls (suc k) rows others (omega arith) p.1 q.1 ss v in
    ap (λ (b : Bool). if b then s ∷ marking others ss v else marking others ss v) mark
    ∙ ap (λ (xs : List Subroutine). if slice_index_or row v false then s ∷ xs else xs) rest

reaching-alike : (calls : List Call) (rows others : List (List Bool)) → length others ≡ length rows → AreReached calls 0 rows → AreReached calls 0 others
    → (number : Option ℕ) → reaching others number ≡ reaching rows number
reaching-alike calls rows others long p q None = refl
reaching-alike calls rows others long p q (Some v) = marking-alike calls 0 rows others long p q SUBROUTINES v

pub roots-alike : (calls : List Call) (rows others : List (List Bool)) → length others ≡ length rows → AreReached calls 0 rows → AreReached calls 0 others
    → (numbers : List (List ℕ)) (name : List ℕ) → roots_of numbers others name ≡ roots_of numbers rows name
roots-alike calls rows others long p q numbers name =
    ap (λ (ss : List Subroutine). roots_by (subroutine_named name) (is_reserved name) ss) (reaching-alike calls rows others long p q (number_in numbers name))
