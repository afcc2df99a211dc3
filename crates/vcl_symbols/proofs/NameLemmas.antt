-- Positions in a list with one name more, and maps that know them.
use Rattle.std.proofs.Common.{◌≡◌, ℕ, ◌+◌, Bool, true, false, cond, List, [], ◌∷◌, ◌++◌, length, ◌<◌, map, take, get_or, Option, Some, None, is_some, position, sym, ◌∙◌, ap, subst, refl, add-zero, arith, inl, inr}
use Rattle.std.proofs.lemmas.Bool.{cases_Bool, false≢true, true≢false}
use Rattle.std.proofs.lemmas.Iterator.Adapters.{position_from-zero}
use Rattle.std.proofs.lemmas.Map.Text.{btree_map_updates_str}
use Rattle.std.proofs.lemmas.Slice.Eq.{bytes_eq-Decides}
use Rattle.std.proofs.lemmas.List.{take_more, map-append, length-map, length-take-le}
use Rattle.std.specs.Bool.{one_answer}
use Rattle.std.specs.BTreeMap.{BTreeMap, get_by, UpdatesBy}
use Rattle.std.specs.Cmp.Lexicographic.{slice_cmp}
use Rattle.std.specs.Ordering.{nat_cmp}
use Rattle.std.specs.List.{position_from}
use Rattle.std.specs.Option.{option_or}
use Rattle.std.specs.Str.{bytes_eq}
use Rattle.vcl_symbols.specs.Names.{FindsFirst}
use denote.Ref.{Bor}

position_from-push : {X : Type 0} (t : X → Bool) (i : ℕ) (xs : List X) (y : X) → position_from t i (xs ++ y ∷ []) ≡ option_or (position_from t i xs) (cond (t y) (Some (i + length xs)) None)
position_from-push t i [] y = rw (add-zero i) refl
position_from-push t i (x ∷ xs) y =
    let more = position_from-push t (i + 1) xs y in
    let same : i + 1 + length xs ≡ i + length (x ∷ xs) = omega arith in
    elim (t x) as (λ b. cond b (Some i) (position_from t (i + 1) (xs ++ y ∷ [])) ≡ option_or (cond b (Some i) (position_from t (i + 1) xs)) (cond (t y) (Some (i + length (x ∷ xs))) None)) [
      | true ↦ refl
      | false ↦ rw same at more
    ]

position-push : {X : Type 0} (t : X → Bool) (xs : List X) (y : X) → position t (xs ++ y ∷ []) ≡ option_or (position t xs) (cond (t y) (Some (length xs)) None)
position-push t xs y =
    let before = position_from-zero t xs in
    let after = position_from-zero t (xs ++ y ∷ []) in
    let step : position_from t 0 (xs ++ y ∷ []) ≡ option_or (position_from t 0 xs) (cond (t y) (Some (0 + length xs)) None) = position_from-push t 0 xs y in
    let none : 0 + length xs ≡ length xs = omega arith in
    after ∙ rw none at step ∙ rw before refl

none_of : (found : Option ℕ) → is_some found ≡ false → found ≡ None
none_of None h = refl
none_of (Some at) h = absurd (true≢false h)

bytes_eq-flips : (a b : List ℕ) → bytes_eq a b ≡ bytes_eq b a
bytes_eq-flips a b =
    let there = bytes_eq-Decides a b in
    let back = bytes_eq-Decides b a in
    one_answer _ _ there (λ e. sym (back.0 e), λ e. back.1 (sym e))

-- a name more of which an equal one is among the names already, or isn't asked for
kept : (found : Option ℕ) (same : Bool) (place : ℕ) → (same ≡ true → is_some found ≡ true) → found ≡ option_or found (cond same (Some place) None)
kept (Some at) same place h = refl
kept None same place h = elim (cases_Bool same) [ inl e ↦ absurd (false≢true (h e)) | inr e ↦ rw e refl ]

-- a name more of which none is among the names so far
added : (found : Option ℕ) (same : Bool) (place : ℕ) → (same ≡ true → found ≡ None) → cond same (Some place) found ≡ option_or found (cond same (Some place) None)
added found true place h = rw (h refl) refl
added None false place h = refl
added (Some at) false place h = refl

pub FindsFirst-kept : (places : BTreeMap (Bor (List ℕ)) ℕ) (names : List (List ℕ)) (name : List ℕ) → FindsFirst places names → is_some (get_by (λ key. slice_cmp nat_cmp name key.now) places) ≡ true → FindsFirst places (names ++ name ∷ [])
FindsFirst-kept places names name finds has = λ q.
    let here = finds name in
    let known : bytes_eq q name ≡ true → is_some (position (λ other. bytes_eq q other) names) ≡ true = λ e.
    let same : q ≡ name = (bytes_eq-Decides q name).0 e in
    let at : List ℕ → Type 0 = λ n. is_some (position (λ other. bytes_eq n other) names) ≡ true in
    subst at (sym same) (rw here at has) in
    finds q ∙ kept _ (bytes_eq q name) (length names) known ∙ sym (position-push (λ other. bytes_eq q other) names name)

pub FindsFirst-added : (places places' : BTreeMap (Bor (List ℕ)) ℕ) (names : List (List ℕ)) (name : List ℕ) (place : ℕ) → FindsFirst places names → is_some (get_by (λ key. slice_cmp nat_cmp name key.now) places) ≡ false → UpdatesBy (λ x y. slice_cmp nat_cmp x.now y.now) (λ key. slice_cmp nat_cmp name key.now) places places' (Some place) → place ≡ length names → FindsFirst places' (names ++ name ∷ [])
FindsFirst-added places places' names name place finds lacks updates at_end = λ q.
    let here = finds name in
    let after = btree_map_updates_str name places places' (Some place) updates q in
    let same_as : bytes_eq name q ≡ bytes_eq q name = bytes_eq-flips name q in
    let none : bytes_eq q name ≡ true → position (λ other. bytes_eq q other) names ≡ None = λ e.
    let same : q ≡ name = (bytes_eq-Decides q name).0 e in
    let at : List ℕ → Type 0 = λ n. position (λ other. bytes_eq n other) names ≡ None in
    subst at (sym same) (none_of _ (rw here at lacks)) in
    after ∙ rw (same_as, finds q, at_end) (added _ (bytes_eq q name) (length names) none ∙ sym (position-push (λ other. bytes_eq q other) names name))

-- the names up to a place, and the one there
pub now_more : (names : List (Bor (List ℕ))) (i : ℕ) (d : Bor (List ℕ)) → i < length names → map (λ n. n.now) (take (i + 1) names) ≡ map (λ n. n.now) (take i names) ++ (get_or names i d).now ∷ []
now_more names i d within = ap (map (λ n. n.now)) (take_more names i d within) ∙ map-append (λ n. n.now) (take i names) (get_or names i d ∷ [])

pub now_count : (names : List (Bor (List ℕ))) (i : ℕ) → i < length names → i ≡ length (map (λ n. n.now) (take i names))
now_count names i within = rw length-map (sym (length-take-le i names (omega arith)))
