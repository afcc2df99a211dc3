-- Heights that no call raises, and the least place on a circle so far.
use Rattle.std.proofs.Common.{◌≡◌, ℕ, zero, suc, ◌≤◌, ◌⊎◌, List, [], ◌∷◌, ◌++◌, length, Contains, get_or, Option, Some, None, sym, ◌∙◌, subst, refl, inl, inr, arith}
use Rattle.std.proofs.lemmas.Bool.{cases_lt}
use Rattle.std.proofs.lemmas.List.{get_or_append_left, get_or_push, length_push}
use Rattle.std.proofs.lemmas.List.Elements.{Contains-push}
use Rattle.vcl_symbols.specs.declared.call_graph.Call.{Call}
use Rattle.vcl_symbols.specs.Calls.{Calls, Walk, Reaches}
use Rattle.vcl_symbols.specs.Circles.{IsLeastPlace, IsBefore, NoneRises}

call_falls : (heights : List ℕ) (calls : List Call) → NoneRises heights calls → (v w : ℕ) → Calls calls v w → get_or heights w 0 ≤ get_or heights v 0
call_falls heights calls none_rises v w h =
    let P : Call → Type 0 = λ call. get_or heights call.to 0 ≤ get_or heights call.from 0 in
    let here = subst P h.1.2 (none_rises h.1.0 h.0 h.1.1) in
    let Q : ℕ → Type 0 = λ u. get_or heights u 0 ≤ get_or heights h.0.from 0 in
    let R : ℕ → Type 0 = λ u. get_or heights w 0 ≤ get_or heights u 0 in
    subst R h.2 (subst Q h.3 here)

walk_falls : (heights : List ℕ) (calls : List Call) → NoneRises heights calls → (n v w : ℕ) → Walk calls v n w → get_or heights w 0 ≤ get_or heights v 0
walk_falls heights calls none_rises zero v w same = let P : ℕ → Type 0 = λ u. get_or heights u 0 ≤ get_or heights v 0 in subst P same (omega arith)
walk_falls heights calls none_rises (suc n) v w walk = omega (arith, call_falls heights calls none_rises v walk.0 walk.1, walk_falls heights calls none_rises n walk.0 w walk.2)

-- what calls lead to is no higher
pub Reaches-falls : (heights : List ℕ) (calls : List Call) → NoneRises heights calls → (v w : ℕ) → Reaches calls v w → get_or heights w 0 ≤ get_or heights v 0
Reaches-falls heights calls none_rises v w h = walk_falls heights calls none_rises h.0 v w h.1

-- one of these calls stands at the place and is on a circle of all
abbrev pub CircleIn : List Call → List Call → ℕ → Type 0
CircleIn all calls place = (call : Call) × Contains calls call × (call.place ≡ place) × Reaches all call.to call.from

Contains-front : (calls : List Call) (last call : Call) → Contains calls call → Contains (calls ++ last ∷ []) call
Contains-front calls last call h = (h.0, omega (arith, h.1, length_push calls last), get_or_append_left calls (last ∷ []) call h.0 h.1 ∙ h.2)

Contains-parts : (calls : List Call) (last call : Call) → Contains (calls ++ last ∷ []) call → Contains calls call ⊎ (last ≡ call)
Contains-parts calls last call h = elim (cases_lt h.0 (length calls)) [
  | inl below ↦ inl (h.0, below, sym (get_or_append_left calls (last ∷ []) call h.0 below) ∙ h.2)
  | inr past ↦ inr (sym (get_or_push calls last call h.0 (omega (arith, h.1, length_push calls last))) ∙ h.2)
]

CircleIn-front : (all front : List Call) (call : Call) (place : ℕ) → CircleIn all front place → CircleIn all (front ++ call ∷ []) place
CircleIn-front all front call place h = (h.0, Contains-front front call h.0 h.1, h.2, h.3)

CircleIn-parts : (all front : List Call) (call : Call) (place : ℕ) → CircleIn all (front ++ call ∷ []) place → CircleIn all front place ⊎ ((call.place ≡ place) × Reaches all call.to call.from)
CircleIn-parts all front call place h = elim (Contains-parts front call h.0 h.1) [
  | inl k ↦ inl (h.0, k, h.2, h.3)
  | inr e ↦ let P : Call → Type 0 = λ c. (c.place ≡ place) × Reaches all c.to c.from in inr (subst P (sym e) (h.2, h.3))
]

-- one call more, which is on no circle or stands behind the least place so far
pub IsLeastPlace-same : (all front : List Call) (call : Call) (first : Option ℕ) → IsLeastPlace (CircleIn all front) first → (IsBefore call.place first → Reaches all call.to call.from → ⊥) → IsLeastPlace (CircleIn all (front ++ call ∷ [])) first
IsLeastPlace-same all front call None so_far none = λ place h. elim (CircleIn-parts all front call place h) [
  | inl k ↦ so_far place k
  | inr k ↦ none tt k.1
]
IsLeastPlace-same all front call (Some least) so_far none = (
  CircleIn-front all front call least so_far.0,
  λ place h. elim (CircleIn-parts all front call place h) [
    | inl k ↦ so_far.1 place k
    | inr k ↦ elim (cases_lt call.place least) [
      | inl before ↦ absurd (none before k.1)
      | inr behind ↦ omega (arith, k.0)
    ]
  ],
)

-- one call more, which is on a circle and stands before all so far
pub IsLeastPlace-new : (all front : List Call) (call : Call) (first : Option ℕ) → IsLeastPlace (CircleIn all front) first → IsBefore call.place first → Reaches all call.to call.from → IsLeastPlace (CircleIn all (front ++ call ∷ [])) (Some call.place)
IsLeastPlace-new all front call None so_far before circle = (
  (call, Contains-push front call, refl, circle),
  λ place h. elim (CircleIn-parts all front call place h) [
    | inl k ↦ absurd (so_far place k)
    | inr k ↦ omega (arith, k.0)
  ],
)
IsLeastPlace-new all front call (Some least) so_far before circle = (
  (call, Contains-push front call, refl, circle),
  λ place h. elim (CircleIn-parts all front call place h) [
    | inl k ↦ omega (arith, so_far.1 place k)
    | inr k ↦ omega (arith, k.0)
  ],
)
