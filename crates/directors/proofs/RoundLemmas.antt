-- The first healthy member going round, from the first at a place or behind it.
use Rattle.std.proofs.Common.{◌≡◌, ℕ, ◌+◌, ◌-◌, ◌*◌, ◌%◌, ◌<◌, ◌≤◌, List, length, slice_index, Option, Some, None, IfSome, ap, ◌∙◌, ⊎_elim, arith}
use Rattle.std.proofs.Math.Nat.{mod-eq_of_lt}
use Rattle.std.proofs.lemmas.Nat.{mod-mul-add}
use Rattle.std.proofs.lemmas.Bool.{cases_lt}
use Rattle.std.proofs.lemmas.List.{get_or_past}
use Rattle.directors.specs.Choice.{IsFirstFrom, IsNextRound}

-- a number below the length once over
pub once_over : (n m place : ℕ) → m ≡ n + place → place < n → m % n ≡ place
once_over n m place is below = let one : m ≡ 1 * n + place = omega (arith, is) in ap (λ k. k % n) one ∙ mod-mul-add 1 n place below

-- a healthy member stands within the list
pub within : (weights : List ℕ) (place : ℕ) → 0 < slice_index weights place → place < length weights
within weights place healthy = ⊎_elim (λ inside. inside) (λ past. absurd (omega (arith, healthy, get_or_past weights place 0 past))) (cases_lt place (length weights))

pub IsNextRound-behind : (weights : List ℕ) (start place : ℕ) → IsFirstFrom weights start place → IsNextRound weights start place
IsNextRound-behind weights start place first =
    let inside : place < length weights = within weights place first.healthy in
    let there : start + (place - start) ≡ place = omega (arith, first.behind) in record {
      further = place - start;
      here = ap (λ k. k % length weights) there ∙ mod-eq_of_lt inside;
      healthy = first.healthy;
      before = λ fewer less.
          let below : start + fewer < place = omega (arith, first.behind) in
          let here : start + fewer < length weights = omega arith in
          ap (slice_index weights) (mod-eq_of_lt here) ∙ first.before (start + fewer) (omega arith) below;
    }

IsNextRound-round : (weights : List ℕ) (start place : ℕ) → start < length weights → ((behind : ℕ) → start ≤ behind → slice_index weights behind ≡ 0)
    → IsFirstFrom weights 0 place → IsNextRound weights start place
IsNextRound-round weights start place low none first =
    let placed : place < length weights = within weights place first.healthy in record {
      further = length weights - start + place;
      here = once_over (length weights) _ place (omega arith) placed;
      healthy = first.healthy;
      before = λ fewer less. ⊎_elim
          (λ inside. ap (slice_index weights) (mod-eq_of_lt inside) ∙ none (start + fewer) (omega arith))
          (λ over. let q : start + fewer ≡ length weights + (start + fewer - length weights) = omega arith in
          let below : start + fewer - length weights < place = omega arith in
          ap (slice_index weights) (once_over (length weights) (start + fewer) (start + fewer - length weights) q (omega arith)) ∙ first.before _ (omega arith) below)
          (cases_lt (start + fewer) (length weights));
    }

-- none being healthy from the start on, the first of all is the next
pub IsNextRound-first : (weights : List ℕ) (start : ℕ) (found : Option ℕ) → start < length weights → ((behind : ℕ) → start ≤ behind → slice_index weights behind ≡ 0)
    → IfSome found (IsFirstFrom weights 0) → IfSome found (IsNextRound weights start)
IsNextRound-first weights start None low none first = tt
IsNextRound-first weights start (Some place) low none first = IsNextRound-round weights start place low none first
