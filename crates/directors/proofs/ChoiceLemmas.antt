-- A director chooses one place at most.
use Rattle.std.proofs.Common.{◌≡◌, ℕ, ◌+◌, ◌%◌, ◌<◌, ◌≤◌, List, length, slice_index, take, sum, sym, ◌∙◌, ap, ⊎_elim, arith}
use Rattle.std.proofs.lemmas.Bool.{cases_order}
use Rattle.std.proofs.lemmas.List.{length-take, take-take, get_or-take}
use Rattle.std.proofs.lemmas.List.Sums.{sum_by_more_le}
use Rattle.directors.specs.declared.director.DirectorKind.{DirectorKind}
use Rattle.directors.specs.declared.director.DirectorKind.TheVariants.{One, RoundRobin, Fallback, Random, Hash}
use Rattle.directors.specs.Choice.{Chooses, IsFirstFrom, IsNextRound, HasShare}

-- of two places the first is no earlier one than the other
first_below : (weights : List ℕ) (start x y : ℕ) → IsFirstFrom weights start x → IsFirstFrom weights start y → x < y → ⊥
first_below weights start x y first second below = omega (arith, first.healthy, second.before x first.behind below)

first_same : (weights : List ℕ) (start x y : ℕ) → IsFirstFrom weights start x → IsFirstFrom weights start y → x ≡ y
first_same weights start x y first second =
    ⊎_elim (λ same. same) (⊎_elim (λ below. absurd (first_below weights start x y first second below)) (λ above. absurd (first_below weights start y x second first above))) (cases_order x y)

round_below : (weights : List ℕ) (start x y : ℕ) → (first : IsNextRound weights start x) → (second : IsNextRound weights start y) → first.further < second.further → ⊥
round_below weights start x y first second below =
    let none = sym (ap (slice_index weights) first.here) ∙ second.before first.further below in
    omega (arith, first.healthy, none)

round_same : (weights : List ℕ) (start x y : ℕ) → IsNextRound weights start x → IsNextRound weights start y → x ≡ y
round_same weights start x y first second =
    ⊎_elim
    (λ same. sym first.here ∙ (ap (λ k. (start + k) % length weights) same ∙ second.here))
    (⊎_elim (λ below. absurd (round_below weights start x y first second below)) (λ above. absurd (round_below weights start y x second first above)))
    (cases_order first.further second.further)

-- the range of a place ends where that of a later one begins, or before
ranges_apart : (weights : List ℕ) (x y : ℕ) → x < length weights → x < y → sum (take x weights) + slice_index weights x ≤ sum (take y weights)
ranges_apart weights x y within below =
    let short : x < length (take y weights) = omega (arith, length-take y weights) in
    let front : sum (take x (take y weights)) ≡ sum (take x weights) = ap sum (take-take x y weights (omega arith)) in
    omega (arith, sum_by_more_le (λ weight. weight) (take y weights) x 0 short, front, get_or-take y weights x 0 below)

share_below : (weights : List ℕ) (number x y : ℕ) → HasShare weights number x → HasShare weights number y → x < y → ⊥
share_below weights number x y first second below = omega (arith, first.high, second.low, ranges_apart weights x y first.within below)

share_same : (weights : List ℕ) (number x y : ℕ) → HasShare weights number x → HasShare weights number y → x ≡ y
share_same weights number x y first second =
    ⊎_elim (λ same. same) (⊎_elim (λ below. absurd (share_below weights number x y first second below)) (λ above. absurd (share_below weights number y x second first above))) (cases_order x y)

pub choice_same : (kind : DirectorKind) (weights : List ℕ) (next word x y : ℕ) → Chooses kind weights next word x → Chooses kind weights next word y → x ≡ y
choice_same One weights next word x y first second = first_same weights 0 x y first second
choice_same Fallback weights next word x y first second = first_same weights 0 x y first second
choice_same RoundRobin weights next word x y first second = round_same weights _ x y first second
choice_same Random weights next word x y first second = share_same weights _ x y first second
choice_same Hash weights next word x y first second = share_same weights _ x y first second
