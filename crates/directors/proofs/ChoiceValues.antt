-- What a director chooses is the value of `choice`.
use Rattle.std.proofs.Common.{◌≡◌, ℕ, zero, suc, Bool, true, false, cond, ◌+◌, ◌-◌, ◌%◌, ◌<◌, ◌≤◌, ◌++◌, List, [], ◌∷◌, length, slice_index, take, drop, sum, nat_lt, Option, Some, None, IfSome, IsNone, All, refl, sym, ap, ◌∙◌, ⊎_elim, arith}
use Rattle.std.specs.List.{position_or_len}
use Rattle.std.specs.Option.{option_map}
use Rattle.std.proofs.Math.Nat.{mod-eq_of_lt, add-mod_left}
use Rattle.std.proofs.lemmas.Nat.{mod_below}
use Rattle.std.proofs.lemmas.Bool.{cases_lt, lt-ltb, ltb-false, ltb-true}
use Rattle.std.proofs.lemmas.List.{length-take, length-drop, length-append, get_or-drop, get_or-take, get_or_append_left, get_or-append_right}
use Rattle.std.proofs.lemmas.List.Sums.{position_or_len_is, sum_by-cons}
use Rattle.directors.specs.declared.director.DirectorKind.{DirectorKind}
use Rattle.directors.specs.declared.director.DirectorKind.TheVariants.{One, RoundRobin, Fallback, Random, Hash}
use Rattle.directors.specs.Choice.{Chooses, IsFirstFrom, IsNextRound, HasShare, first_healthy, next_healthy, share_of, choice}
use Rattle.directors.proofs.RoundLemmas.{once_over, within}

-- a number isn't below 0
below_none : (n m : ℕ) → m ≤ n → nat_lt n m ≡ false
below_none n m e = by_test (nat_lt n m) refl
  where
    by_test : (b : Bool) → nat_lt n m ≡ b → b ≡ false
    by_test true same = absurd (omega (arith, ltb-true n m same, e))
    by_test false same = refl

at_place : (n m : ℕ) (b : Bool) → b ≡ nat_lt n m → n < m → cond b (Some n) None ≡ Some n
at_place n m true same inside = refl
at_place n m false same inside = absurd (omega (arith, ltb-false n m (sym same), inside))

-- the first healthy member is found at its place
first_at : (weights : List ℕ) (place : ℕ) → place < length weights → 0 < slice_index weights place → ((k : ℕ) → k < place → slice_index weights k ≡ 0) → first_healthy weights ≡ Some place
first_at weights place inside healthy before =
    let found : position_or_len (nat_lt 0) weights ≡ place =
    position_or_len_is (nat_lt 0) weights place 0 (omega (arith, inside)) (λ k below. ap (nat_lt 0) (before k below)) (λ low. lt-ltb 0 (slice_index weights place) healthy) in
    ap (λ n. cond (nat_lt n (length weights)) (Some n) None) found ∙ at_place place (length weights) _ refl inside

none_at : (n m : ℕ) (b : Bool) → b ≡ nat_lt n m → n ≡ m → cond b (Some n) None ≡ None
none_at n m true same end = absurd (omega (arith, ltb-true n m (sym same), end))
none_at n m false same end = refl

first_none : (weights : List ℕ) → ((k : ℕ) → k < length weights → slice_index weights k ≡ 0) → first_healthy weights ≡ None
first_none weights sick =
    let found : position_or_len (nat_lt 0) weights ≡ length weights =
    position_or_len_is (nat_lt 0) weights (length weights) 0 (omega arith) (λ k below. ap (nat_lt 0) (sick k below)) (λ low. absurd (omega (arith, low))) in
    ap (λ n. cond (nat_lt n (length weights)) (Some n) None) found ∙ none_at (length weights) (length weights) _ refl refl

-- the list that goes round from a place on
turned_at : (weights : List ℕ) (start k : ℕ) → start < length weights → k < length weights → slice_index (drop start weights ++ take start weights) k ≡ slice_index weights ((start + k) % length weights)
turned_at weights start k low short =
    ⊎_elim
    (λ behind.
    let in_list : start + k < length weights = omega (arith, behind, low) in
    get_or_append_left (drop start weights) (take start weights) 0 k (omega (arith, behind, length-drop start weights))
    ∙ (get_or-drop start weights k 0 ∙ sym (ap (slice_index weights) (mod-eq_of_lt in_list))))
    (λ over.
    let same : k - (length weights - start) ≡ start + k - length weights = omega (arith, over, low) in
    let place : start + k ≡ length weights + (start + k - length weights) = omega (arith, over, low) in
    let inside : start + k - length weights < length weights = omega (arith, over, low, short) in
    let front : k - (length weights - start) < start = omega (arith, over, low, short) in
    get_or-append_right (drop start weights) (take start weights) (length weights - start) k 0 (length-drop start weights) over
    ∙ (get_or-take start weights (k - (length weights - start)) 0 front
    ∙ (ap (slice_index weights) same ∙ sym (ap (slice_index weights) (once_over (length weights) (start + k) (start + k - length weights) place inside)))))
    (cases_lt k (length weights - start))

turned_length : (weights : List ℕ) (start : ℕ) → start < length weights → length (drop start weights ++ take start weights) ≡ length weights
turned_length weights start low =
    length-append (drop start weights) (take start weights) ∙ omega (arith, length-drop start weights, length-take start weights, low)

-- the next healthy member going round stands less than one round further on
less_than_round : (weights : List ℕ) (start place : ℕ) → start < length weights → (next : IsNextRound weights start place) → next.further < length weights
less_than_round weights start place low next =
    ⊎_elim (λ short. short)
    (λ long.
    let whole : length weights + (start + (next.further - length weights)) ≡ start + next.further = omega (arith, long) in
    let again : (start + (next.further - length weights)) % length weights ≡ place =
    sym (add-mod_left (length weights) (start + (next.further - length weights))) ∙ (ap (λ n. n % length weights) whole ∙ next.here) in
    let sick : slice_index weights place ≡ 0 = sym (ap (slice_index weights) again) ∙ next.before (next.further - length weights) (omega (arith, long, low)) in
    absurd (omega (arith, next.healthy, sick)))
    (cases_lt next.further (length weights))

next_at : (weights : List ℕ) (start place : ℕ) → start < length weights → IsNextRound weights start place → next_healthy start weights ≡ Some place
next_at weights start place low next =
    let short = less_than_round weights start place low next in
    let turned : List ℕ = drop start weights ++ take start weights in
    let here : slice_index turned next.further ≡ slice_index weights place = turned_at weights start next.further low short ∙ ap (slice_index weights) next.here in
    let first : first_healthy turned ≡ Some next.further =
    first_at turned next.further (omega (arith, short, turned_length weights start low)) (omega (arith, here, next.healthy))
    (λ k below. turned_at weights start k low (omega (arith, below, short)) ∙ next.before k below) in
    ap (option_map (λ further. (start + further) % length weights)) first ∙ ap Some next.here

next_none : (weights : List ℕ) (start : ℕ) → start < length weights → All (λ weight. weight ≡ 0) weights → next_healthy start weights ≡ None
next_none weights start low sick =
    let turned : List ℕ = drop start weights ++ take start weights in
    let first : first_healthy turned ≡ None =
    first_none turned (λ k short. let inside : k < length weights = omega (arith, short, turned_length weights start low) in
    turned_at weights start k low inside ∙ sick ((start + k) % length weights) 0 (mod_below (start + k) (length weights) (omega (arith, low)))) in
    ap (option_map (λ further. (start + further) % length weights)) first

-- the member in whose range the number falls is found
share_here : (number weight : ℕ) (later : Option ℕ) (b : Bool) → b ≡ nat_lt number weight → number < weight → cond b (Some 0) (option_map (λ place. place + 1) later) ≡ Some 0
share_here number weight later true same below = refl
share_here number weight later false same below = absurd (omega (arith, ltb-false number weight (sym same), below))

share_later : (number weight place : ℕ) (later : Option ℕ) (b : Bool) → b ≡ nat_lt number weight → weight ≤ number → later ≡ Some place → cond b (Some 0) (option_map (λ k. k + 1) later) ≡ Some (place + 1)
share_later number weight place later true same above found = absurd (omega (arith, ltb-true number weight (sym same), above))
share_later number weight place later false same above found = ap (option_map (λ k. k + 1)) found

share_at : (weights : List ℕ) (number place : ℕ) → HasShare weights number place → share_of number weights ≡ Some place
share_at [] number place share = absurd (omega (arith, share.within))
share_at (weight ∷ weights) number zero share = share_here number weight _ _ refl (omega (arith, share.high))
share_at (weight ∷ weights) number (suc place) share =
    let front : sum (take (suc place) (weight ∷ weights)) ≡ weight + sum (take place weights) = sum_by-cons (λ n. n) weight (take place weights) in
    let same : slice_index (weight ∷ weights) (suc place) ≡ slice_index weights place = refl in
    let next : place + 1 ≡ suc place = omega arith in
    share_later number weight place _ _ refl (omega (arith, front, share.low))
    (share_at weights (number - weight) place (record { within = omega (arith, share.within); low = omega (arith, front, share.low); high = omega (arith, front, same, share.high, share.low) }))
    ∙ ap Some next

share_none : (weights : List ℕ) (number : ℕ) → All (λ weight. weight ≡ 0) weights → share_of number weights ≡ None
share_none [] number sick = refl
share_none (weight ∷ weights) number sick =
    let light : weight ≡ 0 = sick 0 0 (omega arith) in
    let later : share_of (number - weight) weights ≡ None = share_none weights (number - weight) (λ i d short. sick (suc i) d (omega (arith, short))) in
    share_past number weight _ _ refl light later
  where
    share_past : (number weight : ℕ) (later : Option ℕ) (b : Bool) → b ≡ nat_lt number weight → weight ≡ 0 → later ≡ None → cond b (Some 0) (option_map (λ k. k + 1) later) ≡ None
    share_past number weight later true same light none_ = absurd (omega (arith, ltb-true number weight (sym same), light))
    share_past number weight later false same light none_ = ap (option_map (λ k. k + 1)) none_

first_is : (weights : List ℕ) (place : ℕ) → IsFirstFrom weights 0 place → first_healthy weights ≡ Some place
first_is weights place first = first_at weights place (within weights place first.healthy) first.healthy (λ k below. first.before k (omega arith) below)

first_is_none : (weights : List ℕ) → All (λ weight. weight ≡ 0) weights → first_healthy weights ≡ None
first_is_none weights sick = first_none weights (λ k short. sick k 0 short)

round_is : (weights : List ℕ) (next place : ℕ) → IsNextRound weights (next % length weights) place → next_healthy (next % length weights) weights ≡ Some place
round_is weights next place is =
    let some_ : 0 < length weights = omega (arith, within weights place is.healthy) in
    next_at weights (next % length weights) place (mod_below next (length weights) some_) is

turned_none : (weights : List ℕ) (start : ℕ) → length (drop start weights ++ take start weights) ≡ 0 → next_healthy start weights ≡ None
turned_none weights start none_ =
    ap (option_map (λ further. (start + further) % length weights)) (first_none (drop start weights ++ take start weights) (λ k short. absurd (omega (arith, short, none_))))

round_is_none : (weights : List ℕ) (next : ℕ) → All (λ weight. weight ≡ 0) weights → next_healthy (next % length weights) weights ≡ None
round_is_none [] next sick = turned_none [] (next % 0) (length-append {A = ℕ} (drop (next % 0) []) (take (next % 0) []) ∙ omega (arith, length-drop {A = ℕ} (next % 0) [], length-take {A = ℕ} (next % 0) []))
round_is_none (weight ∷ weights) next sick = next_none (weight ∷ weights) _ (mod_below next (length (weight ∷ weights)) (omega arith)) sick

value_at : (kind : DirectorKind) (weights : List ℕ) (next word place : ℕ) → Chooses kind weights next word place → choice kind weights next word ≡ Some place
value_at One weights next word place is = first_is weights place is
value_at Fallback weights next word place is = first_is weights place is
value_at RoundRobin weights next word place is = round_is weights next place is
value_at Random weights next word place is = share_at weights _ place is
value_at Hash weights next word place is = share_at weights _ place is

value_none : (kind : DirectorKind) (weights : List ℕ) (next word : ℕ) → All (λ weight. weight ≡ 0) weights → choice kind weights next word ≡ None
value_none One weights next word sick = first_is_none weights sick
value_none Fallback weights next word sick = first_is_none weights sick
value_none RoundRobin weights next word sick = round_is_none weights next sick
value_none Random weights next word sick = share_none weights _ sick
value_none Hash weights next word sick = share_none weights _ sick

-- what was found to be chosen is the choice
pub choice_is : (kind : DirectorKind) (weights : List ℕ) (next word : ℕ) (found : Option ℕ) → IfSome found (Chooses kind weights next word) → (IsNone found → All (λ weight. weight ≡ 0) weights) → found ≡ choice kind weights next word
choice_is kind weights next word (Some place) chosen none_ = sym (value_at kind weights next word place chosen)
choice_is kind weights next word None chosen none_ = sym (value_none kind weights next word (none_ refl))
