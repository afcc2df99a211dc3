-- How often numbers stand in lists that are joined.
use Rattle.std.proofs.Common.{◌≡◌, ◌<◌, ◌≤◌, ◌⊎◌, ◌==◌, inl, inr, ℕ, ◌+◌, ◌-◌, List, [], ◌∷◌, ◌++◌, length, cond, refl, sym, ap, ◌∙◌, subst, arith}
use Rattle.std.specs.List.{flat_map}
use Rattle.std.proofs.lemmas.Bool.{cases_lt}
use Rattle.std.proofs.lemmas.Grind.{flat_map-append}
use Rattle.std.proofs.lemmas.List.{append-nil, length-append}
use Rattle.std.proofs.lemmas.List.Sums.{sum_by-append}
use Rattle.cache_law.specs.declared.call.Entry.{Entry}
use Rattle.segment_laws.specs.Lives.{EachOnce, all_of, times}

pub times_append : (k : ℕ) (xs ys : List ℕ) → times k (xs ++ ys) ≡ times k xs + times k ys
times_append k xs ys = sum_by-append (λ (number : ℕ). cond (k == number) 1 0) xs ys

-- whether places stand there once is a matter of how often each number does
pub once_alike : (from : ℕ) (entries : List Entry) (ns ms : List ℕ) → ((k : ℕ) → times k ns ≡ times k ms) → EachOnce from entries ns → EachOnce from entries ms
once_alike from entries ns ms alike once = record {
  within = λ k below. sym (alike (from + k)) ∙ once.within k below;
  before = λ k below. sym (alike k) ∙ once.before k below;
  beyond = λ k above. sym (alike k) ∙ once.beyond k above;
}

within_then : (from : ℕ) (xs ys : List Entry) (ns ms : List ℕ) → EachOnce from xs ns → EachOnce (from + length xs) ys ms → (k : ℕ)
    → (k < length xs) ⊎ (length xs ≤ k) → k < length (xs ++ ys) → times (from + k) (ns ++ ms) ≡ 1
within_then from xs ys ns ms one two k (inl below) all =
    let here = one.within k below in
    let there = two.before (from + k) (omega (arith, below)) in
    let sum = times_append (from + k) ns ms in
    omega (arith, here, there, sum)
within_then from xs ys ns ms one two k (inr above) all =
    let long = length-append xs ys in
    let here = one.beyond (from + k) (omega (arith, above)) in
    let there = two.within (k - length xs) (omega (arith, above, all, long)) in
    let same : from + length xs + (k - length xs) ≡ from + k = omega (arith, above) in
    let moved = subst (λ (n : ℕ). times n ms ≡ 1) same there in
    let sum = times_append (from + k) ns ms in
    omega (arith, here, moved, sum)

-- the places of a history, and then those of what comes behind it
pub once_then : (from : ℕ) (xs ys : List Entry) (ns ms : List ℕ) → EachOnce from xs ns → EachOnce (from + length xs) ys ms → EachOnce from (xs ++ ys) (ns ++ ms)
once_then from xs ys ns ms one two = record {
  within = λ k below. within_then from xs ys ns ms one two k (cases_lt k (length xs)) below;
  before = λ k below.
      let here = one.before k below in
      let there = two.before k (omega (arith, below)) in
      let sum = times_append k ns ms in
      omega (arith, here, there, sum);
  beyond = λ k above.
      let long = length-append xs ys in
      let here = one.beyond k (omega (arith, above, long)) in
      let there = two.beyond k (omega (arith, above, long)) in
      let sum = times_append k ns ms in
      omega (arith, here, there, sum);
}

module _ {E : Type 0} (places_in : E → List ℕ) where
  -- the places of callers' events in one segment
  abbrev pub part_numbers : List (List E) → List ℕ
  part_numbers parts = flat_map (λ events. flat_map places_in events) parts

  -- the places of callers' events in all segments
  abbrev pub numbers_of : List (List (List E)) → List ℕ
  numbers_of lives = flat_map (λ life. flat_map places_in (all_of life)) lives

  -- callers' events in a segment, before those in others
  abbrev pub put_before : List (List E) → List (List (List E)) → List (List (List E))
  put_before [] lives = []
  put_before (events ∷ parts) [] = []
  put_before (events ∷ parts) (life ∷ lives) = (events ∷ life) ∷ put_before parts lives

  -- callers' events in a segment alone
  abbrev pub alone : List (List E) → List (List (List E))
  alone [] = []
  alone (events ∷ parts) = (events ∷ []) ∷ alone parts

  pub numbers_alone : (parts : List (List E)) → part_numbers parts ≡ numbers_of (alone parts)
  numbers_alone [] = refl
  numbers_alone (events ∷ parts) =
      ap (λ (own : List E). flat_map places_in own ++ part_numbers parts) (sym (append-nil events))
      ∙ ap (λ (others : List ℕ). flat_map places_in (events ++ []) ++ others) (numbers_alone parts)

  pub times_before : (k : ℕ) (parts : List (List E)) (lives : List (List (List E))) → length parts ≡ length lives
      → times k (part_numbers parts ++ numbers_of lives) ≡ times k (numbers_of (put_before parts lives))
  times_before k [] [] same = refl
  times_before k [] (life ∷ lives) same = absurd (omega (arith, same))
  times_before k (events ∷ parts) [] same = absurd (omega (arith, same))
  times_before k (events ∷ parts) (life ∷ lives) same =
      let own = flat_map places_in events in
      let owns = part_numbers parts in
      let later = flat_map places_in (all_of life) in
      let laters = numbers_of lives in
      let all = numbers_of (put_before parts lives) in
      let rest = times_before k parts lives (omega (arith, same)) in
      let rest_is = times_append k owns laters in
      let joined = times_append k (own ++ owns) (later ++ laters) in
      let left = times_append k own owns in
      let right = times_append k later laters in
      let whole = ap (λ (ns : List ℕ). times k (ns ++ all)) (flat_map-append places_in events (all_of life)) in
      let whole_is = times_append k (own ++ later) all in
      let both = times_append k own later in
      omega (arith, rest, rest_is, joined, left, right, whole, whole_is, both)
