-- Making room takes the least recently used objects, and as few as will do.
use Rattle.std.proofs.Common.{◌≡◌, ℕ, Bool, true, false, cond, List, [], ◌∷◌, ◌+◌, ◌<◌, ◌≤◌, ◌⊎◌, nat_le, nat_lt, length, filter, take, drop, zero, suc, inl, inr, refl, arith, sym, ap, ◌∙◌, subst}
use Rattle.std.proofs.lemmas.Bool.{cases_order, cond-false, le-leb, lt-leb, le-ltb, ltb-true, ltb-false}
use Rattle.std.proofs.lemmas.List.Sums.{sum_by-cons}
use Rattle.std.specs.List.{AllByRecursion}
use Rattle.cache_law.specs.Object.{size_of}
use Rattle.cache_law.specs.State.{Held, sizes_of}
use Rattle.cache_law.specs.Room.{AreUsedApart, MakesRoom, by_use, displaced, is_used_from, outweighs}
use Rattle.cache_law.proofs.Held.{all-weaken}
use Rattle.cache_law.proofs.ByUse.{Rising, by_use-filter, length-by_use, rising-by_use, sizes-by_use}

-- Of objects by their last use those go that with all behind them leave no room.
abbrev go_first : ℕ → ℕ → List Held → List Held
go_first room size [] = []
go_first room size (held ∷ objects) = cond (nat_lt room (sizes_of (held ∷ objects) + size)) (held ∷ go_first room size objects) []

taken : (b : Bool) (held : Held) (rest objects : List Held) → rest ≡ take (length rest) objects → cond b (held ∷ rest) [] ≡ take (length (cond b (held ∷ rest) [])) (held ∷ objects)
taken true held rest objects e = ap (λ (l : List Held). held ∷ l) e
taken false held rest objects e = refl

are_first : (room size : ℕ) (objects : List Held) → go_first room size objects ≡ take (length (go_first room size objects)) objects
are_first room size [] = refl
are_first room size (held ∷ objects) = taken (nat_lt room (sizes_of (held ∷ objects) + size)) held (go_first room size objects) objects (are_first room size objects)

are_enough : (room size : ℕ) (objects : List Held) → size ≤ room → sizes_of (drop (length (go_first room size objects)) objects) + size ≤ room
are_enough room size [] fits = omega (arith, fits)
are_enough room size (held ∷ objects) fits = by_test (are_enough room size objects fits) (nat_lt room (sizes_of (held ∷ objects) + size)) refl
  where
    by_test : sizes_of (drop (length (go_first room size objects)) objects) + size ≤ room
        → (b : Bool) → nat_lt room (sizes_of (held ∷ objects) + size) ≡ b → sizes_of (drop (length (cond b (held ∷ go_first room size objects) [])) (held ∷ objects)) + size ≤ room
    by_test later true e = later
    by_test later false e = ltb-false room _ e

are_least : (room size : ℕ) (objects : List Held) (fewer : ℕ) → fewer < length (go_first room size objects) → room < sizes_of (drop fewer objects) + size
are_least room size [] fewer below = absurd (omega (arith, below))
are_least room size (held ∷ objects) fewer below = by_test (are_least room size objects) (nat_lt room (sizes_of (held ∷ objects) + size)) refl fewer below
  where
    by_test : ((fewer : ℕ) → fewer < length (go_first room size objects) → room < sizes_of (drop fewer objects) + size)
        → (b : Bool) → nat_lt room (sizes_of (held ∷ objects) + size) ≡ b → (fewer : ℕ) → fewer < length (cond b (held ∷ go_first room size objects) []) → room < sizes_of (drop fewer (held ∷ objects)) + size
    by_test later true e zero below = ltb-true room _ e
    by_test later true e (suc n) below = later n (omega (arith, below))
    by_test later false e fewer below = absurd (omega (arith, below))

-- where there is room beside objects, there is beside fewer of them
none_go : (room size : ℕ) (objects : List Held) → sizes_of objects + size ≤ room → go_first room size objects ≡ []
none_go room size [] fits = refl
none_go room size (held ∷ objects) fits = cond-false _ _ _ (le-ltb room _ fits)

filter_alike : (p q : Held → Bool) (objects : List Held) → AllByRecursion (λ (held : Held). p held ≡ q held) objects → filter p objects ≡ filter q objects
filter_alike p q [] all = refl
filter_alike p q (held ∷ objects) all =
    ap (λ (b : Bool). cond b (held ∷ filter p objects) (filter p objects)) all.0 ∙ ap (λ (rest : List Held). cond (q held) (held ∷ rest) rest) (filter_alike p q objects all.1)

all_stay : (p : Held → Bool) (objects : List Held) → AllByRecursion (λ (held : Held). p held ≡ true) objects → filter p objects ≡ objects
all_stay p [] all = refl
all_stay p (held ∷ objects) all =
    ap (λ (b : Bool). cond b (held ∷ filter p objects) (filter p objects)) all.0 ∙ ap (λ (rest : List Held). held ∷ rest) (all_stay p objects all.1)

-- Of objects by their last use, each one goes that outweighs the room with those that were used later.
outweighing : (room size : ℕ) (objects : List Held) → Rising objects → filter (outweighs room size objects) objects ≡ go_first room size objects
outweighing room size [] rising = refl
outweighing room size (held ∷ objects) rising =
    ap (λ (b : Bool). cond b (held ∷ filter (outweighs room size (held ∷ objects)) objects) (filter (outweighs room size (held ∷ objects)) objects)) first
    ∙ ap (λ (rest : List Held). cond (nat_lt room (sizes_of (held ∷ objects) + size)) (held ∷ rest) rest) (later ∙ outweighing room size objects rising.1)
    ∙ by_test (nat_lt room (sizes_of (held ∷ objects) + size)) refl
  where
    whole : filter (is_used_from held.used) (held ∷ objects) ≡ held ∷ objects
    whole =
        all_stay (is_used_from held.used) (held ∷ objects)
        (le-leb held.used held.used (omega arith), all-weaken (λ (o : Held). held.used < o.used) (λ (o : Held). is_used_from held.used o ≡ true) (λ o below. le-leb held.used o.used (omega (arith, below))) objects rising.0)

    first : outweighs room size (held ∷ objects) held ≡ nat_lt room (sizes_of (held ∷ objects) + size)
    first = ap (λ (l : List Held). nat_lt room (sizes_of l + size)) whole

    without_first : (o : Held) → held.used < o.used → outweighs room size (held ∷ objects) o ≡ outweighs room size objects o
    without_first o below = ap (λ (l : List Held). nat_lt room (sizes_of l + size)) (cond-false (nat_le o.used held.used) _ _ (lt-leb o.used held.used below))

    later : filter (outweighs room size (held ∷ objects)) objects ≡ filter (outweighs room size objects) objects
    later = filter_alike _ _ objects (all-weaken (λ (o : Held). held.used < o.used) (λ (o : Held). outweighs room size (held ∷ objects) o ≡ outweighs room size objects o) without_first objects rising.0)

    by_test : (b : Bool) → nat_lt room (sizes_of (held ∷ objects) + size) ≡ b → cond b (held ∷ go_first room size objects) (go_first room size objects) ≡ cond b (held ∷ go_first room size objects) []
    by_test true e = refl
    by_test false e =
        none_go room size objects (omega (arith, ltb-false room _ e, sum_by-cons (λ (h : Held). size_of h.view.object) held objects))

module _ (room size : ℕ) (others : List Held) (apart : AreUsedApart others) where
  -- what takes part in a sum does so in any order
  same_test : (held : Held) → outweighs room size others held ≡ outweighs room size (by_use others) held
  same_test held =
      let same : sizes_of (filter (is_used_from held.used) (by_use others)) ≡ sizes_of (filter (is_used_from held.used) others) =
      ap sizes_of (sym (by_use-filter (is_used_from held.used) others apart)) ∙ sizes-by_use (filter (is_used_from held.used) others) in
      ap (λ (n : ℕ). nat_lt room (n + size)) (sym same)

  all_same : (objects : List Held) → AllByRecursion (λ (held : Held). outweighs room size others held ≡ outweighs room size (by_use others) held) objects
  all_same [] = tt
  all_same (held ∷ objects) = (same_test held, all_same objects)

  displaced_by_use : by_use (displaced room size others) ≡ go_first room size (by_use others)
  displaced_by_use =
      by_use-filter (outweighs room size others) others apart
      ∙ filter_alike _ _ (by_use others) (all_same (by_use others))
      ∙ outweighing room size (by_use others) (rising-by_use others apart)

  so_many : length (displaced room size others) ≡ length (go_first room size (by_use others))
  so_many = sym (length-by_use (displaced room size others)) ∙ ap (λ (l : List Held). length l) displaced_by_use

  pub first_go : by_use (displaced room size others) ≡ take (length (displaced room size others)) (by_use others)
  first_go = displaced_by_use ∙ are_first room size (by_use others) ∙ ap (λ (n : ℕ). take n (by_use others)) (sym so_many)

  pub least_go : size ≤ room → MakesRoom room size others (length (displaced room size others))
  least_go fits =
      record {
        enough = subst (λ (n : ℕ). sizes_of (drop n (by_use others)) + size ≤ room) (sym so_many) (are_enough room size (by_use others) fits);
        least = λ fewer below. are_least room size (by_use others) fewer (omega (arith, below, so_many));
      }

pub only_these : (room size count : ℕ) (others : List Held) → AreUsedApart others → MakesRoom room size others count → count ≡ length (displaced room size others)
only_these room size count others apart makes = by_order (cases_order count (length (displaced room size others)))
  where
    own : MakesRoom room size others (length (displaced room size others))
    own = least_go room size others apart (omega (arith, makes.enough))

    by_order : (count ≡ length (displaced room size others)) ⊎ ((count < length (displaced room size others)) ⊎ (length (displaced room size others) < count)) → count ≡ length (displaced room size others)
    by_order (inl same) = same
    by_order (inr (inl fewer)) = absurd (omega (arith, own.least count fewer, makes.enough))
    by_order (inr (inr more)) = absurd (omega (arith, makes.least (length (displaced room size others)) more, own.enough))

pub none_do : (room size count : ℕ) (others : List Held) → room < size → MakesRoom room size others count → ⊥
none_do room size count others large makes = omega (arith, large, makes.enough)
