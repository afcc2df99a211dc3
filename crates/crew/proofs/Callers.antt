-- Callers whose passes were all joined again: each entry is of one of them.
use Rattle.std.proofs.Common.{◌≡◌, ℕ, zero, suc, ◌+◌, ◌<◌, ◌≤◌, List, [], ◌∷◌, ◌++◌, length, refl, sym, ◌∙◌, subst, inl, inr, arith}
use Rattle.std.specs.Prelude.{slice_index_or}
use Rattle.std.specs.List.{All, Contains}
use Rattle.turnstile.specs.Knowledge.{Meets, ended_numbers}
use Rattle.cache_law.specs.declared.call.Entry.{Entry}
use Rattle.shared_cache.specs.Sharing.{CallerKnows, caller_of}
use Rattle.crew.specs.Places.{times, AllAbove, AtMostOnce}
use Rattle.crew.proofs.Counting.{times-append, either}

contains_at : (ns : List ℕ) (m k : ℕ) → k < length ns → slice_index_or ns k m ≡ m → 1 ≤ times m ns
contains_at [] m k low is = absurd (omega arith)
contains_at (n ∷ ns) m zero low is = either m n (λ (x : ℕ). 1 ≤ x + times m ns) (λ _. omega arith) (λ other. absurd (other (sym is)))
contains_at (n ∷ ns) m (suc k) low is = let rest = contains_at ns m k (omega arith) is in omega arith

contains_times : (ns : List ℕ) (m : ℕ) → Contains ns m → 1 ≤ times m ns
contains_times ns m has = contains_at ns m has.0 has.1 has.2

above_none : (ns : List ℕ) (m : ℕ) → AllAbove m ns → times m ns ≡ 0
above_none [] m above = refl
above_none (n ∷ ns) m above = let rest = above_none ns m above.1 in let low = above.0 in either m n (λ (x : ℕ). x + times m ns ≡ 0) (λ same. absurd (omega arith)) (λ other. omega arith)

pub above_lower : (ns : List ℕ) (low n : ℕ) → low < n → AllAbove n ns → AllAbove low ns
above_lower [] low n less above = tt
above_lower (m ∷ ns) low n less above = (let high = above.0 in omega arith, above_lower ns low n less above.1)

pub above_more : (ns : List ℕ) (low n : ℕ) → AllAbove n ns → low < n → AllAbove low (ns ++ n ∷ [])
above_more [] low n above less = (less, tt)
above_more (m ∷ ns) low n above less = (let high = above.0 in omega arith, above_more ns low n above.1 less)

pub once_more : (ns : List ℕ) (n : ℕ) → AllAbove n ns → AtMostOnce ns → AtMostOnce (ns ++ n ∷ [])
once_more ns n above once = λ m.
    let joined = times-append m ns (n ∷ []) in
    let before = once m in
    let none = above_none ns n above in
    subst (λ (x : ℕ). x ≤ 1) (sym joined)
    (either m n (λ (x : ℕ). times m ns + (x + 0) ≤ 1)
    (λ same. let nobody : times m ns ≡ 0 = subst (λ (x : ℕ). times x ns ≡ 0) (sym same) none in omega arith)
    (λ other. omega arith))

-- Each entry's caller is the first pass's number or one of the others, once, where these are all that were split off, and were joined
-- again.
pub each_counted : (history : List Entry) (k : CallerKnows) (ns : List ℕ) → Meets caller_of k history → k.number ≡ k.first → k.made ≡ ns → ended_numbers k ≡ ns
    → AllAbove k.number ns → AtMostOnce ns → All (λ e. times (caller_of e) (k.number ∷ ns) ≡ 1) history
each_counted history k ns meets first made ended above once =
    let whole = meets.whole first (λ n has. subst (λ (ms : List ℕ). Contains ms n) (made ∙ sym ended) has) in
    let none = above_none ns k.number above in
    λ i d low.
    let c = caller_of (slice_index_or history i d) in
    elim (whole i d low) [
      | inl own ↦ either c k.number (λ (x : ℕ). x + times c ns ≡ 1)
          (λ same. let nobody : times c ns ≡ 0 = subst (λ (m : ℕ). times m ns ≡ 0) (sym same) none in omega arith)
          (λ other. absurd (other own))
      | inr joined ↦ let some = contains_times ns c (subst (λ (ms : List ℕ). Contains ms c) ended joined) in
          let most = once c in
          either c k.number (λ (x : ℕ). x + times c ns ≡ 1)
          (λ same. let nobody : times c ns ≡ 0 = subst (λ (m : ℕ). times m ns ≡ 0) (sym same) none in absurd (omega arith))
          (λ other. omega arith)
    ]
