-- How far two texts are the same.
use Rattle.std.proofs.Common.{◌≡◌, ◌≢◌, inl, inr, ℕ, suc, ◌+◌, ◌<◌, ◌≤◌, Bool, true, false, List, [], ◌∷◌, length, get_or, drop, ap, ◌∙◌, refl, arith, drop-cons, length-drop}
use Rattle.std.specs.Prelude.{◌==◌}
use Rattle.std.proofs.lemmas.Bool.Decides.{nat_tests, eqb_tells}
use Rattle.journal_reader.specs.Refusals.{Tells, agreed}

same_first : (a b : ℕ) (text other : List ℕ) → a ≡ b → agreed (a ∷ text) (b ∷ other) ≡ agreed text other + 1
same_first a b text other e = grind (arith, nat_tests, e)

other_first : (a b : ℕ) (text other : List ℕ) → a ≢ b → agreed (a ∷ text) (b ∷ other) ≡ 0
other_first a b text other e = grind (arith, nat_tests, e)

pub agreed_within : (text other : List ℕ) → (agreed text other ≤ length text) × (agreed text other ≤ length other)
agreed_within [] other = (omega arith, omega arith)
agreed_within (a ∷ text) [] = (omega arith, omega arith)
agreed_within (a ∷ text) (b ∷ other) =
    let more = agreed_within text other in
    let p = more.0 in
    let q = more.1 in
    elim (eqb_tells a b) [
      | inl t ↦ let e = same_first a b text other t.1 in (omega (arith, e, p), omega (arith, e, q))
      | inr t ↦ let e = other_first a b text other t.1 in (omega (arith, e), omega (arith, e))
    ]

-- so many bytes were found to be the same
pub record AgreeSoFar (text other : List ℕ) (count : ℕ) : Type 0 where
  pub within_text : count ≤ length text
  pub within_other : count ≤ length other
  pub still : count + agreed (drop count text) (drop count other) ≡ agreed text other

pub agree_begins : (text other : List ℕ) → AgreeSoFar text other 0
agree_begins text other = record { within_text = omega arith; within_other = omega arith; still = omega arith }

pub agree_on : (text other : List ℕ) (count : ℕ) → AgreeSoFar text other count → (count < length text) × (count < length other) × (get_or text count 0 ≡ get_or other count 0) → AgreeSoFar text other (count + 1)
agree_on text other count s t =
    let p = t.0 in
    let q = t.1 in
    let e = t.2 in
    let one : suc count ≡ count + 1 = omega arith in
    let a : drop count text ≡ get_or text count 0 ∷ drop (count + 1) text = drop-cons text count 0 p ∙ ap (λ n. get_or text count 0 ∷ drop n text) one in
    let b : drop count other ≡ get_or other count 0 ∷ drop (count + 1) other = drop-cons other count 0 q ∙ ap (λ n. get_or other count 0 ∷ drop n other) one in
    let next : agreed (drop count text) (drop count other) ≡ agreed (drop (count + 1) text) (drop (count + 1) other) + 1 = rw a (rw b (same_first (get_or text count 0) (get_or other count 0) (drop (count + 1) text) (drop (count + 1) other) e)) in
    let still = s.still in
    record { within_text = omega (arith, p); within_other = omega (arith, q); still = omega (arith, next, still) }

pub tell_text_end : (text other : List ℕ) (count : ℕ) → length text ≤ count → Tells text other count false
tell_text_end text other count h =
    let p = (agreed_within (drop count text) (drop count other)).0 in
    let m = length-drop count text in
    omega (arith, p, m, h)

pub tell_other_end : (text other : List ℕ) (count : ℕ) → length other ≤ count → Tells text other count false
tell_other_end text other count h =
    let p = (agreed_within (drop count text) (drop count other)).1 in
    let m = length-drop count other in
    omega (arith, p, m, h)

pub tell_bytes : (text other : List ℕ) (count : ℕ) (same : Bool) → count < length text → count < length other → same ≡ (get_or text count 0 == get_or other count 0) → Tells text other count same
tell_bytes text other count true p q e = let same : get_or text count 0 ≡ get_or other count 0 = grind (arith, nat_tests, e) in (p, q, same)
tell_bytes text other count false p q e =
    let differ : get_or text count 0 ≢ get_or other count 0 = λ same. grind (arith, nat_tests, e, same) in
    let a = drop-cons text count 0 p in
    let b = drop-cons other count 0 q in
    rw a (rw b (other_first (get_or text count 0) (get_or other count 0) (drop (suc count) text) (drop (suc count) other) differ))

pub agree_stops : (text other : List ℕ) (count : ℕ) → AgreeSoFar text other count → Tells text other count false → count ≡ agreed text other
agree_stops text other count s t =
    let still = s.still in
    omega (arith, t, still)

pub agreed_whole : (text other : List ℕ) → length text ≤ agreed text other → length other ≤ agreed text other → text ≡ other
agreed_whole [] [] p q = refl
agreed_whole [] (b ∷ other) p q = absurd (omega (arith, q))
agreed_whole (a ∷ text) [] p q = absurd (omega (arith, p))
agreed_whole (a ∷ text) (b ∷ other) p q =
    elim (eqb_tells a b) [
      | inl t ↦
          let e = same_first a b text other t.1 in
          let more = agreed_whole text other (omega (arith, e, p)) (omega (arith, e, q)) in
          let first = t.1 in
          cc
      | inr t ↦ let e = other_first a b text other t.1 in absurd (omega (arith, e, p))
    ]
