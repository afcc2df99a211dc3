-- The places of callers who are named once each are all the places of a history, each once, where the history has nobody else's
-- entries.
use Rattle.std.proofs.Common.{◌≡◌, ◌≢◌, ℕ, ◌+◌, ◌<◌, ◌≤◌, ◌==◌, Bool, true, false, List, [], ◌∷◌, ◌++◌, length, if◌then◌else◌, refl, sym, ap, ◌∙◌, subst, arith}
use Rattle.std.specs.List.{All, flat_map}
use borrow.Author.Tests.{eqb-true, eqb-false}
use Rattle.std.proofs.lemmas.List.Elements.{All-head, All-tail}
use Rattle.turnstile.specs.Knowledge.{places_from}
use Rattle.crew.specs.Places.{times, EachOnce}

pub times-append : (k : ℕ) (xs ys : List ℕ) → times k (xs ++ ys) ≡ times k xs + times k ys
times-append k [] ys = omega arith
times-append k (x ∷ xs) ys = let rest = times-append k xs ys in omega arith

one : (b : Bool) (k at : ℕ) (others : List ℕ) → times k (if b then at ∷ others else others) ≡ (if b then (if k == at then 1 else 0) else 0) + times k others
one true k at others = refl
one false k at others = omega arith

-- of the callers, as many have their place here as are the caller of this entry
shared : (b c : Bool) (m n rest : ℕ) → (if c then (if b then 1 else 0) + n else 0) + (m + rest) ≡ ((if b then (if c then 1 else 0) else 0) + m) + ((if c then n else 0) + rest)
shared true true m n rest = omega arith
shared true false m n rest = omega arith
shared false true m n rest = omega arith
shared false false m n rest = omega arith

-- a number is another one or isn't
by_test : (k at : ℕ) (P : ℕ → Type 0) (b : Bool) → (k == at) ≡ b → (k ≡ at → P 1) → (k ≢ at → P 0) → P (if b then 1 else 0)
by_test k at P true e same other = same (eqb-true k at e)
by_test k at P false e same other = other (eqb-false k at e)

pub either : (k at : ℕ) (P : ℕ → Type 0) → (k ≡ at → P 1) → (k ≢ at → P 0) → P (if k == at then 1 else 0)
either k at P same other = by_test k at P (k == at) refl same other

module _ {E : Type 0} (caller : E → ℕ) where
  -- the places of several callers' entries, one caller after another
  abbrev pub places_among : ℕ → List E → List ℕ → List ℕ
  places_among at history numbers = flat_map (λ n. places_from caller n at history) numbers

  nowhere : (k at : ℕ) (numbers : List ℕ) → times k (places_among at [] numbers) ≡ 0
  nowhere k at [] = refl
  nowhere k at (n ∷ ns) = nowhere k at ns

  first_place : (k at : ℕ) (e : E) (es : List E) (numbers : List ℕ)
      → times k (places_among at (e ∷ es) numbers) ≡ (if k == at then times (caller e) numbers else 0) + times k (places_among (at + 1) es numbers)
  first_place k at e es [] = elim (k == at) as (λ (b : Bool). 0 ≡ (if b then 0 else 0) + 0) [ true ↦ refl | false ↦ refl ]
  first_place k at e es (n ∷ ns) =
      let here = one (caller e == n) k at (places_from caller n (at + 1) es) in
      let split = times-append k (if caller e == n then at ∷ places_from caller n (at + 1) es else places_from caller n (at + 1) es) (places_among at (e ∷ es) ns) in
      let joined = times-append k (places_from caller n (at + 1) es) (places_among (at + 1) es ns) in
      let rest = first_place k at e es ns in
      let m = times k (places_from caller n (at + 1) es) in
      let both = shared (caller e == n) (k == at) m (times (caller e) ns) (times k (places_among (at + 1) es ns)) in
      split ∙ (ap (λ (x : ℕ). x + times k (places_among at (e ∷ es) ns)) here
      ∙ (ap (λ (x : ℕ). ((if caller e == n then (if k == at then 1 else 0) else 0) + m) + x) rest
      ∙ (sym both ∙ ap (λ (x : ℕ). (if k == at then (if caller e == n then 1 else 0) + times (caller e) ns else 0) + x) (sym joined))))

  pub record Counted (k at count : ℕ) (n : ℕ) : Type 0 where
    pub before : k < at → count ≡ 0
    pub within : at ≤ k → k < at + n → count ≡ 1
    pub behind : at + n ≤ k → count ≡ 0

  counted : (k at : ℕ) (history : List E) (numbers : List ℕ) → All (λ e. times (caller e) numbers ≡ 1) history
      → Counted k at (times k (places_among at history numbers)) (length history)
  counted k at [] numbers all =
      let none = nowhere k at numbers in record {
        before = λ _. none;
        within = λ low high. absurd (omega arith);
        behind = λ _. none;
      }
  counted k at (e ∷ es) numbers all =
      let rest = counted k (at + 1) es numbers (All-tail (λ (x : E). times (caller x) numbers ≡ 1) e es all) in
      let single = All-head (λ (x : E). times (caller x) numbers ≡ 1) e es all in
      let step = first_place k at e es numbers ∙ ap (λ (x : ℕ). (if k == at then x else 0) + times k (places_among (at + 1) es numbers)) single in
      subst (λ (count : ℕ). Counted k at count (length (e ∷ es))) (sym step)
      (either k at (λ (x : ℕ). Counted k at (x + times k (places_among (at + 1) es numbers)) (length (e ∷ es)))
      (λ same. let none = rest.before (omega arith) in record {
        before = λ low. absurd (omega arith);
        within = λ low high. omega arith;
        behind = λ beyond. absurd (omega arith);
      })
      (λ other. record {
        before = λ low. let none = rest.before (omega arith) in omega arith;
        within = λ low high. let some = rest.within (omega arith) (omega arith) in omega arith;
        behind = λ beyond. let none = rest.behind (omega arith) in omega arith;
      }))

  pub each_once : (history : List E) (numbers : List ℕ) → All (λ e. times (caller e) numbers ≡ 1) history → EachOnce history (places_among 0 history numbers)
  each_once history numbers all = record {
    within = λ k low. (counted k 0 history numbers all).within (omega arith) (omega arith);
    beyond = λ k high. (counted k 0 history numbers all).behind (omega arith);
  }
