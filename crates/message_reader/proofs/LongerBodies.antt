-- Bodies at the front of longer bytes, and the one reason for which there is none.
use Rattle.std.proofs.Common.{◌≡◌, inl, inr, ℕ, ◌+◌, ◌-◌, ◌<◌, ◌≤◌, List, [], ◌∷◌, ◌++◌, take, drop, refl, sym, ◌∙◌, ap, subst, arith}
use Rattle.std.proofs.lemmas.Bool.{cases_lt}
use Rattle.std.proofs.lemmas.List.{append-nil, append_assoc, length-append, take-append-drop, take-append-le}
use Rattle.std.proofs.Math.Seq.{take-add}
use Rattle.http_bodies.specs.declared.framing.Framing.{Framing}
use Rattle.http_bodies.specs.declared.framing.Framing.TheVariants.{Nothing, Length, Chunked, UntilEnd}
use Rattle.http_bodies.specs.declared.framing.BodyError.{BodyError}
use Rattle.http_bodies.specs.declared.framing.BodyError.TheVariants as bodies
use Rattle.http_bodies.specs.Answers.{CanEndWithin, IsCause, Breaks, IsBroken}
use Rattle.http_bodies.specs.Bodies.{IsBody, BeginsWith}
use Rattle.http_bodies.specs.Reading.{Within}
use Rattle.http_bodies.proofs.Fronts.{longer_text}

-- ---- longer bytes

pub body_longer : (framing : Framing) (text body rest more : List ℕ) → (framing ≡ UntilEnd → more ≡ []) → BeginsWith framing text body rest
    → BeginsWith framing (text ++ more) body (rest ++ more)
body_longer Nothing text body rest more over x = longer_text Nothing text body rest more (λ is. cc) x
body_longer (Length n) text body rest more over x = longer_text (Length n) text body rest more (λ is. cc) x
body_longer Chunked text body rest more over x = longer_text Chunked text body rest more (λ is. cc) x
body_longer UntilEnd text body rest more over x =
    let none : [] ≡ more = sym (over refl) in
    let there : BeginsWith UntilEnd (text ++ []) body (rest ++ []) =
    subst (λ (t : List ℕ). BeginsWith UntilEnd t body (rest ++ [])) (sym (append-nil text)) (subst (λ (r : List ℕ). BeginsWith UntilEnd text body r) (sym (append-nil rest)) x) in
    subst (λ (m : List ℕ). BeginsWith UntilEnd (text ++ m) body (rest ++ m)) none there

breaks_longer : (reads : List ℕ → List ℕ → Type 0) (limit : ℕ) (text more : List ℕ) (error : BodyError) → Breaks reads limit text error
    → Breaks reads limit (text ++ more) error
breaks_longer reads limit text more error b =
    let same : take b.before text ≡ take b.before (text ++ more) = sym (take-append-le b.before text more (omega (arith, b.within))) in
    let next : take (b.before + 1) text ≡ take (b.before + 1) (text ++ more) = sym (take-append-le (b.before + 1) text more (omega (arith, b.within))) in
    record {
      before = b.before;
      within = omega (arith, b.within, length-append text more);
      has_end = subst (CanEndWithin reads limit) same b.has_end;
      goes_on = subst (λ (t : List ℕ). (byte : ℕ) × (rest : List ℕ) × (body : List ℕ) × reads (t ++ byte ∷ rest) body) same b.goes_on;
      none = λ e. b.none (subst (CanEndWithin reads limit) (sym next) e);
      kind = subst (IsCause error reads) next b.kind;
    }

pub broken_longer : (framing : Framing) (limit : ℕ) (text more : List ℕ) (error : BodyError) → IsBroken framing limit text error → IsBroken framing limit (text ++ more) error
broken_longer framing limit text more error broken = elim broken [
  | inl breaks ↦ inl (breaks_longer (IsBody framing) limit text more error breaks)
  | inr large ↦ inr large
]

-- ---- one refusal

front_can : (reads : List ℕ → List ℕ → Type 0) (limit : ℕ) (front rest : List ℕ) → CanEndWithin reads limit (front ++ rest) → CanEndWithin reads limit front
front_can reads limit front rest e = (rest ++ e.0, e.1, subst (λ (t : List ℕ). Within reads limit t e.1) (append_assoc front rest e.0) e.2)

shorter_can : (reads : List ℕ → List ℕ → Type 0) (limit m n : ℕ) (text : List ℕ) → m ≤ n → CanEndWithin reads limit (take n text) → CanEndWithin reads limit (take m text)
shorter_can reads limit m n text less e =
    let longer : take n text ≡ take m text ++ take (n - m) (drop m text) =
    ap (λ (k : ℕ). take k text) (let split : n ≡ m + (n - m) = omega (arith, less) in split) ∙ take-add m (n - m) text in
    front_can reads limit (take m text) (take (n - m) (drop m text)) (subst (CanEndWithin reads limit) longer e)

pub ends_unbroken : (framing : Framing) (limit : ℕ) (text : List ℕ) (error : BodyError) → CanEndWithin (IsBody framing) limit text → IsBroken framing limit text error → ⊥
ends_unbroken framing limit text error ends broken = elim broken [
  | inl b ↦
      let n = b.before + 1 in
      b.none (front_can (IsBody framing) limit (take n text) (drop n text) (subst (CanEndWithin (IsBody framing) limit) (sym (take-append-drop n text)) ends))
  | inr large ↦ too_large framing limit large.1 text large.2 large.3 ends
]
  where
    too_large : (framing : Framing) (limit n : ℕ) (text : List ℕ) → framing ≡ Length n → limit < n → CanEndWithin (IsBody framing) limit text → ⊥
    too_large framing limit n text is over e =
        let reads : IsBody (Length n) (text ++ e.0) e.1 = subst (λ (f : Framing). IsBody f (text ++ e.0) e.1) is e.2.ends in
        omega (arith, reads.1, over, e.2.within)

one_cause : (d e : BodyError) (reads : List ℕ → List ℕ → Type 0) (bytes : List ℕ) → IsCause d reads bytes → IsCause e reads bytes → d ≡ e
one_cause bodies.BadLength e reads bytes x y = absurd x
one_cause bodies.TwoFramings e reads bytes x y = absurd x
one_cause bodies.Early e reads bytes x y = absurd x
one_cause bodies.NoMemory e reads bytes x y = absurd x
one_cause bodies.BadChunk bodies.BadLength reads bytes x y = absurd y
one_cause bodies.BadChunk bodies.TwoFramings reads bytes x y = absurd y
one_cause bodies.BadChunk bodies.Early reads bytes x y = absurd y
one_cause bodies.BadChunk bodies.NoMemory reads bytes x y = absurd y
one_cause bodies.BadChunk bodies.BadChunk reads bytes x y = refl
one_cause bodies.BadChunk bodies.TooLarge reads bytes x y = absurd (x y)
one_cause bodies.TooLarge bodies.BadLength reads bytes x y = absurd y
one_cause bodies.TooLarge bodies.TwoFramings reads bytes x y = absurd y
one_cause bodies.TooLarge bodies.Early reads bytes x y = absurd y
one_cause bodies.TooLarge bodies.NoMemory reads bytes x y = absurd y
one_cause bodies.TooLarge bodies.BadChunk reads bytes x y = absurd (y x)
one_cause bodies.TooLarge bodies.TooLarge reads bytes x y = refl

not_later : (reads : List ℕ → List ℕ → Type 0) (limit : ℕ) (text : List ℕ) (d e : BodyError) (x : Breaks reads limit text d) (y : Breaks reads limit text e) → ¬ (x.before < y.before)
not_later reads limit text d e x y less = x.none (shorter_can reads limit (x.before + 1) y.before text (omega (arith, less)) y.has_end)

one_break : (reads : List ℕ → List ℕ → Type 0) (limit : ℕ) (text : List ℕ) (d e : BodyError) → Breaks reads limit text d → Breaks reads limit text e → d ≡ e
one_break reads limit text d e x y = elim (cases_lt x.before y.before) [
  | inl less ↦ absurd (not_later reads limit text d e x y less)
  | inr first ↦ elim (cases_lt y.before x.before) [
    | inl less ↦ absurd (not_later reads limit text e d y x less)
    | inr second ↦
        let same : x.before ≡ y.before = omega (arith, first, second) in
        one_cause d e reads (take (y.before + 1) text) (subst (λ (k : ℕ). IsCause d reads (take (k + 1) text)) same x.kind) y.kind
  ]
]

-- what is over the limit from the start doesn't break at a byte
large_unbroken : (framing : Framing) (limit n : ℕ) (text : List ℕ) (error : BodyError) → framing ≡ Length n → limit < n → Breaks (IsBody framing) limit text error → ⊥
large_unbroken framing limit n text error is over b =
    let e = b.has_end in
    let reads : IsBody (Length n) (take b.before text ++ e.0) e.1 = subst (λ (f : Framing). IsBody f (take b.before text ++ e.0) e.1) is e.2.ends in
    omega (arith, reads.1, over, e.2.within)

pub one_refusal : (framing : Framing) (limit : ℕ) (text : List ℕ) (d e : BodyError) → IsBroken framing limit text d → IsBroken framing limit text e → d ≡ e
one_refusal framing limit text d e x y = elim x [
  | inl b ↦ elim y [
    | inl c ↦ one_break (IsBody framing) limit text d e b c
    | inr large ↦ absurd (large_unbroken framing limit large.1 text d large.2 large.3 b)
  ]
  | inr large ↦ elim y [
    | inl c ↦ absurd (large_unbroken framing limit large.1 text e large.2 large.3 c)
    | inr other ↦ large.0 ∙ sym other.0
  ]
]
