-- One answer at most, and the same for each cut.
use Rattle.std.proofs.Common.{◌≡◌, ℕ, suc, ◌+◌, ◌-◌, ◌<◌, ◌≤◌, inl, inr, ◌↔◌, List, [], ◌∷◌, ◌++◌, length, take, drop, sym, ◌∙◌, ap, subst, arith, append_assoc, append-nil, length-append, length-drop, take-append-drop}
use Rattle.std.proofs.Math.Seq.{take-add}
use Rattle.std.proofs.lemmas.Bool.{cases_lt}
use Rattle.std.proofs.lemmas.List.{length-take}
use Rattle.http_bodies.specs.declared.framing.BodyError.{BodyError}
use Rattle.http_bodies.specs.Reading.{ReaderState, Ends, Makes, Follows}
use Rattle.http_bodies.specs.Answers.{HasEndWithin, GoesOn, IsKind, Takes, Refuses}
use Rattle.http_bodies.proofs.Prefixes.{take_within}
use Rattle.http_bodies.proofs.AnswerFacts.{has_end_after, goes_on_after, kind_after, kinds_are}

-- ---- fronts

-- a front has what a longer one has
front_ends : (s : ReaderState) (front rest : List ℕ) → HasEndWithin s (front ++ rest) → HasEndWithin s front
front_ends s front rest e = (rest ++ e.0, e.1, subst (λ (t : List ℕ). Makes s t e.1) (append_assoc front rest e.0) e.2)

front_goes_on : (s : ReaderState) (front rest : List ℕ) → GoesOn s (front ++ rest) → GoesOn s front
front_goes_on s front [] e = subst (GoesOn s) (append-nil front) e
front_goes_on s front (b ∷ rest) e =
    (b, rest ++ e.0 ∷ e.1, e.2, subst (λ (t : List ℕ). Ends s t e.2) (append_assoc front (b ∷ rest) (e.0 ∷ e.1)) e.3)

-- a front of a longer one goes on
longer_goes_on : (s : ReaderState) (front rest : List ℕ) → 0 < length rest → HasEndWithin s (front ++ rest) → GoesOn s front
longer_goes_on s front [] some e = absurd (omega (arith, some))
longer_goes_on s front (b ∷ rest) some e =
    (b, rest ++ e.0, e.1, subst (λ (t : List ℕ). Ends s t e.1) (append_assoc front (b ∷ rest) e.0) e.2.ends)

longer : (m n : ℕ) (piece : List ℕ) → m ≤ n → take n piece ≡ take m piece ++ take (n - m) (drop m piece)
longer m n piece less = ap (λ (k : ℕ). take k piece) (omega (arith, less)) ∙ take-add m (n - m) piece

shorter_ends : (s : ReaderState) (piece : List ℕ) (m n : ℕ) → m ≤ n → HasEndWithin s (take n piece) → HasEndWithin s (take m piece)
shorter_ends s piece m n less e =
    front_ends s (take m piece) (take (n - m) (drop m piece)) (subst (HasEndWithin s) (longer m n piece less) e)

shorter_goes_on : (s : ReaderState) (piece : List ℕ) (m n : ℕ) → m ≤ n → GoesOn s (take n piece) → GoesOn s (take m piece)
shorter_goes_on s piece m n less e =
    front_goes_on s (take m piece) (take (n - m) (drop m piece)) (subst (GoesOn s) (longer m n piece less) e)

-- ---- one answer

-- fewer bytes aren't taken where more have an end
fewer_not_taken : (s : ReaderState) (piece : List ℕ) (m n : ℕ) → m < n → n ≤ length piece → Takes s piece m → ¬ (HasEndWithin s (take n piece))
fewer_not_taken s piece m n less within takes e =
    takes.over (omega (arith, less, within))
    (longer_goes_on s (take m piece) (take (n - m) (drop m piece))
    (omega (arith, length-take (n - m) (drop m piece), length-drop m piece, less, within))
    (subst (HasEndWithin s) (longer m n piece (omega (arith, less))) e))

pub one_count : (s : ReaderState) (piece : List ℕ) (m n : ℕ) → Takes s piece m → Takes s piece n → m ≡ n
one_count s piece m n first second = elim (cases_lt m n) [
  | inl less ↦ absurd (fewer_not_taken s piece m n less second.within first second.has_end)
  | inr not_less ↦ elim (cases_lt n m) [
    | inl less ↦ absurd (fewer_not_taken s piece n m less first.within second first.has_end)
    | inr neither ↦ omega (arith, not_less, neither)
  ]
]

later_ends : (s : ReaderState) (piece : List ℕ) (d e : BodyError) (first : Refuses s piece d) (second : Refuses s piece e) → ¬ (first.before < second.before)
later_ends s piece d e first second less =
    first.none (shorter_ends s piece (first.before + 1) second.before (omega (arith, less)) second.has_end)

one_kind : (d e : BodyError) (s : ReaderState) (bytes : List ℕ) → IsKind d s bytes → IsKind e s bytes → d ≡ e
one_kind d e s bytes first second = elim (kinds_are d s bytes first) [
  | inl bad ↦ elim (kinds_are e s bytes second) [
    | inl same ↦ bad ∙ sym same
    | inr large ↦ absurd ((subst (λ k. IsKind k s bytes) bad first) (subst (λ k. IsKind k s bytes) large second))
  ]
  | inr large ↦ elim (kinds_are e s bytes second) [
    | inl bad ↦ absurd ((subst (λ k. IsKind k s bytes) bad second) (subst (λ k. IsKind k s bytes) large first))
    | inr same ↦ large ∙ sym same
  ]
]

pub one_refusal : (s : ReaderState) (piece : List ℕ) (d e : BodyError) → Refuses s piece d → Refuses s piece e → d ≡ e
one_refusal s piece d e first second =
    let same : first.before ≡ second.before = elim (cases_lt first.before second.before) [
      | inl less ↦ absurd (later_ends s piece d e first second less)
      | inr not_less ↦ elim (cases_lt second.before first.before) [
        | inl less ↦ absurd (later_ends s piece e d second first less)
        | inr neither ↦ omega (arith, not_less, neither)
      ]
    ] in
    one_kind d e s (take (second.before + 1) piece) (subst (λ (k : ℕ). IsKind d s (take (k + 1) piece)) same first.kind) second.kind

pub not_both : (s : ReaderState) (piece : List ℕ) (n : ℕ) (e : BodyError) → Takes s piece n → ¬ (Refuses s piece e)
not_both s piece n e takes refuses = elim (cases_lt refuses.before n) [
  | inl less ↦ refuses.none (shorter_ends s piece (refuses.before + 1) n (omega (arith, less)) takes.has_end)
  | inr past ↦ takes.over (omega (arith, past, refuses.within)) (shorter_goes_on s piece n refuses.before past refuses.goes_on)
]

-- ---- any cut

take_past : (first second : List ℕ) (n : ℕ) → take (length first + n) (first ++ second) ≡ first ++ take n second
take_past [] second n = let none : 0 + n ≡ n = omega arith in ap (λ (k : ℕ). take k second) none
take_past (x ∷ first) second n =
    let one_more : suc (length first) + n ≡ suc (length first + n) = omega arith in
    ap (λ (k : ℕ). take k (x ∷ (first ++ second))) one_more ∙ ap (λ (l : List ℕ). x ∷ l) (take_past first second n)

pub cut_taken : (a b : ReaderState) (x y : List ℕ) (n : ℕ) → Follows a b x → Takes b y n ↔ Takes a (x ++ y) (length x + n)
cut_taken a b x y n follows = (
  λ t. record {
    within = omega (arith, t.within, length-append x y);
    has_end = subst (HasEndWithin a) (sym (take_past x y n)) ((has_end_after a b x (take n y) follows).0 t.has_end);
    over = λ fewer goes. t.over (omega (arith, fewer, length-append x y))
        ((goes_on_after a b x (take n y) follows).1 (subst (GoesOn a) (take_past x y n) goes));
  },
  λ t. record {
    within = omega (arith, t.within, length-append x y);
    has_end = (has_end_after a b x (take n y) follows).1 (subst (HasEndWithin a) (take_past x y n) t.has_end);
    over = λ fewer goes. t.over (omega (arith, fewer, length-append x y))
        (subst (GoesOn a) (sym (take_past x y n)) ((goes_on_after a b x (take n y) follows).0 goes));
  },
)

pub cut_refused : (a b : ReaderState) (x y : List ℕ) (e : BodyError) → Follows a b x → HasEndWithin b [] → Refuses b y e ↔ Refuses a (x ++ y) e
cut_refused a b x y e follows lives = (there, back)
  where
    there : Refuses b y e → Refuses a (x ++ y) e
    there r =
        let more : take (length x + r.before + 1) (x ++ y) ≡ x ++ take (r.before + 1) y =
        ap (λ (k : ℕ). take k (x ++ y)) (omega arith) ∙ take_past x y (r.before + 1) in
        record {
          before = length x + r.before;
          within = omega (arith, r.within, length-append x y);
          has_end = subst (HasEndWithin a) (sym (take_past x y r.before)) ((has_end_after a b x (take r.before y) follows).0 r.has_end);
          goes_on = subst (GoesOn a) (sym (take_past x y r.before)) ((goes_on_after a b x (take r.before y) follows).0 r.goes_on);
          none = λ h. r.none ((has_end_after a b x (take (r.before + 1) y) follows).1 (subst (HasEndWithin a) more h));
          kind = subst (IsKind e a) (sym more) ((kind_after e a b x (take (r.before + 1) y) follows).0 r.kind);
        }

    whole : HasEndWithin a x
    whole = subst (HasEndWithin a) (append-nil x) ((has_end_after a b x [] follows).0 lives)

    -- the refusal isn't in the first piece
    past : (r : Refuses a (x ++ y) e) → length x ≤ r.before
    past r = elim (cases_lt r.before (length x)) [
      | inl less ↦
          let front : take (r.before + 1) (x ++ y) ≡ take (r.before + 1) x = take_within (r.before + 1) x y (omega (arith, less)) in
          let split : x ≡ take (r.before + 1) x ++ drop (r.before + 1) x = sym (take-append-drop (r.before + 1) x) in
          absurd (r.none (subst (HasEndWithin a) (sym front) (front_ends a (take (r.before + 1) x) (drop (r.before + 1) x) (subst (HasEndWithin a) split whole))))
      | inr not_less ↦ not_less
    ]

    back : Refuses a (x ++ y) e → Refuses b y e
    back r =
        let k = r.before - length x in
        let behind = past r in
        let so_far : take r.before (x ++ y) ≡ x ++ take (r.before - length x) y =
        ap (λ (n : ℕ). take n (x ++ y)) (omega (arith, behind)) ∙ take_past x y (r.before - length x) in
        let more : take (r.before + 1) (x ++ y) ≡ x ++ take (r.before - length x + 1) y =
        ap (λ (n : ℕ). take n (x ++ y)) (omega (arith, behind)) ∙ take_past x y (r.before - length x + 1) in
        record {
          before = r.before - length x;
          within = omega (arith, r.within, length-append x y, behind);
          has_end = (has_end_after a b x (take k y) follows).1 (subst (HasEndWithin a) so_far r.has_end);
          goes_on = (goes_on_after a b x (take k y) follows).1 (subst (GoesOn a) so_far r.goes_on);
          none = λ h. r.none (subst (HasEndWithin a) (sym more) ((has_end_after a b x (take (k + 1) y) follows).0 h));
          kind = (kind_after e a b x (take (k + 1) y) follows).1 (subst (IsKind e a) more r.kind);
        }
