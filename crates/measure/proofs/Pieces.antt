-- A reader that was fed one piece more.
use Rattle.std.proofs.Common.{◌≡◌, ◌≢◌, Result, Ok, Err, ℕ, zero, suc, ◌+◌, ◌<◌, ◌≤◌, ◌⊎◌, inl, inr, true, Some, None, List, [], ◌∷◌, length, take, drop, refl, sym, ◌∙◌, ap, subst, arith, length-drop, append-nil}
use Rattle.std.proofs.Math.Seq.{take-add}
use Rattle.std.proofs.lemmas.List.{length-take}
use Rattle.http_bodies.specs.declared.framing.Framing.{Framing}
use Rattle.http_bodies.specs.declared.framing.BodyError.{BodyError}
use Rattle.http_bodies.specs.declared.place.Place.{Place}
use Rattle.http_bodies.specs.declared.place.Place.TheVariants.{Whole, Sized, Open, Data, Line, Refused}
use Rattle.http_bodies.specs.Reading.{ReaderState, Left, Follows, Makes, Starts, refusal, is_whole, is_whole_at}
use Rattle.http_bodies.specs.Answers.{HasEndWithin, GoesOn, IsKind, Takes, Refuses}
use Rattle.http_bodies.proofs.AnswerFacts.{Follows-trans, refuses_after, has_end_after, goes_on_after}
use Rattle.http_bodies.proofs.Fronts.{one_body, broken_none, text_broken, text_found, early_none}
use Rattle.http_bodies.specs.declared.framing.BodyError.TheVariants as fault
use Rattle.measure.specs.declared.count.CountError.{CountError}
use Rattle.measure.specs.declared.count.CountError.TheVariants as counting
use Rattle.measure.specs.Tasks.{HasBody}

take_shorter : (n k : ℕ) (xs : List ℕ) → n ≤ k → take n (take k xs) ≡ take n xs
take_shorter zero k xs less = refl
take_shorter (suc n) zero xs less = absurd (omega (arith, less))
take_shorter (suc n) (suc k) [] less = refl
take_shorter (suc n) (suc k) (x ∷ xs) less = ap (λ (l : List ℕ). x ∷ l) (take_shorter n k xs (omega (arith, less)))

pub piece_fed : (a b c : ReaderState) (input : List ℕ) (at wanted n : ℕ) → at ≤ length input → Follows a b (take at input)
    → n ≤ length (take wanted (drop at input)) → Follows b c (take n (take wanted (drop at input)))
    → (at + n ≤ length input) × Follows a c (take (at + n) input)
piece_fed a b c input at wanted n within so_far fits more =
    let few : n ≤ wanted = omega (arith, fits, length-take wanted (drop at input)) in
    let next : Follows b c (take n (drop at input)) = subst (Follows b c) (take_shorter n wanted (drop at input) few) more in (
      omega (arith, fits, length-take wanted (drop at input), length-drop at input, within),
      subst (Follows a c) (sym (take-add at n input)) (Follows-trans a b c (take at input) (take n (drop at input)) so_far next),
    )

-- ---- refusals and ends

-- a refusal of a front is one of the whole piece
front_refuses : (s : ReaderState) (piece : List ℕ) (wanted : ℕ) (error : BodyError) → Refuses s (take wanted piece) error → Refuses s piece error
front_refuses s piece wanted error r =
    let size : length (take wanted piece) ≤ wanted = omega (arith, length-take wanted piece) in
    let so_far : take r.before (take wanted piece) ≡ take r.before piece = take_shorter r.before wanted piece (omega (arith, r.within, size)) in
    let one_more : take (r.before + 1) (take wanted piece) ≡ take (r.before + 1) piece = take_shorter (r.before + 1) wanted piece (omega (arith, r.within, size)) in
    record {
      before = r.before;
      within = omega (arith, r.within, length-take wanted piece);
      has_end = subst (HasEndWithin s) so_far r.has_end;
      goes_on = subst (GoesOn s) so_far r.goes_on;
      none = λ e. r.none (subst (HasEndWithin s) (sym one_more) e);
      kind = subst (IsKind error s) one_more r.kind;
    }

-- what a reader tells of a piece is told of the input
pub piece_refused : (a b : ReaderState) (input : List ℕ) (at wanted : ℕ) (error : BodyError) → at ≤ length input → Follows a b (take at input)
    → (refusal b ≡ refusal a) ⊎ (refusal b ≡ None) → (refusal b ≡ Some error) ⊎ Refuses b (take wanted (drop at input)) error
    → (refusal a ≡ Some error) ⊎ Refuses a input error
piece_refused a b input at wanted error within follows kept told = elim told [
  | inl refused ↦ elim kept [
    | inl same ↦ inl (sym same ∙ refused)
    | inr open_still ↦ absurd (let never : None ≡ Some error = sym open_still ∙ refused in cc)
  ]
  | inr refuses ↦ inr (refuses_after a b at input error within follows (front_refuses b (drop at input) wanted error refuses))
]

-- a body that is whole goes on to no other
none_left : (p : Place) (byte : ℕ) (text added : List ℕ) → is_whole_at p ≡ true → Left p (byte ∷ text) added → ⊥
none_left Whole byte text added is left = let never : byte ∷ text ≡ [] = left.0 in cc
none_left (Sized n) byte text added is left = absurd (cc)
none_left Open byte text added is left = absurd (cc)
none_left (Data n spare) byte text added is left = absurd (cc)
none_left (Line part) byte text added is left = absurd (cc)
none_left (Refused e) byte text added is left = left

whole_over : (s : ReaderState) → is_whole s ≡ true → ¬ (GoesOn s [])
whole_over s is goes = none_left s.place goes.0 goes.1 goes.3.added is goes.3.left

-- a front of the input that was taken in pieces
taken_by : (a b : ReaderState) (input : List ℕ) (n : ℕ) → n ≤ length input → Follows a b (take n input) → (n < length input → is_whole b ≡ true)
    → HasEndWithin b [] → Takes a input n
taken_by a b input n within follows whole lives = record {
  within = within;
  has_end = subst (HasEndWithin a) (append-nil (take n input)) ((has_end_after a b (take n input) [] follows).0 lives);
  over = λ fewer goes. whole_over b (whole fewer)
      ((goes_on_after a b (take n input) [] follows).1 (subst (GoesOn a) (sym (append-nil (take n input))) goes));
}

-- ---- the count

pub body_counted : (framing : Framing) (a b : ReaderState) (input body : List ℕ) (n : ℕ) → Starts framing 8388608 a → n ≤ length input
    → Follows a b (take n input) → (n < length input → is_whole b ≡ true) → Makes b [] body → HasBody framing input (length body)
body_counted framing a b input body n starts within follows whole makes =
    let takes = taken_by a b input n within follows whole ([], body, makes) in
    let told = text_found framing 8388608 n a b input body starts takes follows makes in
    record { body = body; rest = drop n input; reads = told.0; short = told.2; is = refl }

-- a body that was read is the one that stands there
pub same_count : (framing : Framing) (input : List ℕ) (m n : ℕ) → HasBody framing input m → HasBody framing input n → m ≡ n
same_count framing input m n x y =
    let bodies = one_body framing input x.body x.rest y.body y.rest x.reads y.reads in
    x.is ∙ ap length bodies.0 ∙ sym y.is

-- where a body stands at the front, the reader refuses none
pub not_broken : (framing : Framing) (a : ReaderState) (input : List ℕ) (n : ℕ) (error : BodyError) → Starts framing 8388608 a → HasBody framing input n
    → (refusal a ≡ Some error) ⊎ Refuses a input error → ⊥
not_broken framing a input n error starts has told =
    broken_none framing 8388608 input has.body has.rest error (text_broken framing 8388608 a input error starts told) has.reads has.short

-- and its end isn't early
pub not_early : (framing : Framing) (a b : ReaderState) (input : List ℕ) (m n : ℕ) → Starts framing 8388608 a → m ≤ length input
    → Follows a b (take m input) → (m < length input → is_whole b ≡ true) → HasEndWithin b [] → ((body : List ℕ) → ¬ (Makes b [] body))
    → HasBody framing input n → ⊥
not_early framing a b input m n starts within follows whole lives none has =
    early_none framing 8388608 m a b input has.body has.rest starts (taken_by a b input m within follows whole lives) follows none has.reads has.short

pub not_refused_later : (framing : Framing) (a b : ReaderState) (input : List ℕ) (n : ℕ) (error : BodyError) → Starts framing 8388608 a → HasBody framing input n
    → (refusal b ≡ refusal a) ⊎ (refusal b ≡ None) → refusal b ≡ Some error → ⊥
not_refused_later framing a b input n error starts has kept refused = elim kept [
  | inl same ↦ not_broken framing a input n error starts has (inl (sym same ∙ refused))
  | inr none ↦ absurd (let never : None ≡ Some error = sym none ∙ refused in cc)
]

-- an error that can't be another is want of memory
pub memory_alone : (result : Result ℕ CountError) (counted : CountError) (error : BodyError) (n : ℕ) → result ≡ Err counted → (counted ≢ counting.NoMemory → error ≢ fault.NoMemory)
    → (error ≢ fault.NoMemory → ⊥) → (result ≡ Ok n) ⊎ (result ≡ Err counting.NoMemory)
memory_alone result counting.NoMemory error n is told never = inr is
memory_alone result counting.Refused error n is told never = absurd (never (told (λ same. cc)))
