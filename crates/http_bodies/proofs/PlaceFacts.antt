-- What clauses see of a place, and one place of a line for another that leaves the same.
use Rattle.std.proofs.Common.{◌≡◌, ◌≢◌, ℕ, ◌∷◌, List, inl, inr, ◌↔◌, true, Some, None, Result, Ok, Err, IfOk, IfErr, refl, sym, ◌∙◌, subst}
use Rattle.std.specs.Result.{IsErrAnd}
use Rattle.http_bodies.specs.declared.framing.BodyError.{BodyError}
use Rattle.http_bodies.specs.declared.place.Place.{Place}
use Rattle.http_bodies.specs.declared.place.Place.TheVariants.{Whole, Sized, Open, Data, Line, Refused}
use Rattle.http_bodies.specs.declared.place.LinePart.{LinePart}
use Rattle.http_bodies.specs.Reading.{ReaderState, LineLeft, Left, Ends, refusal_at, refusal, is_whole_at}
use Rattle.http_bodies.specs.Places.{IsNext, IsRefusal}

pub next_by : (p q : LinePart) (byte : ℕ) (result : Result Place BodyError)
    → ((text added : List ℕ) → LineLeft p (byte ∷ text) added ↔ LineLeft q (byte ∷ text) added)
    → IfOk result (IsNext p byte) → IfOk result (IsNext q byte)
next_by p q byte (Ok next) same is = λ text added. (λ l. (same text added).0 ((is text added).0 l), λ l. (is text added).1 ((same text added).1 l))
next_by p q byte (Err e) same is = tt

pub refusal_by : (p q : LinePart) (byte room : ℕ) (result : Result Place BodyError)
    → ((text added : List ℕ) → LineLeft p (byte ∷ text) added ↔ LineLeft q (byte ∷ text) added)
    → IfErr result (IsRefusal p byte room) → IfErr result (IsRefusal q byte room)
refusal_by p q byte room (Ok next) same is = tt
refusal_by p q byte room (Err e) same is = elim is [
  | inl bad ↦ inl (bad.0, λ text added l. bad.1 text added ((same text added).1 l))
  | inr large ↦ inr (
    large.0,
    (large.1.0, large.1.1, (same large.1.0 large.1.1).0 large.1.2),
    λ text added l. large.2 text added ((same text added).1 l),
  )
]

-- ---- what clauses see

pub whole_place : (p : Place) → is_whole_at p ≡ true → p ≡ Whole
whole_place Whole is = refl
whole_place (Sized n) is = absurd (cc)
whole_place Open is = absurd (cc)
whole_place (Data n spare) is = absurd (cc)
whole_place (Line part) is = absurd (cc)
whole_place (Refused e) is = absurd (cc)

pub refused_place : (p : Place) (error : BodyError) → refusal_at p ≡ Some error → p ≡ Refused error
refused_place Whole error is = absurd (cc)
refused_place (Sized n) error is = absurd (cc)
refused_place Open error is = absurd (cc)
refused_place (Data n spare) error is = absurd (cc)
refused_place (Line part) error is = absurd (cc)
refused_place (Refused e) error is = let same : e ≡ error = cc in λ i. Refused (same i)

pub open_place : (p : Place) → refusal_at p ≡ None → (error : BodyError) → p ≢ Refused error
open_place Whole none error is = cc
open_place (Sized n) none error is = cc
open_place Open none error is = cc
open_place (Data n spare) none error is = cc
open_place (Line part) none error is = cc
open_place (Refused e) none error is = cc

none_at : (p : Place) (text added : List ℕ) → Left p text added → refusal_at p ≡ None
none_at Whole text added left = refl
none_at (Sized n) text added left = refl
none_at Open text added left = refl
none_at (Data n spare) text added left = refl
none_at (Line part) text added left = refl
none_at (Refused e) text added left = absurd left

-- where something may still come, nothing was refused
pub alive : (s : ReaderState) (text body : List ℕ) → Ends s text body → refusal s ≡ None
alive s text body ends = none_at s.place text ends.added ends.left

-- ---- what is told of an error that is passed on

pub passed_on : {T : Type 0} (result : Result T BodyError) (error : BodyError) (P : BodyError → Type 0) → IsErrAnd result (λ e. e ≡ error) → P error → IfErr result P
passed_on (Ok x) error P is p = tt
passed_on (Err e) error P is p = subst P (sym is) p

pub passed_back : {T : Type 0} (result : Result T BodyError) (error other : BodyError) → IsErrAnd result (λ e. e ≡ error) → result ≡ Err other → error ≡ other
passed_back (Ok x) error other is same = absurd is
passed_back (Err e) error other is same = let inside : e ≡ other = cc in sym is ∙ inside
