-- What a step leaves, and what it refuses.
use Rattle.std.proofs.Common.{◌≡◌, ◌≢◌, ℕ, ◌+◌, ◌-◌, ◌<◌, ◌≤◌, inl, inr, List, [], ◌∷◌, ◌++◌, length, take, refl, sym, ◌∙◌, ap, subst, arith, append_assoc, append-nil, length-append, get_or, ◌⊎◌, Result, Ok, Err, IfErr}
use Rattle.std.specs.Result.{IsErrOf}
use Rattle.std.proofs.lemmas.List.{length-take}
use Rattle.http_bodies.specs.declared.framing.BodyError.{BodyError}
use Rattle.http_bodies.specs.declared.framing.BodyError.TheVariants.{TooLarge, NoMemory}
use Rattle.http_bodies.specs.declared.place.Place.{Place}
use Rattle.http_bodies.specs.declared.place.Place.TheVariants.{Open, Data, Line}
use Rattle.http_bodies.specs.declared.place.LinePart.{LinePart}
use Rattle.http_bodies.specs.declared.place.LinePart.TheVariants.{DataReturn}
use Rattle.http_bodies.specs.Reading.{Ends, Follows, state}
use Rattle.http_bodies.specs.Places.{IsSound, IsRefusal}
use Rattle.http_bodies.specs.Answers.{HasEndWithin, Refuses, IsKind}
use Rattle.http_bodies.proofs.Prefixes.{prefix_split, nothing}
use Rattle.http_bodies.proofs.LivingFacts.{line_lives}

-- ---- data

pub data_more : (n spare : ℕ) (d kept : List ℕ) (limit : ℕ) → length d ≤ n
    → Follows (state (Data n spare) kept limit) (state (Data (n - length d) spare) (kept ++ d) limit) d
data_more n spare d kept limit fits = record { limit = refl; ends = λ text body. (there text body, back text body) }
  where
    there : (text body : List ℕ) → Ends (state (Data (n - length d) spare) (kept ++ d) limit) text body → Ends (state (Data n spare) kept limit) (d ++ text) body
    there text body m =
        let e = m.left.0 in
        let next = m.left.1 in
        let more = m.left.2 in
        record {
          added = d ++ m.added;
          left = (
            d ++ e,
            next,
            more,
            ap (λ (l : List ℕ). d ++ l) m.left.3 ∙ sym (append_assoc d e (13 ∷ 10 ∷ next)),
            omega (arith, length-append d e, m.left.4),
            m.left.5,
            ap (λ (l : List ℕ). d ++ l) m.left.6 ∙ sym (append_assoc d e more),
          );
          whole = m.whole ∙ append_assoc kept d m.added;
        }

    back : (text body : List ℕ) → Ends (state (Data n spare) kept limit) (d ++ text) body → Ends (state (Data (n - length d) spare) (kept ++ d) limit) text body
    back text body m =
        let e = m.left.0 in
        let next = m.left.1 in
        let more = m.left.2 in
        let split = prefix_split d text e (13 ∷ 10 ∷ next) m.left.3 (omega (arith, m.left.4)) in
        let rest = split.0 in
        record {
          added = rest ++ more;
          left = (rest, next, more, split.2, omega (arith, m.left.4, ap length split.1, length-append d rest), m.left.5, refl);
          whole = m.whole ∙ ap (λ (l : List ℕ). kept ++ l) (m.left.6 ∙ ap (λ (l : List ℕ). l ++ more) split.1 ∙ append_assoc d rest more) ∙ sym (append_assoc kept d (rest ++ more));
        }

pub data_end : (n spare : ℕ) (d kept : List ℕ) (limit : ℕ) → length d ≡ n
    → Follows (state (Data n spare) kept limit) (state (Line (DataReturn spare)) (kept ++ d) limit) d
data_end n spare d kept limit fits = record { limit = refl; ends = λ text body. (there text body, back text body) }
  where
    there : (text body : List ℕ) → Ends (state (Line (DataReturn spare)) (kept ++ d) limit) text body → Ends (state (Data n spare) kept limit) (d ++ text) body
    there text body m = record {
      added = d ++ m.added;
      left = (d, m.left.0, m.added, ap (λ (l : List ℕ). d ++ l) m.left.1, fits, m.left.2, refl);
      whole = m.whole ∙ append_assoc kept d m.added;
    }

    back : (text body : List ℕ) → Ends (state (Data n spare) kept limit) (d ++ text) body → Ends (state (Line (DataReturn spare)) (kept ++ d) limit) text body
    back text body m =
        let e = m.left.0 in
        let next = m.left.1 in
        let more = m.left.2 in
        let split = prefix_split d text e (13 ∷ 10 ∷ next) m.left.3 (omega (arith, m.left.4, fits)) in
        let none : split.0 ≡ [] = nothing split.0 (omega (arith, m.left.4, fits, ap length split.1, length-append d split.0)) in
        record {
          added = more;
          left = (next, split.2 ∙ ap (λ (l : List ℕ). l ++ 13 ∷ 10 ∷ next) none, m.left.5);
          whole = m.whole ∙ ap (λ (l : List ℕ). kept ++ l) (m.left.6 ∙ ap (λ (l : List ℕ). l ++ more) (split.1 ∙ ap (λ (l : List ℕ). d ++ l) none ∙ append-nil d)) ∙ sym (append_assoc kept d more);
        }

-- ---- refusals

-- the byte behind the limit
pub open_large : (piece kept : List ℕ) (limit : ℕ) → length kept ≤ limit → limit - length kept < length piece
    → Refuses (state Open kept limit) piece TooLarge
open_large piece kept limit fits large =
    let room = limit - length kept in
    record {
      before = limit - length kept;
      within = large;
      has_end = (
        [],
        kept ++ (take (limit - length kept) piece ++ []),
        record {
          ends = record { added = take (limit - length kept) piece ++ []; left = refl; whole = refl };
          within = omega (
            arith,
            length-append kept (take (limit - length kept) piece ++ []),
            length-append (take (limit - length kept) piece) [],
            length-take (limit - length kept) piece,
          );
        },
      );
      goes_on = (
        0,
        [],
        kept ++ (take (limit - length kept) piece ++ 0 ∷ []),
        record { added = take (limit - length kept) piece ++ 0 ∷ []; left = refl; whole = refl },
      );
      none = λ e. omega (
        arith,
        e.2.within,
        ap length e.2.ends.whole,
        length-append kept e.2.ends.added,
        ap length e.2.ends.left,
        length-append (take (limit - length kept + 1) piece) e.0,
        length-take (limit - length kept + 1) piece,
      );
      kind = (
        [],
        kept ++ (take (limit - length kept + 1) piece ++ []),
        record { added = take (limit - length kept + 1) piece ++ []; left = refl; whole = refl },
      );
    }

-- a byte of a line
pub line_refused : (part : LinePart) (byte : ℕ) (rest kept : List ℕ) (limit : ℕ) (error : BodyError) → length kept ≤ limit
    → IsSound (Line part) (limit - length kept) → IsRefusal part byte (limit - length kept) error
    → Refuses (state (Line part) kept limit) (byte ∷ rest) error
line_refused part byte rest kept limit error fits sound is = refuses none kind
  where
    none : ¬ (HasEndWithin (state (Line part) kept limit) (byte ∷ []))
    none e = elim is [
      | inl bad ↦ bad.1 e.0 e.2.ends.added e.2.ends.left
      | inr large ↦ omega (
        arith,
        large.2 e.0 e.2.ends.added e.2.ends.left,
        e.2.within,
        ap length e.2.ends.whole,
        length-append kept e.2.ends.added,
      )
    ]

    kind : IsKind error (state (Line part) kept limit) (byte ∷ [])
    kind = elim is [
      | inl bad ↦ subst (λ e. IsKind e (state (Line part) kept limit) (byte ∷ [])) (sym bad.0) (λ e. bad.1 e.0 e.2.added e.2.left)
      | inr large ↦ subst (λ e. IsKind e (state (Line part) kept limit) (byte ∷ [])) (sym large.0) (
        large.1.0,
        kept ++ large.1.1,
        record { added = large.1.1; left = large.1.2; whole = refl },
      )
    ]

    refuses : ¬ (HasEndWithin (state (Line part) kept limit) (byte ∷ [])) → IsKind error (state (Line part) kept limit) (byte ∷ [])
        → Refuses (state (Line part) kept limit) (byte ∷ rest) error
    refuses none kind =
        let l = line_lives part sound.waits in
        record {
          before = 0;
          within = omega arith;
          has_end = (
            l.byte ∷ l.text,
            kept ++ l.added,
            record {
              ends = record { added = l.added; left = l.left; whole = refl };
              within = omega (arith, length-append kept l.added, l.size, sound.fits, fits);
            },
          );
          goes_on = (l.byte, l.text, kept ++ l.added, record { added = l.added; left = l.left; whole = refl });
          none = none;
          kind = kind;
        }

-- ---- what a step's answer tells

pub line_refused_at : (part : LinePart) (piece kept : List ℕ) (limit : ℕ) (error : BodyError) → 0 < length piece → length kept ≤ limit
    → IsSound (Line part) (limit - length kept) → IsRefusal part (get_or piece 0 0) (limit - length kept) error
    → Refuses (state (Line part) kept limit) piece error
line_refused_at part [] kept limit error some fits sound is = absurd (omega (arith, some))
line_refused_at part (byte ∷ rest) kept limit error some fits sound is = line_refused part byte rest kept limit error fits sound is

pub open_refused : (result : Result (ℕ × Place) BodyError) (piece kept : List ℕ) (limit room : ℕ) → length kept ≤ limit → room ≡ limit - length kept
    → (IsErrOf result TooLarge → room < length piece) → IfErr result (λ e. (e ≡ TooLarge) ⊎ (e ≡ NoMemory))
    → IfErr result (λ e. e ≢ NoMemory → Refuses (state Open kept limit) piece e)
open_refused (Ok x) piece kept limit room fits is large kinds = tt
open_refused (Err e) piece kept limit room fits is large kinds = λ other. elim kinds [
  | inl is_large ↦
      subst (λ e. Refuses (state Open kept limit) piece e) (sym is_large) (open_large piece kept limit fits (omega (arith, is, large (ap Err is_large))))
  | inr is_memory ↦ absurd (other is_memory)
]
