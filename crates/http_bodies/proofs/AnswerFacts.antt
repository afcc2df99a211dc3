-- What readers answer, one piece after another.
use Rattle.std.proofs.Common.{◌≡◌, ◌≢◌, ℕ, zero, suc, ◌+◌, ◌-◌, ◌≤◌, ◌⊎◌, inl, inr, ◌↔◌, List, [], ◌∷◌, ◌++◌, length, take, drop, refl, sym, ◌∙◌, ap, subst, arith, append_assoc, append-nil, length-append, length-drop}
use Rattle.std.proofs.Math.Seq.{take-add}
use Rattle.httparse.specs.Grammar.{print_extension}
use Rattle.http_bodies.specs.declared.framing.BodyError.{BodyError}
use Rattle.http_bodies.specs.declared.framing.BodyError.TheVariants.{BadLength, TwoFramings, BadChunk, TooLarge, Early, NoMemory}
use Rattle.http_bodies.specs.declared.place.Place.{Place}
use Rattle.http_bodies.specs.declared.place.Place.TheVariants.{Whole, Sized, Open, Data, Line, Refused}
use Rattle.http_bodies.specs.declared.place.LinePart.{LinePart}
use Rattle.http_bodies.specs.declared.place.LinePart.TheVariants.{Size, Blanks, Extension, LineFeed, DataReturn, DataFeed, TrailerLine, FieldName, FieldValue, FieldFeed, LastFeed}
use Rattle.http_bodies.specs.Reading.{ReaderState, LineLeft, Left, Ends, Makes, Follows, state}
use Rattle.http_bodies.specs.Places.{IsSound, due}
use Rattle.http_bodies.specs.Answers.{HasEnd, HasEndWithin, GoesOn, IsKind, Takes, Refuses}
use Rattle.http_bodies.specs.Bodies.{IsChunked}
use Rattle.http_bodies.proofs.LineFacts.{chunks_left}
use Rattle.http_bodies.proofs.TrailerFacts.{section_some, value_some, name_some}
use Rattle.http_bodies.proofs.LivingFacts.{zeros, zeros_length, last_chunk, data_lives, line_lives}

-- ---- each place but a refused one has an end

record Living (place : Place) : Type 0 where
  pub text : List ℕ
  pub added : List ℕ
  pub left : Left place text added
  pub size : length added ≡ due place

living : (place : Place) (room : ℕ) → IsSound place room → Living place
living Whole room sound = record { text = []; added = []; left = (refl, refl); size = refl }
living (Sized n) room sound = record { text = zeros n; added = zeros n; left = (refl, zeros_length n); size = zeros_length n }
living Open room sound = record { text = []; added = []; left = refl; size = refl }
living (Data n spare) room sound = record {
  text = zeros n ++ 13 ∷ 10 ∷ 48 ∷ 13 ∷ 10 ∷ 10 ∷ [];
  added = zeros n ++ [];
  left = data_lives n spare;
  size = omega (arith, length-append (zeros n) [], zeros_length n);
}
living (Line part) room sound =
    let lives = line_lives part sound.waits in
    record { text = lives.byte ∷ lives.text; added = lives.added; left = lives.left; size = lives.size }
living (Refused e) room sound = absurd sound.waits

pub has_end : (place : Place) (kept : List ℕ) (limit : ℕ) → IsSound place (limit - length kept) → length kept ≤ limit → HasEndWithin (state place kept limit) []
has_end place kept limit sound fits =
    let lives = living place (limit - length kept) sound in (
      lives.text,
      kept ++ lives.added,
      record {
        ends = record { added = lives.added; left = lives.left; whole = refl };
        within = omega (arith, length-append kept lives.added, lives.size, sound.fits, fits);
      },
    )

pub over : (kept : List ℕ) (limit : ℕ) → ¬ (GoesOn (state Whole kept limit) [])
over kept limit goes = let never : goes.0 ∷ goes.1 ≡ [] = goes.3.left.0 in cc

-- each but the whole body's goes on
pub goes_on : (place : Place) (kept : List ℕ) (limit room : ℕ) → IsSound place room → place ≢ Whole → GoesOn (state place kept limit) []
goes_on Whole kept limit room sound other = absurd (other refl)
goes_on (Sized zero) kept limit room sound other = absurd (omega (arith, sound.waits))
goes_on (Sized (suc n)) kept limit room sound other =
    (0, zeros n, kept ++ 0 ∷ zeros n, record { added = 0 ∷ zeros n; left = (refl, omega (arith, zeros_length n)); whole = refl })
goes_on Open kept limit room sound other = (0, [], kept ++ 0 ∷ [], record { added = 0 ∷ []; left = refl; whole = refl })
goes_on (Data zero spare) kept limit room sound other = absurd (omega (arith, sound.waits))
goes_on (Data (suc n) spare) kept limit room sound other = (
  0,
  zeros n ++ 13 ∷ 10 ∷ 48 ∷ 13 ∷ 10 ∷ 10 ∷ [],
  kept ++ (0 ∷ zeros n ++ []),
  record {
    added = 0 ∷ zeros n ++ [];
    left = (0 ∷ zeros n, 48 ∷ 13 ∷ 10 ∷ 10 ∷ [], [], refl, omega (arith, zeros_length n), last_chunk spare, refl);
    whole = refl;
  },
)
goes_on (Line part) kept limit room sound other =
    let lives = line_lives part sound.waits in
    (lives.byte, lives.text, kept ++ lives.added, record { added = lives.added; left = lives.left; whole = refl })
goes_on (Refused e) kept limit room sound other = absurd sound.waits

-- ---- one after another

pub Follows-nil : (a : ReaderState) → Follows a a []
Follows-nil a = record { limit = refl; ends = λ text body. (λ m. m, λ m. m) }

pub Follows-trans : (a b c : ReaderState) (x y : List ℕ) → Follows a b x → Follows b c y → Follows a c (x ++ y)
Follows-trans a b c x y first second = record {
  limit = second.limit ∙ first.limit;
  ends = λ text body.
      let joined : (x ++ y) ++ text ≡ x ++ (y ++ text) = append_assoc x y text in (
        λ m. subst (λ (t : List ℕ). Ends a t body) (sym joined) ((first.ends (y ++ text) body).0 ((second.ends text body).0 m)),
        λ m. (second.ends text body).1 ((first.ends (y ++ text) body).1 (subst (λ (t : List ℕ). Ends a t body) joined m)),
      );
}

-- what the new state makes of bytes, the old one makes of those before and these
pub ends_after : (a b : ReaderState) (x y text body : List ℕ) → Follows a b x → Ends b (y ++ text) body ↔ Ends a ((x ++ y) ++ text) body
ends_after a b x y text body follows =
    let joined : (x ++ y) ++ text ≡ x ++ (y ++ text) = append_assoc x y text in (
      λ m. subst (λ (t : List ℕ). Ends a t body) (sym joined) ((follows.ends (y ++ text) body).0 m),
      λ m. (follows.ends (y ++ text) body).1 (subst (λ (t : List ℕ). Ends a t body) joined m),
    )

pub has_end_after : (a b : ReaderState) (x y : List ℕ) → Follows a b x → HasEndWithin b y ↔ HasEndWithin a (x ++ y)
has_end_after a b x y follows = (
  λ e. (
    e.0,
    e.1,
    record { ends = (ends_after a b x y e.0 e.1 follows).0 e.2.ends; within = subst (λ (n : ℕ). length e.1 ≤ n) follows.limit e.2.within },
  ),
  λ e. (
    e.0,
    e.1,
    record { ends = (ends_after a b x y e.0 e.1 follows).1 e.2.ends; within = subst (λ (n : ℕ). length e.1 ≤ n) (sym follows.limit) e.2.within },
  ),
)

pub any_end_after : (a b : ReaderState) (x y : List ℕ) → Follows a b x → HasEnd b y ↔ HasEnd a (x ++ y)
any_end_after a b x y follows = (
  λ e. (e.0, e.1, (ends_after a b x y e.0 e.1 follows).0 e.2),
  λ e. (e.0, e.1, (ends_after a b x y e.0 e.1 follows).1 e.2),
)

pub goes_on_after : (a b : ReaderState) (x y : List ℕ) → Follows a b x → GoesOn b y ↔ GoesOn a (x ++ y)
goes_on_after a b x y follows = (
  λ e. (e.0, e.1, e.2, (ends_after a b x y (e.0 ∷ e.1) e.2 follows).0 e.3),
  λ e. (e.0, e.1, e.2, (ends_after a b x y (e.0 ∷ e.1) e.2 follows).1 e.3),
)

pub kind_after : (error : BodyError) (a b : ReaderState) (x y : List ℕ) → Follows a b x → IsKind error b y ↔ IsKind error a (x ++ y)
kind_after BadLength a b x y follows = (λ k. k, λ k. k)
kind_after TwoFramings a b x y follows = (λ k. k, λ k. k)
kind_after BadChunk a b x y follows = (λ k e. k ((any_end_after a b x y follows).1 e), λ k e. k ((any_end_after a b x y follows).0 e))
kind_after TooLarge a b x y follows = any_end_after a b x y follows
kind_after Early a b x y follows = (λ k. k, λ k. k)
kind_after NoMemory a b x y follows = (λ k. k, λ k. k)

-- a refusal of what is left of a piece is one of the piece
pub refuses_after : (a b : ReaderState) (at : ℕ) (piece : List ℕ) (error : BodyError) → at ≤ length piece → Follows a b (take at piece)
    → Refuses b (drop at piece) error → Refuses a piece error
refuses_after a b at piece error within follows refuses =
    let before = refuses.before in
    let rest = drop at piece in
    let so_far : take (at + refuses.before) piece ≡ take at piece ++ take refuses.before (drop at piece) = take-add at refuses.before piece in
    let one_more : take (at + refuses.before + 1) piece ≡ take at piece ++ take (refuses.before + 1) (drop at piece) =
    ap (λ (n : ℕ). take n piece) (omega arith) ∙ take-add at (refuses.before + 1) piece in
    record {
      before = at + refuses.before;
      within = omega (arith, refuses.within, length-drop at piece, within);
      has_end = subst (HasEndWithin a) (sym so_far) ((has_end_after a b (take at piece) (take before rest) follows).0 refuses.has_end);
      goes_on = subst (GoesOn a) (sym so_far) ((goes_on_after a b (take at piece) (take before rest) follows).0 refuses.goes_on);
      none = λ e. refuses.none ((has_end_after a b (take at piece) (take (before + 1) rest) follows).1 (subst (HasEndWithin a) one_more e));
      kind = subst (IsKind error a) (sym one_more) ((kind_after error a b (take at piece) (take (before + 1) rest) follows).0 refuses.kind);
    }

-- a refusal is of one of two kinds
pub kinds_are : (error : BodyError) (s : ReaderState) (bytes : List ℕ) → IsKind error s bytes → (error ≡ BadChunk) ⊎ (error ≡ TooLarge)
kinds_are BadLength s bytes kind = absurd kind
kinds_are TwoFramings s bytes kind = absurd kind
kinds_are BadChunk s bytes kind = inl refl
kinds_are TooLarge s bytes kind = inr refl
kinds_are Early s bytes kind = absurd kind
kinds_are NoMemory s bytes kind = absurd kind

-- ---- at the end of the bytes

-- a line isn't over before its end
line_some : (part : LinePart) (added : List ℕ) → ¬ (LineLeft part [] added)
line_some (Size digits size spare) added e =
    omega (
      arith,
      ap length e.reads,
      length-append e.more e.rest,
      ap length e.line.reads,
      length-append (e.line.pad ++ print_extension e.line.extension) (13 ∷ 10 ∷ e.line.rest),
    )
line_some (Blanks size left spare) added e = omega (arith, ap length e.reads, length-append (e.pad ++ print_extension e.extension) (13 ∷ 10 ∷ e.rest))
line_some (Extension size left spare) added e = omega (arith, ap length e.reads, length-append e.more (13 ∷ 10 ∷ e.rest))
line_some (LineFeed size spare) added e = omega (arith, ap length e.1)
line_some (DataReturn spare) added e = omega (arith, ap length e.1)
line_some (DataFeed spare) added e = omega (arith, ap length e.1)
line_some (TrailerLine fields left) added e = omega (arith, section_some fields [] e.0)
line_some (FieldName fields left) added e = omega (arith, name_some fields [] e.0)
line_some (FieldValue fields left) added e = omega (arith, value_some fields [] e.0)
line_some (FieldFeed fields left) added e = omega (arith, ap length e.0.1)
line_some LastFeed added e = omega (arith, ap length e.0)

-- a body that is whole at the end of the bytes
pub finished : (place : Place) (kept : List ℕ) (limit room : ℕ) → IsSound place room → (body : List ℕ) → Makes (state place kept limit) [] body
    → (place ≡ Whole) ⊎ (place ≡ Open)
finished Whole kept limit room sound body m = inl refl
finished (Sized n) kept limit room sound body m = absurd (omega (arith, sound.waits, m.ends.left.1, ap length m.ends.left.0))
finished Open kept limit room sound body m = inr refl
finished (Data n spare) kept limit room sound body m = absurd (omega (arith, ap length m.ends.left.3, length-append m.ends.left.0 (13 ∷ 10 ∷ m.ends.left.1)))
finished (Line part) kept limit room sound body m = absurd (line_some part m.ends.added m.ends.left)
finished (Refused e) kept limit room sound body m = absurd m.ends.left

-- ---- a reader that has taken the front of a piece

-- up to its end
pub takes_all : (a b : ReaderState) (piece : List ℕ) (at : ℕ) → at ≤ length piece → length piece ≤ at → Follows a b (take at piece)
    → IsSound b.place (b.limit - length b.kept) → length b.kept ≤ b.limit → Takes a piece at
takes_all a b piece at within all follows sound fits = record {
  within = within;
  has_end = subst (HasEndWithin a) (append-nil (take at piece)) ((has_end_after a b (take at piece) [] follows).0 (has_end b.place b.kept b.limit sound fits));
  over = λ fewer. absurd (omega (arith, fewer, all));
}

-- up to the body's end
pub takes_body : (a b : ReaderState) (piece : List ℕ) (at : ℕ) → at ≤ length piece → b.place ≡ Whole → Follows a b (take at piece)
    → IsSound b.place (b.limit - length b.kept) → length b.kept ≤ b.limit → Takes a piece at
takes_body a b piece at within whole follows sound fits = record {
  within = within;
  has_end = subst (HasEndWithin a) (append-nil (take at piece)) ((has_end_after a b (take at piece) [] follows).0 (has_end b.place b.kept b.limit sound fits));
  over = λ fewer goes. over b.kept b.limit
      (subst (λ (p : Place). GoesOn (state p b.kept b.limit) []) whole
      ((goes_on_after a b (take at piece) [] follows).1 (subst (GoesOn a) (sym (append-nil (take at piece))) goes)));
}

-- ---- at the start of the bytes

-- before the first chunk
pub chunks_end : (limit : ℕ) (text body : List ℕ) → Ends (state (Line (Size 0 0 32768)) [] limit) text body ↔ IsChunked 32768 text body
chunks_end limit text body = (
  λ e. subst (λ (b : List ℕ). IsChunked 32768 text b) (sym e.whole) ((chunks_left 32768 text e.added).0 e.left),
  λ b. record { added = body; left = (chunks_left 32768 text body).1 b; whole = refl },
)
