-- A text of lines is one list of lines.
use Rattle.std.proofs.Common.{◌≡◌, ◌≢◌, inl, inr, ℕ, ◌/◌, ◌%◌, ◌<◌, ◌≤◌, suc, Bool, true, false, List, [], ◌∷◌, ◌++◌, get_or, sym, ap, ◌∙◌, subst, refl, arith, append_assoc, cond, eqb, leb}
use Rattle.std.specs.Prelude.{◌&&◌}
use Rattle.std.specs.Char.{digit_value, digit_char}
use Rattle.std.specs.List.{AllByRecursion, flat_map}
use Rattle.std.specs.Fmt.{decimal}
use Rattle.std.proofs.lemmas.Bool.Decides.{eqb_tells}
use Rattle.std.proofs.lemmas.Str.{digit_value-digit_char}
use Rattle.units.specs.Quoted.{piece_of, quote_of}
use Rattle.journal_text.specs.declared.line.Line.{Line}
use Rattle.journal_text.specs.declared.word.Word.{Word}
use Rattle.journal_text.specs.Words.{AreWords, behind, line_text, word_text}
use Rattle.journal_text.specs.Grammar.{line_words}
use Rattle.journal_text.specs.Journals.{IsLine, lines_text, text_of}
use Rattle.journal_text.proofs.Spelling.{Form, IsDigit, IsKeyByte, form_of, key_all, number_digits, named, counted, below, between}
use Rattle.journal_reader.proofs.Unique.{line_same}
use Rattle.journal_reader.specs.Histories.{AreLines}

-- no LF stands in a text
HasNoFeed : List ℕ → Type 0
HasNoFeed text = AllByRecursion (λ byte. byte ≢ 10) text

joined_free : (front rest : List ℕ) → HasNoFeed front → HasNoFeed rest → HasNoFeed (front ++ rest)
unfolding HasNoFeed
joined_free [] rest h k = k
joined_free (byte ∷ front) rest h k = (h.0, joined_free front rest h.1 k)

digits_free : (text : List ℕ) → AllByRecursion IsDigit text → HasNoFeed text
unfolding HasNoFeed
digits_free [] d = tt
digits_free (byte ∷ text) d = let low = d.0.low in (λ e. omega (arith, low, e), digits_free text d.1)

key_free : (text : List ℕ) → AllByRecursion IsKeyByte text → HasNoFeed text
unfolding HasNoFeed
key_free [] k = tt
key_free (byte ∷ text) k = let prints = k.0.prints in (λ e. omega (arith, prints, e), key_free text k.1)

digit_free : (n : ℕ) → n < 16 → digit_char n ≢ 10
digit_free n small e =
    let back : digit_value (digit_char n) ≡ n = digit_value-digit_char n (omega (arith, small)) in
    let far : digit_value 10 ≡ n = ap digit_value (sym e) ∙ back in
    let none : 16 ≤ digit_value 10 = omega arith in
    omega (arith, far, none, small)

unprinted_free : (byte : ℕ) → byte < 256 → HasNoFeed (92 ∷ 120 ∷ digit_char (byte / 16) ∷ digit_char (byte % 16) ∷ [])
unfolding HasNoFeed
unprinted_free byte small =
    (λ e. omega (arith, e), (λ e. omega (arith, e), (digit_free (byte / 16) (omega (arith, small)), (digit_free (byte % 16) (omega arith), tt))))

tail_free : (byte : ℕ) → byte < 256 → byte ≢ 10 → (prints : Bool) → HasNoFeed (cond {A = List ℕ} prints (byte ∷ []) (92 ∷ 120 ∷ digit_char (byte / 16) ∷ digit_char (byte % 16) ∷ []))
unfolding HasNoFeed
tail_free byte small other true = (other, tt)
tail_free byte small other false = unprinted_free byte small

tail_of : (byte : ℕ) → eqb byte 92 ≡ false → eqb byte 34 ≡ false → eqb byte 10 ≡ false → eqb byte 13 ≡ false → eqb byte 9 ≡ false → piece_of byte ≡ cond {A = List ℕ} (leb 32 byte && leb byte 126) (byte ∷ []) (92 ∷ 120 ∷ digit_char (byte / 16) ∷ digit_char (byte % 16) ∷ [])
tail_of byte a b c d e = rw (a, b, c, d, e) refl

two_free : (a b : ℕ) → a ≢ 10 → b ≢ 10 → HasNoFeed (a ∷ b ∷ [])
unfolding HasNoFeed
two_free a b p q = (p, (q, tt))

piece_free : (byte : ℕ) → byte < 256 → HasNoFeed (piece_of byte)
piece_free byte small =
    let P : ℕ → Type 0 = λ b. HasNoFeed (piece_of b) in
    elim (eqb_tells byte 92) [
      | inl h ↦ subst P (sym h.1) (two_free 92 92 (λ e. omega (arith, e)) (λ e. omega (arith, e)))
      | inr a ↦
          elim (eqb_tells byte 34) [
            | inl h ↦ subst P (sym h.1) (two_free 92 34 (λ e. omega (arith, e)) (λ e. omega (arith, e)))
            | inr b ↦
                elim (eqb_tells byte 10) [
                  | inl h ↦ subst P (sym h.1) (two_free 92 110 (λ e. omega (arith, e)) (λ e. omega (arith, e)))
                  | inr c ↦
                      elim (eqb_tells byte 13) [
                        | inl h ↦ subst P (sym h.1) (two_free 92 114 (λ e. omega (arith, e)) (λ e. omega (arith, e)))
                        | inr d ↦
                            elim (eqb_tells byte 9) [
                              | inl h ↦ subst P (sym h.1) (two_free 92 116 (λ e. omega (arith, e)) (λ e. omega (arith, e)))
                              | inr e ↦
                                  subst HasNoFeed (sym (tail_of byte a.0 b.0 c.0 d.0 e.0)) (tail_free byte small c.1 (leb 32 byte && leb byte 126))
                            ]
                      ]
                ]
          ]
    ]

pieces_free : (text : List ℕ) → ((i : ℕ) → get_or text i 0 < 256) → HasNoFeed (flat_map piece_of text)
unfolding HasNoFeed
pieces_free [] h = tt
pieces_free (byte ∷ text) h = joined_free (piece_of byte) (flat_map piece_of text) (piece_free byte (h 0)) (pieces_free text (λ i. h (suc i)))

quote_free : (text : List ℕ) → ((i : ℕ) → get_or text i 0 < 256) → HasNoFeed (quote_of text)
unfolding HasNoFeed
quote_free text h =
    let end : HasNoFeed (34 ∷ []) = (λ e. omega (arith, e), tt) in
    (λ e. omega (arith, e), joined_free (flat_map piece_of text) (34 ∷ []) (pieces_free text h) end)

form_free : (word : Word) → Form word → HasNoFeed (word_text word)
unfolding HasNoFeed
form_free word (named text e t k) = subst HasNoFeed (sym t) (key_free text (key_all text k))
form_free word (counted n e t h) = subst HasNoFeed (sym t) (digits_free (decimal n) (number_digits n h))
form_free word (below n e t h) = subst HasNoFeed (sym t) (λ q. omega (arith, q), digits_free (decimal (suc n)) (number_digits (suc n) h))
form_free word (between text e t h) = subst HasNoFeed (sym t) (quote_free text h)

behind_free : (words : List Word) → AreWords words → HasNoFeed (behind words)
unfolding HasNoFeed
behind_free [] h = tt
behind_free (word ∷ words) h = (λ e. omega (arith, e), joined_free (word_text word) (behind words) (form_free word (form_of word h.0)) (behind_free words h.1))

line_free : (words : List Word) → AreWords words → HasNoFeed (line_text words)
unfolding HasNoFeed
line_free [] h = tt
line_free (word ∷ words) h = joined_free (word_text word) (behind words) (form_free word (form_of word h.0)) (behind_free words h.1)

-- what stands before the first LF is one text
fronts : (v w x y : List ℕ) → HasNoFeed v → HasNoFeed w → v ++ 10 ∷ x ≡ w ++ 10 ∷ y → (v ≡ w) × (x ≡ y)
unfolding HasNoFeed
fronts [] [] x y h k e = let tails : x ≡ y = cc in (refl, tails)
fronts [] (d ∷ w) x y h k e = let t : 10 ≡ d = cc in absurd (k.0 (sym t))
fronts (c ∷ v) [] x y h k e = let t : c ≡ 10 = cc in absurd (h.0 t)
fronts (c ∷ v) (d ∷ w) x y h k e =
    let heads : c ≡ d = cc in
    let tails : v ++ 10 ∷ x ≡ w ++ 10 ∷ y = cc in
    let r = fronts v w x y h.1 k.1 tails in
    let r0 = r.0 in
    let all : c ∷ v ≡ d ∷ w = cc in
    (all, r.1)

some_bytes : (front rest : List ℕ) → [] ≡ front ++ 10 ∷ rest → ⊥
some_bytes [] rest e = cc
some_bytes (byte ∷ front) rest e = cc

ended_first : (one : Line) (lines : List Line) → lines_text (one ∷ lines) ≡ text_of one ++ 10 ∷ lines_text lines
ended_first one lines = append_assoc (text_of one) (10 ∷ []) (lines_text lines)

-- a line that is written within the range of its numbers holds no LF
pub no_feed_in : (one : Line) → AreWords (line_words one) → AllByRecursion (λ (byte : ℕ). byte ≢ 10) (text_of one)
unfolding HasNoFeed
no_feed_in one h = line_free (line_words one) h

-- texts without LF, each with its LF and a rest
pub feeds_same : (v w x y : List ℕ) → AllByRecursion (λ (byte : ℕ). byte ≢ 10) v → AllByRecursion (λ (byte : ℕ). byte ≢ 10) w → v ++ 10 ∷ x ≡ w ++ 10 ∷ y → (v ≡ w) × (x ≡ y)
unfolding HasNoFeed
feeds_same v w x y h k e = fronts v w x y h k e

-- the text of one line more
pub ended-first : (one : Line) (lines : List Line) → lines_text (one ∷ lines) ≡ text_of one ++ 10 ∷ lines_text lines
ended-first one lines = ended_first one lines

pub lines_same : (some others : List Line) → AreLines some → AreLines others → lines_text some ≡ lines_text others → some ≡ others
lines_same [] [] h k e = refl
lines_same [] (b ∷ others) h k e = absurd (some_bytes (text_of b) (lines_text others) (e ∙ ended_first b others))
lines_same (a ∷ some) [] h k e = absurd (some_bytes (text_of a) (lines_text some) (sym e ∙ ended_first a some))
lines_same (a ∷ some) (b ∷ others) h k e =
    let whole = sym (ended_first a some) ∙ (e ∙ ended_first b others) in
    let r = fronts (text_of a) (text_of b) (lines_text some) (lines_text others) (line_free (line_words a) h.0.words) (line_free (line_words b) k.0.words) whole in
    let at : List ℕ → Type 0 = λ text. IsLine text a in
    let one = line_same (text_of b) a b (subst at r.0 h.0) k.0 in
    let more = lines_same some others h.1 k.1 r.1 in
    cc
