-- Quoted texts: one reading at most, and what is written is read again.
use Rattle.std.proofs.Common.{◌≡◌, ℕ, suc, ◌+◌, ◌*◌, ◌<◌, ◌≤◌, ◌-◌, ◌/◌, ◌%◌, List, [], ◌∷◌, ◌++◌, length, get_or, take, drop, sym, ap, ◌∙◌, subst, refl, arith, ◌⊎◌, inl, inr, Bool, true, false, cond, eqb, ltb, leb, length-append, length-drop, append_assoc}
use Rattle.std.specs.Prelude.{Option, Some, None, option_map, ◌||◌, ◌&&◌}
use Rattle.std.specs.List.{flat_map}
use Rattle.std.specs.Char.{digit_value, digit_char}
use Rattle.std.proofs.lemmas.Option.{some_pair_parts, none-some}
use Rattle.std.proofs.lemmas.List.{drop_at, drop-drop, take_rest, take-append-drop}
use Rattle.std.proofs.lemmas.Str.{digit_value-digit_char}
use Rattle.std.proofs.lemmas.Bool.Decides.{nat_tests, eqb_tells}
use Rattle.std.specs.Prelude.{MatchOption}
use Rattle.std.specs.Cmp.Lexicographic.{pointwise}
use Rattle.std.proofs.Common.{Bor}
use Rattle.units.proofs.Prefixes.{begins, begins_not}
use Rattle.units.specs.Quoted.{ReadsPieces, IsQuoted, IsQuotedAt, piece, escape, hexadecimal, octal, sign_byte, piece_of, quote_of}

-- a test that chose between two answers
pub chosen : {A : Type 0} (b : Bool) (x y z : A) → cond b x y ≡ z → ((b ≡ true) × (x ≡ z)) ⊎ ((b ≡ false) × (y ≡ z))
chosen true x y z e = inl (refl, e)
chosen false x y z e = inr (refl, e)

-- one text ends with the other, and is longer
pub record Ends (whole rest : List ℕ) : Type 0 where
  pub front : List ℕ
  pub some : 0 < length front
  pub joined : whole ≡ front ++ rest

ends_by : (front rest m : List ℕ) → 0 < length front → rest ≡ m → Ends (front ++ rest) m
ends_by front rest m some e = record { front = front; some = some; joined = ap (λ r. front ++ r) e }

ends_more : (x : ℕ) (whole rest : List ℕ) → Ends whole rest → Ends (x ∷ whole) rest
ends_more x whole rest h = record { front = x ∷ h.front; some = omega arith; joined = ap (λ r. x ∷ r) h.joined }

pair_of : (b : Bool) (v value : ℕ) (rest behind : List ℕ) → cond {A = Option (ℕ × List ℕ)} b (Some (v, rest)) None ≡ Some (value, behind) → rest ≡ behind
pair_of true v value rest behind e = (some_pair_parts v value rest behind e).1
pair_of false v value rest behind e = cc

hexadecimal_ends : (bytes : List ℕ) (value : ℕ) (behind : List ℕ) → hexadecimal bytes ≡ Some (value, behind) → Ends bytes behind
hexadecimal_ends [] value behind e = cc
hexadecimal_ends (h ∷ []) value behind e = cc
hexadecimal_ends (h ∷ l ∷ rest) value behind e = ends_by (h ∷ l ∷ []) rest behind (omega arith) (pair_of _ _ _ _ _ e)

octal_ends : (bytes : List ℕ) (value : ℕ) (behind : List ℕ) → octal bytes ≡ Some (value, behind) → Ends bytes behind
octal_ends [] value behind e = cc
octal_ends (h ∷ []) value behind e = cc
octal_ends (h ∷ m ∷ []) value behind e = cc
octal_ends (h ∷ m ∷ l ∷ rest) value behind e = ends_by (h ∷ m ∷ l ∷ []) rest behind (omega arith) (pair_of _ _ _ _ _ e)

mapped : (o : Option ℕ) (rest : List ℕ) (value : ℕ) (behind : List ℕ) → option_map {U = ℕ × List ℕ} (λ byte. (byte, rest)) o ≡ Some (value, behind) → rest ≡ behind
mapped None rest value behind e = cc
mapped (Some x) rest value behind e = (some_pair_parts x value rest behind e).1

pub escape_ends : (bytes : List ℕ) (value : ℕ) (behind : List ℕ) → escape bytes ≡ Some (value, behind) → Ends bytes behind
escape_ends [] value behind e = cc
escape_ends (sign ∷ rest) value behind e =
    elim (chosen (eqb sign 120) _ _ _ e) [
      | inl h ↦ ends_more sign rest behind (hexadecimal_ends rest value behind h.1)
      | inr h ↦ elim (chosen (ltb (digit_value sign) 10) _ _ _ h.1) [
        | inl k ↦ octal_ends (sign ∷ rest) value behind k.1
        | inr k ↦ ends_by (sign ∷ []) rest behind (omega arith) (mapped (sign_byte sign) rest value behind k.1)
      ]
    ]

pub piece_ends : (bytes : List ℕ) (value : ℕ) (behind : List ℕ) → piece bytes ≡ Some (value, behind) → Ends bytes behind
piece_ends [] value behind e = cc
piece_ends (first ∷ rest) value behind e =
    elim (chosen (eqb first 92) _ _ _ e) [
      | inl h ↦ ends_more first rest behind (escape_ends rest value behind h.1)
      | inr h ↦ elim (chosen (eqb first 34 || eqb first 10) _ _ _ h.1) [
        | inl k ↦ cc
        | inr k ↦ ends_by (first ∷ []) rest behind (omega arith) ((some_pair_parts first value rest behind k.1).1)
      ]
    ]

-- one more piece
pub pieces_push : (values : List ℕ) (bytes rest : List ℕ) (value : ℕ) (behind : List ℕ) → ReadsPieces values bytes rest → piece rest ≡ Some (value, behind) → ReadsPieces (values ++ value ∷ []) bytes behind
pieces_push [] bytes rest value behind h e = (behind, ap piece h ∙ e, refl)
pieces_push (v ∷ values) bytes rest value behind h e = (h.0, h.1, pieces_push values h.0 rest value behind h.2 e)

pub pieces_more : (bytes rest : List ℕ) (value : ℕ) (behind : List ℕ) → ((values : List ℕ) × ReadsPieces values bytes rest) → piece rest ≡ Some (value, behind) → (values : List ℕ) × ReadsPieces values bytes behind
pieces_more bytes rest value behind h e = (h.0 ++ value ∷ [], pieces_push h.0 bytes rest value behind h.1 e)

-- where the pieces end, no quoted text goes on
pub pieces_stop : (values others : List ℕ) (bytes rest behind : List ℕ) → ReadsPieces values bytes rest → piece rest ≡ None → ReadsPieces others bytes (34 ∷ behind) → rest ≡ 34 ∷ behind
pieces_stop [] [] bytes rest behind h stop k = sym h ∙ k
pieces_stop [] (w ∷ others) bytes rest behind h stop k = absurd (none-some (w, k.0) (sym stop ∙ (sym (ap piece h) ∙ k.1)))
pieces_stop (v ∷ values) [] bytes rest behind h stop k = absurd (none-some (v, h.0) (sym (ap piece k) ∙ h.1))
pieces_stop (v ∷ values) (w ∷ others) bytes rest behind h stop k =
    let same = some_pair_parts v w h.0 k.0 (sym h.1 ∙ k.1) in
    let at : List ℕ → Type 0 = λ m. ReadsPieces others m (34 ∷ behind) in
    pieces_stop values others h.0 rest behind h.2 stop (subst at (sym same.1) k.2)

pub pieces_same : (values others : List ℕ) (bytes x y : List ℕ) → ReadsPieces values bytes (34 ∷ x) → ReadsPieces others bytes (34 ∷ y) → (values ≡ others) × (x ≡ y)
pieces_same [] [] bytes x y h k = let e = sym h ∙ k in (refl, cc)
pieces_same [] (w ∷ others) bytes x y h k = absurd (none-some (w, k.0) (sym (ap piece h) ∙ k.1))
pieces_same (v ∷ values) [] bytes x y h k = absurd (none-some (v, h.0) (sym (ap piece k) ∙ h.1))
pieces_same (v ∷ values) (w ∷ others) bytes x y h k =
    let same = some_pair_parts v w h.0 k.0 (sym h.1 ∙ k.1) in
    let at : List ℕ → Type 0 = λ m. ReadsPieces others m (34 ∷ y) in
    let r = pieces_same values others h.0 x y h.2 (subst at (sym same.1) k.2) in
    let e0 = same.0 in
    let e1 = r.0 in
    (cc, r.1)

pub quoted_same : (v w bytes x y : List ℕ) → IsQuoted v bytes x → IsQuoted w bytes y → (v ≡ w) × (x ≡ y)
quoted_same v w bytes x y h k =
    let e = sym h.1 ∙ k.1 in
    let same : k.0 ≡ h.0 = cc in
    let at : List ℕ → Type 0 = λ m. ReadsPieces w m (34 ∷ y) in
    pieces_same v w h.0 x y h.2 (subst at same k.2)

-- what is behind is the end of the bytes
pub pieces_end : (values : List ℕ) (bytes rest : List ℕ) → ReadsPieces values bytes rest → (front : List ℕ) × (bytes ≡ front ++ rest)
pieces_end [] bytes rest h = ([], h)
pieces_end (v ∷ values) bytes rest h =
    let first = piece_ends bytes v h.0 h.1 in
    let more = pieces_end values h.0 rest h.2 in
    (first.front ++ more.0, first.joined ∙ (ap (λ r. first.front ++ r) more.1 ∙ sym (append_assoc first.front more.0 rest)))

-- what is behind is the end of the bytes, from its own place on
pub place_of : (bytes rest : List ℕ) → (front : List ℕ) × (bytes ≡ front ++ rest) → rest ≡ drop (length bytes - length rest) bytes
place_of bytes rest h =
    let e : bytes ≡ h.0 ++ rest = h.1 in
    let n : length bytes ≡ length h.0 + length rest = omega (arith, ap length e, length-append h.0 rest) in
    let m : length bytes - length rest ≡ length h.0 = omega arith in
    let at : drop (length bytes - length rest) (h.0 ++ rest) ≡ rest = drop_at h.0 rest _ (sym m) in
    sym (ap (drop (length bytes - length rest)) e ∙ at)

-- A quoted text that was read stands at its place.
pub quoted_at : (bytes : List ℕ) (from : ℕ) (body rest values : List ℕ) → from ≤ length bytes → drop from bytes ≡ 34 ∷ body → ReadsPieces values body (34 ∷ rest) → (length rest ≤ length bytes) × IsQuotedAt bytes from values (length bytes - length rest)
quoted_at bytes from body rest values within e h =
    let end = pieces_end values body (34 ∷ rest) h in
    let front = take from bytes ++ (34 ∷ end.0 ++ 34 ∷ []) in
    let joined : bytes ≡ front ++ rest = sym (take-append-drop from bytes) ∙ (ap (λ r. take from bytes ++ r) (e ∙ ap (λ r. 34 ∷ r) end.1) ∙ simp append_assoc) in
    let place = place_of bytes rest (front, joined) in
    let long : length rest ≤ length bytes = omega (arith, ap length joined, length-append front rest) in
    let at : List ℕ → Type 0 = λ r. IsQuoted values (drop from bytes) r in
    (long, (within, omega arith, subst at place (body, e, h)))

-- where the pieces end, the text is whole if a quote follows
pub body_read : (body rest : List ℕ) (found : Option (Bor (List ℕ))) → ((values : List ℕ) × ReadsPieces values body rest) → piece rest ≡ None → MatchOption found (pointwise eqb (take 1 rest) (34 ∷ []) ≡ false) (λ x. (pointwise eqb (take 1 rest) (34 ∷ []) ≡ true) × (x.now ≡ drop 1 rest) × (length x.now + 1 ≡ length rest)) → MatchOption found ((values behind : List ℕ) → ReadsPieces values body (34 ∷ behind) → ⊥) (λ x. (values : List ℕ) × ReadsPieces values body (34 ∷ x.now))
body_read body rest None read stop k = λ values behind h. begins_not 34 rest behind k (pieces_stop read.0 values body rest behind read.1 stop h)
body_read body rest (Some x) read stop k =
    let at : List ℕ → Type 0 = λ t. ReadsPieces read.0 body t in
    (read.0, subst at (begins 34 rest x.now k.0 k.1) read.1)

-- a quoted text takes a byte at least
pub quoted_starts : (bytes : List ℕ) (from : ℕ) (values : List ℕ) (behind : ℕ) → IsQuotedAt bytes from values behind → from < length bytes
quoted_starts bytes from values behind h =
    let e = ap length h.2.1 in
    omega (arith, e, length-drop from bytes)

-- what a quoted text stands for is told by its pieces as far as they go
pub quoted_whole : (bytes : List ℕ) (from behind : ℕ) (others values tail : List ℕ) → IsQuotedAt bytes from others behind → ReadsPieces values (take (length bytes - (from + 1)) (drop (from + 1) bytes)) tail → piece tail ≡ None → IsQuotedAt bytes from values behind
quoted_whole bytes from behind others values tail h read stop =
    let quoted = h.2 in
    let body : take (length bytes - (from + 1)) (drop (from + 1) bytes) ≡ quoted.0 = take_rest bytes (from + 1) ∙ (sym (drop-drop 1 from bytes) ∙ ap (λ b. drop 1 b) quoted.1) in
    let of_body : List ℕ → Type 0 = λ b. ReadsPieces values b tail in
    let of_tail : List ℕ → Type 0 = λ t. ReadsPieces values quoted.0 t in
    let reads = subst of_body body read in
    (h.0, h.1, (quoted.0, quoted.1, subst of_tail (pieces_stop values others quoted.0 tail (drop behind bytes) reads stop quoted.2) reads))

-- A byte that is written is read again.
hexadecimal_back : (byte : ℕ) (rest : List ℕ) → byte < 256 → hexadecimal (digit_char (byte / 16) ∷ digit_char (byte % 16) ∷ rest) ≡ Some (byte, rest)
hexadecimal_back byte rest small =
    let high : digit_value (digit_char (byte / 16)) ≡ byte / 16 = digit_value-digit_char (byte / 16) (omega arith) in
    let low : digit_value (digit_char (byte % 16)) ≡ byte % 16 = digit_value-digit_char (byte % 16) (omega arith) in
    let P : ℕ → ℕ → Type 0 = λ h l. cond {A = Option (ℕ × List ℕ)} (ltb h 16 && ltb l 16) (Some (16 * h + l, rest)) None ≡ Some (byte, rest) in
    let within : P (byte / 16) (byte % 16) = grind (arith, nat_tests) in
    subst (λ h. P h (digit_value (digit_char (byte % 16)))) (sym high) (subst (P (byte / 16)) (sym low) within)

plain_back : (byte : ℕ) (rest : List ℕ) → eqb byte 92 ≡ false → eqb byte 34 ≡ false → eqb byte 10 ≡ false → piece (byte ∷ rest) ≡ Some (byte, rest)
plain_back byte rest a b c = rw (a, b, c) refl

abbrev tail_of : ℕ → List ℕ
tail_of byte = cond (leb 32 byte && leb byte 126) (byte ∷ []) (92 ∷ 120 ∷ digit_char (byte / 16) ∷ digit_char (byte % 16) ∷ [])

written : (byte : ℕ) → eqb byte 92 ≡ false → eqb byte 34 ≡ false → eqb byte 10 ≡ false → eqb byte 13 ≡ false → eqb byte 9 ≡ false → piece_of byte ≡ tail_of byte
written byte a b c d e = rw (a, b, c, d, e) refl

chosen_back : (byte : ℕ) (rest : List ℕ) → byte < 256 → eqb byte 92 ≡ false → eqb byte 34 ≡ false → eqb byte 10 ≡ false → (t : Bool) → piece (cond t (byte ∷ []) (92 ∷ 120 ∷ digit_char (byte / 16) ∷ digit_char (byte % 16) ∷ []) ++ rest) ≡ Some (byte, rest)
chosen_back byte rest small a b c true = plain_back byte rest a b c
chosen_back byte rest small a b c false = hexadecimal_back byte rest small

pub piece_back : (byte : ℕ) (rest : List ℕ) → byte < 256 → piece (piece_of byte ++ rest) ≡ Some (byte, rest)
piece_back byte rest small =
    let P : ℕ → Type 0 = λ b. piece (piece_of b ++ rest) ≡ Some (b, rest) in
    elim (eqb_tells byte 92) [
      | inl h ↦ subst P (sym h.1) refl
      | inr a ↦
          elim (eqb_tells byte 34) [
            | inl h ↦ subst P (sym h.1) refl
            | inr b ↦
                elim (eqb_tells byte 10) [
                  | inl h ↦ subst P (sym h.1) refl
                  | inr c ↦
                      elim (eqb_tells byte 13) [
                        | inl h ↦ subst P (sym h.1) refl
                        | inr d ↦
                            elim (eqb_tells byte 9) [
                              | inl h ↦ subst P (sym h.1) refl
                              | inr e ↦
                                  ap (λ w. piece (w ++ rest)) (written byte a.0 b.0 c.0 d.0 e.0) ∙ chosen_back byte rest small a.0 b.0 c.0 (leb 32 byte && leb byte 126)
                            ]
                      ]
                ]
          ]
    ]

-- the pieces of a text are read again
pub pieces_back : (text rest : List ℕ) → ((i : ℕ) → get_or text i 0 < 256) → ReadsPieces text (flat_map piece_of text ++ rest) rest
pieces_back [] rest small = refl
pieces_back (byte ∷ text) rest small =
    (flat_map piece_of text ++ rest, ap piece (append_assoc (piece_of byte) (flat_map piece_of text) rest) ∙ piece_back byte (flat_map piece_of text ++ rest) (small 0), pieces_back text rest (λ i. small (suc i)))

pub quote_back : (text rest : List ℕ) → ((i : ℕ) → get_or text i 0 < 256) → IsQuoted text (quote_of text ++ rest) rest
quote_back text rest small =
    let e : flat_map piece_of text ++ 34 ∷ rest ≡ (flat_map piece_of text ++ 34 ∷ []) ++ rest = sym (append_assoc (flat_map piece_of text) (34 ∷ []) rest) in
    let at : List ℕ → Type 0 = λ r. ReadsPieces text r (34 ∷ rest) in
    ((flat_map piece_of text ++ 34 ∷ []) ++ rest, refl, subst at e (pieces_back text (34 ∷ rest) small))
