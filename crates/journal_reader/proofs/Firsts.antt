-- The word that stands first.
use Rattle.std.proofs.Common.{◌≡◌, ◌≢◌, inl, inr, ℕ, ℤ, pos, negsuc, zero, suc, ◌+◌, ◌-◌, ◌<◌, ◌≤◌, ◌^◌, true, false, List, [], ◌∷◌, ◌++◌, length, get_or, take, drop, sym, ap, ◌∙◌, subst, refl, arith, Bor}
use Rattle.std.specs.Prelude.{Option, Some, None, MatchOption, nat_lt}
use Rattle.std.specs.List.{list_all, position, position_or_len}
use Rattle.std.specs.Fmt.{decimal}
use Rattle.std.proofs.lemmas.Bool.{false≢true}
use Rattle.std.proofs.lemmas.Bool.Decides.{nat_tests}
use Rattle.std.proofs.lemmas.Fmt.{decimal_injective}
use Rattle.std.proofs.lemmas.Grind.{common_steps}
use Rattle.std.proofs.lemmas.List.Quantifiers.{position-Some}
use Rattle.std.proofs.lemmas.List.Sums.{fails_before_first}
use Rattle.units.specs.Numbers.{IsNumber}
use Rattle.units.specs.Quoted.{IsQuoted, IsQuotedAt, quote_of}
use Rattle.units.proofs.Pieces.{chosen, place_of, quoted_same, quote_back}
use Rattle.journal_text.specs.declared.word.Word.{Word}
use Rattle.journal_text.specs.declared.word.Word.TheVariants.{Key, Short, Middle, Long, Signed, Quoted}
use Rattle.journal_text.specs.Words.{IsWord, is_key, is_key_byte, loose, word_text}
use Rattle.journal_text.proofs.Spelling.{Form, HasNoBlank, Starts, digits_no_blank, form_of, fronts_same, key_all, key_no_blank, number_digits, number_starts, named, counted, below, between}
use Rattle.journal_reader.specs.Fronts.{IsParted, is_blank}

pub key_by_bytes : (text : List ℕ) → 0 < length text → is_key text ≡ list_all is_key_byte text
key_by_bytes [] some = absurd (omega (arith, some))
key_by_bytes (byte ∷ text) some = refl

at_length : (v rest : List ℕ) → get_or (v ++ 32 ∷ rest) (length v) 0 ≡ 32
at_length v rest = grind (arith, common_steps)

all_pass : (bytes : List ℕ) → position is_blank bytes ≡ None → length bytes ≤ position_or_len is_blank bytes
all_pass bytes e =
    elim (chosen (nat_lt (position_or_len is_blank bytes) (length bytes)) (Some (position_or_len is_blank bytes)) None None e) [
      | inl t ↦ let found = t.1 in absurd cc
      | inr t ↦ let test = t.0 in grind (arith, nat_tests, test)
    ]

pub no_part : (bytes v rest : List ℕ) → position is_blank bytes ≡ None → bytes ≡ v ++ 32 ∷ rest → ⊥
no_part bytes v rest e joined =
    let inside : length v < length bytes = grind (arith, common_steps, joined) in
    let all = all_pass bytes e in
    let none = fails_before_first is_blank bytes (length v) 0 (omega (arith, all, inside)) in
    let at : get_or bytes (length v) 0 ≡ 32 = ap (λ b. get_or b (length v) 0) joined ∙ at_length v rest in
    let yes : is_blank (get_or bytes (length v) 0) ≡ true = rw at refl in
    absurd (false≢true (sym none ∙ yes))

blank_is : (byte : ℕ) → is_blank byte ≡ true → byte ≡ 32
blank_is byte e = grind (arith, nat_tests, e)

no_blank_is : (byte : ℕ) → is_blank byte ≡ false → byte ≢ 32
no_blank_is byte e same = absurd (false≢true (sym e ∙ ap is_blank same))

parts : (bytes : List ℕ) (i : ℕ) → i < length bytes → is_blank (get_or bytes i 0) ≡ true → ((k : ℕ) → k < i → is_blank (get_or bytes k 0) ≡ false) → IsParted bytes (take i bytes) (drop (i + 1) bytes)
parts [] i less e h = absurd (omega (arith, less))
parts (byte ∷ bytes) zero less e h = let same = blank_is byte e in record { joined = ap (λ b. b ∷ bytes) same; free = tt }
parts (byte ∷ bytes) (suc i) less e h =
    let more = parts bytes i (omega (arith, less)) e (λ k l. h (suc k) (omega (arith, l))) in
    let next : drop (suc i + 1) (byte ∷ bytes) ≡ drop (i + 1) bytes = grind (arith, common_steps) in
    record { joined = ap (λ b. byte ∷ b) more.joined ∙ ap (λ r. byte ∷ (take i bytes ++ 32 ∷ r)) (sym next); free = (no_blank_is byte (h 0 (omega arith)), more.free) }

pub part_at : (bytes : List ℕ) (i : ℕ) → position is_blank bytes ≡ Some i → IsParted bytes (take i bytes) (drop (i + 1) bytes)
part_at bytes i e =
    let found = position-Some is_blank bytes i 0 e in
    parts bytes i found.0 found.1 found.2

pub part_slices : (bytes : List ℕ) (i : ℕ) → position is_blank bytes ≡ Some i → IsParted bytes (take i bytes) (take (length bytes - (i + 1)) (drop (i + 1) bytes))
part_slices bytes i e =
    let all : take (length bytes - (i + 1)) (drop (i + 1) bytes) ≡ drop (i + 1) bytes = grind (arith, common_steps) in
    rw all (part_at bytes i e)

-- a word is quoted, or it has no blank and doesn't begin with a quote
pub data Looks (word : Word) : Type 0 where
  in_quotes : (text : List ℕ) → loose word ≡ Quoted text → word_text word ≡ quote_of text → ((i : ℕ) → get_or text i 0 < 256) → Looks word
  bare : HasNoBlank (word_text word) → Starts (λ byte. byte ≢ 34) (word_text word) → Looks word

key_starts : (text : List ℕ) → is_key text ≡ true → Starts (λ byte. byte ≢ 34) text
key_starts [] e = absurd (false≢true e)
key_starts (byte ∷ text) e = let p = (key_all (byte ∷ text) e).0.prints in record { first = byte; rest = text; joined = refl; is = λ h. omega (arith, p, h) }

looks_of : (word : Word) → Form word → Looks word
looks_of word (named text e t k) =
    let at : List ℕ → Type 0 = λ s. HasNoBlank s in
    let first : List ℕ → Type 0 = λ s. Starts (λ byte. byte ≢ 34) s in
    bare (subst at (sym t) (key_no_blank text (key_all text k))) (subst first (sym t) (key_starts text k))
looks_of word (counted n e t h) =
    let at : List ℕ → Type 0 = λ s. HasNoBlank s in
    let first : List ℕ → Type 0 = λ s. Starts (λ byte. byte ≢ 34) s in
    let s = number_starts n h in
    let low = s.is.low in
    bare (subst at (sym t) (digits_no_blank (decimal n) (number_digits n h))) (subst first (sym t) (record { first = s.first; rest = s.rest; joined = s.joined; is = λ q. omega (arith, low, q) }))
looks_of word (below n e t h) =
    let at : List ℕ → Type 0 = λ s. HasNoBlank s in
    let first : List ℕ → Type 0 = λ s. Starts (λ byte. byte ≢ 34) s in
    bare (subst at (sym t) (λ q. omega (arith, q), digits_no_blank (decimal (suc n)) (number_digits (suc n) h))) (subst first (sym t) (record { first = 45; rest = decimal (suc n); joined = refl; is = λ q. omega (arith, q) }))
looks_of word (between text e t h) = in_quotes text e t h

-- what is known of a bare text that is neither number nor key
pub record IsNoWord (text : List ℕ) : Type 0 where
  pub number : (n : ℕ) → IsNumber text n → ⊥
  pub below_zero : (n : ℕ) → suc n ≤ 2 ^ 63 → text ≡ 45 ∷ decimal (suc n) → ⊥
  pub key : is_key text ≡ true → ⊥

no_form : (text : List ℕ) (word : Word) → IsWord word → Form word → IsNoWord text → Starts (λ byte. byte ≢ 34) (word_text word) → word_text word ≡ text → ⊥
no_form text word w (named key e t k) lacks s same =
    let at : List ℕ → Type 0 = λ x. is_key x ≡ true in
    lacks.key (subst at (sym t ∙ same) k)
no_form text word w (counted n e t h) lacks s same = lacks.number n (h, sym same ∙ t)
no_form text (Signed (negsuc m)) w (below n e t h) lacks s same = lacks.below_zero m w.sfits (sym same)
no_form text (Signed (pos m)) w (below n e t h) lacks s same = cc
no_form text (Key key) w (below n e t h) lacks s same = cc
no_form text (Short m) w (below n e t h) lacks s same = cc
no_form text (Middle m) w (below n e t h) lacks s same = cc
no_form text (Long m) w (below n e t h) lacks s same = cc
no_form text (Quoted q) w (below n e t h) lacks s same = cc
no_form text word w (between q e t h) lacks s same =
    let whole : s.first ∷ s.rest ≡ quote_of q = sym s.joined ∙ t in
    let first : s.first ≡ 34 = cc in
    s.is first

-- no word stands before the first blank
pub no_bare : (bytes front rest : List ℕ) → IsParted bytes front rest → IsNoWord front → (get_or bytes 0 0 ≢ 34) → (word : Word) (behind : List ℕ) → IsWord word → bytes ≡ word_text word ++ 32 ∷ behind → ⊥
no_bare bytes front rest parted lacks other word behind w e =
    elim (looks_of word (form_of word w)) [
      | in_quotes text f t h ↦
          let first : get_or bytes 0 0 ≡ 34 = ap (λ b. get_or b 0 0) (e ∙ ap (λ s. s ++ 32 ∷ behind) t) in
          other first
      | bare free s ↦
          let same = fronts_same (word_text word) front (32 ∷ behind) (32 ∷ rest) free parted.free refl refl (sym e ∙ parted.joined) in
          no_form front word w (form_of word w) lacks s same.0
    ]

-- only a quoted word begins with a quote
pub only_quoted : (bytes tail : List ℕ) → bytes ≡ 34 ∷ tail → (word : Word) (behind : List ℕ) → IsWord word → bytes ≡ word_text word ++ 32 ∷ behind → (text : List ℕ) × (bytes ≡ quote_of text ++ 32 ∷ behind) × IsQuoted text bytes (32 ∷ behind)
only_quoted bytes tail q word behind w e =
    elim (looks_of word (form_of word w)) [
      | in_quotes text f t h ↦
          let written : bytes ≡ quote_of text ++ 32 ∷ behind = e ∙ ap (λ s. s ++ 32 ∷ behind) t in
          let at : List ℕ → Type 0 = λ b. IsQuoted text b (32 ∷ behind) in
          (text, written, subst at (sym written) (quote_back text (32 ∷ behind) h))
      | bare free s ↦
          let whole : 34 ∷ tail ≡ s.first ∷ (s.rest ++ 32 ∷ behind) = sym q ∙ (e ∙ ap (λ x. x ++ 32 ∷ behind) s.joined) in
          let first : s.first ≡ 34 = cc in
          absurd (s.is first)
    ]

pub begins_with : (bytes : List ℕ) → get_or bytes 0 0 ≡ 34 → bytes ≡ 34 ∷ drop 1 bytes
begins_with [] e = absurd (omega (arith, e))
begins_with (byte ∷ bytes) e = ap (λ b. b ∷ bytes) e

pub no_quoted : (bytes : List ℕ) → get_or bytes 0 0 ≡ 34 → ((values : List ℕ) (behind : ℕ) → IsQuotedAt bytes 0 values behind → ⊥) → (word : Word) (rest : List ℕ) → IsWord word → bytes ≡ word_text word ++ 32 ∷ rest → ⊥
no_quoted bytes first none word rest w e =
    let found = only_quoted bytes (drop 1 bytes) (begins_with bytes first) word rest w e in
    let end : 32 ∷ rest ≡ drop (length bytes - length (32 ∷ rest)) bytes = place_of bytes (32 ∷ rest) (word_text word, e) in
    let at : List ℕ → Type 0 = λ r. IsQuoted found.0 bytes r in
    none found.0 (length bytes - length (32 ∷ rest)) (omega arith, omega arith, subst at end found.2)

pub no_behind : (bytes values : List ℕ) (place : ℕ) → get_or bytes 0 0 ≡ 34 → IsQuotedAt bytes 0 values place → ((rest : List ℕ) → bytes ≡ quote_of values ++ 32 ∷ rest → ⊥) → (word : Word) (rest : List ℕ) → IsWord word → bytes ≡ word_text word ++ 32 ∷ rest → ⊥
no_behind bytes values place first q none word rest w e =
    let found = only_quoted bytes (drop 1 bytes) (begins_with bytes first) word rest w e in
    let same = quoted_same found.0 values bytes (32 ∷ rest) (drop place bytes) found.2 q.2 in
    let at : List ℕ → Type 0 = λ v. bytes ≡ quote_of v ++ 32 ∷ rest in
    none rest (subst at same.0 found.1)

left_same : (v x y : List ℕ) → v ++ x ≡ v ++ y → x ≡ y
left_same [] x y e = e
left_same (b ∷ v) x y e = left_same v x y (ap (drop 1) e)

pub behind_two : (bytes front rest : List ℕ) (r : Option (Bor (List ℕ))) → bytes ≡ front ++ rest → MatchOption r ((x : List ℕ) → rest ≡ 32 ∷ x → ⊥) (λ x. rest ≡ 32 ∷ x.now) → MatchOption r ((x : List ℕ) → bytes ≡ front ++ 32 ∷ x → ⊥) (λ x. bytes ≡ front ++ 32 ∷ x.now)
behind_two bytes front rest None e h = λ x q. h x (left_same front rest (32 ∷ x) (sym e ∙ q))
behind_two bytes front rest (Some x) e h = e ∙ ap (λ r. front ++ r) h

pub below_text : (text digits : List ℕ) (number : ℕ) (r : Option ℤ) → text ≡ 45 ∷ digits → IsNumber digits number → MatchOption r ((n : ℕ) → number ≡ suc n → suc n ≤ 2 ^ 63 → ⊥) (λ z. (n : ℕ) × (number ≡ suc n) × (z ≡ negsuc n)) → MatchOption r ((n : ℕ) → suc n ≤ 2 ^ 63 → text ≡ 45 ∷ decimal (suc n) → ⊥) (λ z. (n : ℕ) × (z ≡ negsuc n) × (text ≡ 45 ∷ decimal (suc n)))
below_text text digits number None e d h =
    λ n less q.
    let tails : decimal number ≡ decimal (suc n) = sym d.1 ∙ ap (drop 1) (sym e ∙ q) in
    let bound : suc n < 2 ^ 64 = omega (arith, less) in
    h n (decimal_injective number (suc n) d.0 bound tails) less
below_text text digits number (Some z) e d h = (h.0, h.2, e ∙ (ap (λ t. 45 ∷ t) d.1 ∙ ap (λ k. 45 ∷ decimal k) h.1))
