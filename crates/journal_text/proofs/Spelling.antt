-- How the words of a line are spelled, so that a line has one list of words.
use Rattle.std.proofs.Common.{◌≡◌, ◌≢◌, ℕ, ℤ, pos, negsuc, zero, suc, ◌+◌, ◌<◌, ◌≤◌, ◌^◌, Bool, true, false, List, [], ◌∷◌, ◌++◌, length, get_or, drop, map, sym, ap, ◌∙◌, subst, refl, arith, ltb}
use Rattle.std.specs.Prelude.{nat_lt, FitsSigned, ◌||◌, ◌&&◌}
use Rattle.std.specs.List.{AllByRecursion, flat_map, list_all}
use Rattle.std.specs.Fmt.{decimal}
use Rattle.std.specs.Char.{digit_value}
use Rattle.std.specs.Str.Parse.{AllDigits}
use Rattle.std.proofs.lemmas.Bool.{false≢true}
use Rattle.std.proofs.lemmas.Bool.Decides.{nat_tests}
use Rattle.std.proofs.lemmas.Str.Parse.{digit_from_value}
use Rattle.std.proofs.lemmas.Fmt.{decimal_injective}
use Rattle.units.specs.Numbers.{IsNumber}
use Rattle.units.specs.Quoted.{IsQuoted, piece_of, quote_of}
use Rattle.units.proofs.Numerals.{spelled}
use Rattle.units.proofs.Pieces.{quoted_same, quote_back}
use Rattle.journal_text.specs.declared.word.Word.{Word}
use Rattle.journal_text.specs.declared.word.Word.TheVariants.{Key, Short, Middle, Long, Signed, Quoted}
use Rattle.journal_text.specs.Words.{word_text, behind, line_text, is_key, is_key_byte, loose, IsWord, AreWords}

-- what is known of each byte of a key, and of each digit
pub record IsKeyByte (byte : ℕ) : Type 0 where
  pub prints : 34 < byte
  pub other : 48 ≤ byte → 57 < byte

pub record IsDigit (byte : ℕ) : Type 0 where
  pub low : 48 ≤ byte
  pub high : byte ≤ 57

both : (a b : Bool) → (a && b) ≡ true → (a ≡ true) × (b ≡ true)
both true b e = (refl, e)
both false b e = absurd (false≢true e)

key_byte : (byte : ℕ) → is_key_byte byte ≡ true → IsKeyByte byte
key_byte byte e =
    let parts = both (nat_lt 34 byte) (nat_lt byte 48 || nat_lt 57 byte) e in
    let first = parts.0 in
    let second = parts.1 in
    record { prints = grind (arith, nat_tests); other = λ low. grind (arith, nat_tests) }

pub key_bytes : (text : List ℕ) → list_all is_key_byte text ≡ true → AllByRecursion IsKeyByte text
key_bytes [] e = tt
key_bytes (byte ∷ text) e =
    let parts = both (is_key_byte byte) (list_all is_key_byte text) e in
    (key_byte byte parts.0, key_bytes text parts.1)

pub digits : (text : List ℕ) → AllDigits 10 text → AllByRecursion IsDigit text
digits [] d = tt
digits (byte ∷ text) d =
    let k = digit_from_value byte d.0 in
    (record { low = k.0; high = k.1 }, digits text d.1)

-- a text that has a first byte and no blank
pub record Starts (P : ℕ → Type 0) (text : List ℕ) : Type 0 where
  pub first : ℕ
  pub rest : List ℕ
  pub joined : text ≡ first ∷ rest
  pub is : P first

abbrev pub HasNoBlank : List ℕ → Type 0
HasNoBlank text = AllByRecursion (λ byte. byte ≢ 32) text

pub key_no_blank : (text : List ℕ) → AllByRecursion IsKeyByte text → HasNoBlank text
key_no_blank [] k = tt
key_no_blank (byte ∷ text) k = let p = k.0.prints in (λ e. omega arith, key_no_blank text k.1)

pub digits_no_blank : (text : List ℕ) → AllByRecursion IsDigit text → HasNoBlank text
digits_no_blank [] d = tt
digits_no_blank (byte ∷ text) d = let p = d.0.low in (λ e. omega arith, digits_no_blank text d.1)

-- a word ends here
abbrev pub IsEnd : List ℕ → Type 0
IsEnd [] = Unit {0}
IsEnd (byte ∷ bytes) = byte ≡ 32

-- what stands before a blank or the end is one text
pub fronts_same : (v w x y : List ℕ) → HasNoBlank v → HasNoBlank w → IsEnd x → IsEnd y → v ++ x ≡ w ++ y → (v ≡ w) × (x ≡ y)
fronts_same [] [] x y h k p q e = (refl, e)
fronts_same [] (d ∷ w) [] y h k p q e = cc
fronts_same [] (d ∷ w) (b ∷ x) y h k p q e = let t : b ≡ d = cc in absurd (k.0 (sym t ∙ p))
fronts_same (c ∷ v) [] x [] h k p q e = cc
fronts_same (c ∷ v) [] x (b ∷ y) h k p q e = let t : c ≡ b = cc in absurd (h.0 (t ∙ q))
fronts_same (c ∷ v) (d ∷ w) x y h k p q e =
    let heads : c ≡ d = cc in
    let tails : v ++ x ≡ w ++ y = cc in
    let r = fronts_same v w x y h.1 k.1 p q tails in
    let r0 = r.0 in
    (cc, r.1)

-- how a number is spelled
pub number_digits : (n : ℕ) → n < 2 ^ 64 → AllByRecursion IsDigit (decimal n)
number_digits n h = digits (decimal n) (spelled (decimal n) n (h, refl)).digits

first_of : (text : List ℕ) → 0 < length text → AllByRecursion IsDigit text → Starts IsDigit text
first_of [] some d = absurd (omega arith)
first_of (byte ∷ text) some d = record { first = byte; rest = text; joined = refl; is = d.0 }

pub number_starts : (n : ℕ) → n < 2 ^ 64 → Starts IsDigit (decimal n)
number_starts n h = first_of (decimal n) (spelled (decimal n) n (h, refl)).some (number_digits n h)

-- no number is a key
pub no_key : (text : List ℕ) → Starts IsDigit text → list_all is_key_byte text ≡ true → ⊥
no_key text s e =
    let at : List ℕ → Type 0 = λ t. list_all is_key_byte t ≡ true in
    let k = (key_bytes (s.first ∷ s.rest) (subst at s.joined e)).0 in
    let low = s.is.low in
    let high = s.is.high in
    let other = k.other low in
    omega arith

pub key_all : (text : List ℕ) → is_key text ≡ true → AllByRecursion IsKeyByte text
key_all [] e = absurd (false≢true e)
key_all (byte ∷ text) e = key_bytes (byte ∷ text) e

-- how a word is spelled, and what it looks like
pub data Form (word : Word) : Type 0 where
  named : (text : List ℕ) → loose word ≡ Key text → word_text word ≡ text → is_key text ≡ true → Form word
  counted : (n : ℕ) → loose word ≡ Long n → word_text word ≡ decimal n → n < 2 ^ 64 → Form word
  below : (n : ℕ) → loose word ≡ Signed (negsuc n) → word_text word ≡ 45 ∷ decimal (suc n) → suc n < 2 ^ 64 → Form word
  between : (text : List ℕ) → loose word ≡ Quoted text → word_text word ≡ quote_of text → ((i : ℕ) → get_or text i 0 < 256) → Form word

pub form_of : (word : Word) → IsWord word → Form word
form_of (Key text) w = named text refl refl w
form_of (Short n) w = counted n refl refl (omega (arith, w))
form_of (Middle n) w = counted n refl refl (omega (arith, w))
form_of (Long n) w = counted n refl refl w
form_of (Signed (pos n)) w = let k = w.sfits in counted n refl refl (omega arith)
form_of (Signed (negsuc n)) w = let k = w.sfits in below n refl refl (omega arith)
form_of (Quoted text) w = between text refl refl w

-- a text of a word that isn't quoted
pub record IsBare (text : List ℕ) : Type 0 where
  pub joint : HasNoBlank text
  pub starts : Starts (λ byte. byte ≢ 34) text

bare_key : (text : List ℕ) → is_key text ≡ true → IsBare text
bare_key [] e = absurd (false≢true e)
bare_key (byte ∷ text) e =
    let all = key_bytes (byte ∷ text) e in
    let first = all.0.prints in
    record { joint = key_no_blank (byte ∷ text) all; starts = record { first = byte; rest = text; joined = refl; is = λ h. omega arith } }

bare_number : (n : ℕ) → n < 2 ^ 64 → IsBare (decimal n)
bare_number n h =
    let s = number_starts n h in
    let low = s.is.low in
    record { joint = digits_no_blank (decimal n) (number_digits n h); starts = record { first = s.first; rest = s.rest; joined = s.joined; is = λ h. omega arith } }

bare_below : (n : ℕ) → n < 2 ^ 64 → IsBare (45 ∷ decimal n)
bare_below n h =
    record { joint = (λ e. omega arith, digits_no_blank (decimal n) (number_digits n h)); starts = record { first = 45; rest = decimal n; joined = refl; is = λ h. omega arith } }

-- what stands at the front of one text and of another
bare_same : (a b t u x y : List ℕ) → t ≡ a → u ≡ b → IsBare a → IsBare b → IsEnd x → IsEnd y → t ++ x ≡ u ++ y → (a ≡ b) × (x ≡ y)
bare_same a b t u x y p q h k m n e =
    fronts_same a b x y h.joint k.joint m n (sym (ap (λ s. s ++ x) p) ∙ (e ∙ ap (λ s. s ++ y) q))

quoted_apart : (text a t u x y : List ℕ) → t ≡ quote_of text → u ≡ a → IsBare a → t ++ x ≡ u ++ y → ⊥
quoted_apart text a t u x y p q h e =
    let s = h.starts in
    let whole : 34 ∷ ((flat_map piece_of text ++ 34 ∷ []) ++ x) ≡ s.first ∷ (s.rest ++ y) =
    sym (ap (λ s. s ++ x) p) ∙ (e ∙ (ap (λ s. s ++ y) q ∙ ap (λ r. r ++ y) s.joined)) in
    let first : 34 ≡ s.first = cc in
    s.is (sym first)

key_no_number : (text : List ℕ) (n : ℕ) → is_key text ≡ true → n < 2 ^ 64 → text ≡ decimal n → ⊥
key_no_number text n k h e =
    let at : List ℕ → Type 0 = λ t. AllByRecursion IsKeyByte t in
    let s = number_starts n h in
    let all = subst at (e ∙ s.joined) (key_all text k) in
    let low = s.is.low in
    let high = s.is.high in
    let other = all.0.other low in
    omega arith

key_no_below : (text : List ℕ) (n : ℕ) → is_key text ≡ true → n < 2 ^ 64 → text ≡ 45 ∷ decimal n → ⊥
key_no_below text n k h e =
    let at : List ℕ → Type 0 = λ t. AllByRecursion IsKeyByte t in
    let s = number_starts n h in
    let all = subst at (e ∙ ap (λ t. 45 ∷ t) s.joined) (key_all text k) in
    let low = s.is.low in
    let high = s.is.high in
    let other = all.1.0.other low in
    omega arith

number_no_below : (m n : ℕ) → m < 2 ^ 64 → decimal m ≡ 45 ∷ decimal n → ⊥
number_no_below m n h e =
    let s = number_starts m h in
    let low = s.is.low in
    let whole : s.first ∷ s.rest ≡ 45 ∷ decimal n = sym s.joined ∙ e in
    let first : s.first ≡ 45 = cc in
    omega arith

-- a word that ends at a blank or at the end is one word, as it looks
pub same_by_form : (v w : Word) (x y : List ℕ) → Form v → Form w → IsEnd x → IsEnd y → word_text v ++ x ≡ word_text w ++ y → (loose v ≡ loose w) × (x ≡ y)
same_by_form v w x y (named a p t k) (named b q u l) m n e =
    let r = bare_same a b _ _ x y t u (bare_key a k) (bare_key b l) m n e in
    (p ∙ (ap Key r.0 ∙ sym q), r.1)
same_by_form v w x y (named a p t k) (counted b q u l) m n e =
    absurd (key_no_number a b k l (bare_same a (decimal b) _ _ x y t u (bare_key a k) (bare_number b l) m n e).0)
same_by_form v w x y (named a p t k) (below b q u l) m n e =
    absurd (key_no_below a (suc b) k l (bare_same a (45 ∷ decimal (suc b)) _ _ x y t u (bare_key a k) (bare_below (suc b) l) m n e).0)
same_by_form v w x y (named a p t k) (between b q u l) m n e = absurd (quoted_apart b a _ _ y x u t (bare_key a k) (sym e))
same_by_form v w x y (counted a p t k) (named b q u l) m n e =
    absurd (key_no_number b a l k (sym (bare_same (decimal a) b _ _ x y t u (bare_number a k) (bare_key b l) m n e).0))
same_by_form v w x y (counted a p t k) (counted b q u l) m n e =
    let r = bare_same (decimal a) (decimal b) _ _ x y t u (bare_number a k) (bare_number b l) m n e in
    (p ∙ (ap Long (decimal_injective a b k l r.0) ∙ sym q), r.1)
same_by_form v w x y (counted a p t k) (below b q u l) m n e =
    absurd (number_no_below a (suc b) k (bare_same (decimal a) (45 ∷ decimal (suc b)) _ _ x y t u (bare_number a k) (bare_below (suc b) l) m n e).0)
same_by_form v w x y (counted a p t k) (between b q u l) m n e = absurd (quoted_apart b (decimal a) _ _ y x u t (bare_number a k) (sym e))
same_by_form v w x y (below a p t k) (named b q u l) m n e =
    absurd (key_no_below b (suc a) l k (sym (bare_same (45 ∷ decimal (suc a)) b _ _ x y t u (bare_below (suc a) k) (bare_key b l) m n e).0))
same_by_form v w x y (below a p t k) (counted b q u l) m n e =
    absurd (number_no_below b (suc a) l (sym (bare_same (45 ∷ decimal (suc a)) (decimal b) _ _ x y t u (bare_below (suc a) k) (bare_number b l) m n e).0))
same_by_form v w x y (below a p t k) (below b q u l) m n e =
    let r = bare_same (45 ∷ decimal (suc a)) (45 ∷ decimal (suc b)) _ _ x y t u (bare_below (suc a) k) (bare_below (suc b) l) m n e in
    let tails : decimal (suc a) ≡ decimal (suc b) = ap (drop 1) r.0 in
    let numbers : suc a ≡ suc b = decimal_injective (suc a) (suc b) k l tails in
    let number : a ≡ b = omega arith in
    (p ∙ (ap (λ i. Signed (negsuc i)) number ∙ sym q), r.1)
same_by_form v w x y (below a p t k) (between b q u l) m n e = absurd (quoted_apart b (45 ∷ decimal (suc a)) _ _ y x u t (bare_below (suc a) k) (sym e))
same_by_form v w x y (between a p t k) (named b q u l) m n e = absurd (quoted_apart a b _ _ x y t u (bare_key b l) e)
same_by_form v w x y (between a p t k) (counted b q u l) m n e = absurd (quoted_apart a (decimal b) _ _ x y t u (bare_number b l) e)
same_by_form v w x y (between a p t k) (below b q u l) m n e = absurd (quoted_apart a (45 ∷ decimal (suc b)) _ _ x y t u (bare_below (suc b) l) e)
same_by_form v w x y (between a p t k) (between b q u l) m n e =
    let whole : quote_of b ++ y ≡ quote_of a ++ x = sym (ap (λ s. s ++ y) u) ∙ (sym e ∙ ap (λ s. s ++ x) t) in
    let at : List ℕ → Type 0 = λ s. IsQuoted b s y in
    let r = quoted_same a b (quote_of a ++ x) x y (quote_back a x k) (subst at whole (quote_back b y l)) in
    (p ∙ (ap Quoted r.0 ∙ sym q), r.1)

pub word_same : (v w : Word) (x y : List ℕ) → IsWord v → IsWord w → IsEnd x → IsEnd y → word_text v ++ x ≡ word_text w ++ y → (loose v ≡ loose w) × (x ≡ y)
word_same v w x y h k m n e = same_by_form v w x y (form_of v h) (form_of w k) m n e

pub end_of : (words : List Word) → IsEnd (behind words)
end_of [] = tt
end_of (word ∷ words) = refl

behind_same : (a b : List Word) → AreWords a → AreWords b → behind a ≡ behind b → map loose a ≡ map loose b
behind_same [] [] h k e = refl
behind_same [] (w ∷ b) h k e = cc
behind_same (v ∷ a) [] h k e = cc
behind_same (v ∷ a) (w ∷ b) h k e =
    let tails : word_text v ++ behind a ≡ word_text w ++ behind b = ap (drop 1) e in
    let r = word_same v w (behind a) (behind b) h.0 k.0 (end_of a) (end_of b) tails in
    let more = behind_same a b h.1 k.1 r.1 in
    let first = r.0 in
    cc

-- a line has one list of words, as they look
pub words_same : (v w : Word) (a b : List Word) → AreWords (v ∷ a) → AreWords (w ∷ b) → line_text (v ∷ a) ≡ line_text (w ∷ b) → map loose (v ∷ a) ≡ map loose (w ∷ b)
words_same v w a b h k e =
    let r = word_same v w (behind a) (behind b) h.0 k.0 (end_of a) (end_of b) e in
    let more = behind_same a b h.1 k.1 r.1 in
    let first = r.0 in
    cc
