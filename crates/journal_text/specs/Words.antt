-- The words of a journal's lines: keys, numbers and quoted texts, with one blank between two.
use Rattle.std.specs.Prelude.{◌≡◌, ◌<◌, ◌^◌, ◌&&◌, ◌||◌, nat_lt, ℕ, pos, negsuc, Bool, true, false, List, [], ◌∷◌, ◌++◌, slice_index, FitsSigned}
use Rattle.std.specs.List.{AllByRecursion, flat_map, list_all}
use Rattle.std.specs.Int.{w64}
use Rattle.std.specs.Fmt.{decimal, signed_decimal}
use Rattle.units.specs.Signs.{blank, quote_mark}
use Rattle.units.specs.Quoted.{quote_of}
use Rattle.journal_text.specs.declared.word.Word.{Word}
use Rattle.journal_text.specs.declared.word.Word.TheVariants.{Key, Short, Middle, Long, Signed, Quoted}

-- how a word is written: a number by its decimal digits, behind a `-` where it is below zero
abbrev pub word_text : Word → List ℕ
word_text (Key text) = text
word_text (Short n) = decimal n
word_text (Middle n) = decimal n
word_text (Long n) = decimal n
word_text (Signed z) = signed_decimal z
word_text (Quoted text) = quote_of text

-- words as they stand behind another one
abbrev pub behind_word : Word → List ℕ
behind_word word = blank ∷ word_text word

abbrev pub behind : List Word → List ℕ
behind words = flat_map behind_word words

-- the text of a line of these words, without its LF
abbrev pub line_text : List Word → List ℕ
line_text [] = []
line_text (word ∷ words) = word_text word ++ behind words

-- no digit, no quote, no blank, and nothing that doesn't print
abbrev pub is_key_byte : ℕ → Bool
is_key_byte byte = nat_lt quote_mark byte && (nat_lt byte 48 || nat_lt 57 byte)

-- a key has at least one byte
abbrev pub is_key : List ℕ → Bool
is_key [] = false
is_key (byte ∷ bytes) = is_key_byte byte && list_all is_key_byte bytes

-- a number has the range of its type, and a text is one of bytes
abbrev pub IsWord : Word → Type 0
IsWord (Key text) = is_key text ≡ true
IsWord (Short n) = n < 2 ^ 16
IsWord (Middle n) = n < 2 ^ 32
IsWord (Long n) = n < 2 ^ 64
IsWord (Signed z) = FitsSigned w64 z
IsWord (Quoted text) = (i : ℕ) → slice_index text i < 256

abbrev pub AreWords : List Word → Type 0
AreWords words = AllByRecursion IsWord words

-- a word as it looks: a number that isn't below zero is one of 64 bits
abbrev pub loose : Word → Word
loose (Key text) = Key text
loose (Short n) = Long n
loose (Middle n) = Long n
loose (Long n) = Long n
loose (Signed (pos n)) = Long n
loose (Signed (negsuc n)) = Signed (negsuc n)
loose (Quoted text) = Quoted text
