-- The words of a line: separated by spaces and tabs, quoted or plain, with the escapes of quoted texts in both.
use Rattle.std.specs.Prelude.{ℕ, ◌≡◌, ◌≢◌, ◌<◌, ◌≤◌, ◌⊎◌, ◌==◌, ◌||◌, List, [], ◌∷◌, ◌++◌, length, slice_index, Bool, true, Option, Some, None, if◌then◌else◌}
use Rattle.std.specs.List.{list_any}
use Rattle.units.specs.Quoted.{IsQuoted, escape, quote_of}

-- space and tab
abbrev pub is_blank : ℕ → Bool
is_blank byte = (byte == 32) || (byte == 9)

-- a text from its first byte on that is no blank
abbrev pub after_blanks : List ℕ → List ℕ
after_blanks [] = []
after_blanks (byte ∷ bytes) = if is_blank byte then after_blanks bytes else byte ∷ bytes

-- The byte that the first piece of a plain word stands for, and what is behind the piece: an escape, or a byte
-- other than a blank and `\`, which stands for itself. A plain word may hold `"`, but not at its beginning.
abbrev pub plain_piece : List ℕ → Option (ℕ × List ℕ)
plain_piece [] = None
plain_piece (first ∷ rest) = if first == 92 then escape rest else (if is_blank first then None else Some (first, rest))

-- the bytes are pieces that stand for these values, and then the rest
abbrev pub ReadsPlain : List ℕ → List ℕ → List ℕ → Type 0
ReadsPlain [] bytes rest = bytes ≡ rest
ReadsPlain (value ∷ values) bytes rest = (behind : List ℕ) × (plain_piece bytes ≡ Some (value, behind)) × ReadsPlain values behind rest

-- a plain word ends here: at a blank, or at the end of the line
abbrev pub IsWordEnd : List ℕ → Type 0
IsWordEnd [] = Unit {0}
IsWordEnd (byte ∷ bytes) = is_blank byte ≡ true

-- The bytes begin with this word, and the rest is behind it. A quoted word ends at its quote.
abbrev pub ReadsWord : List ℕ → List ℕ → List ℕ → Type 0
ReadsWord word [] rest = ⊥
ReadsWord word (first ∷ bytes) rest =
    IsQuoted word (first ∷ bytes) rest
    ⊎ ((first ≢ 34) × (0 < length word) × ReadsPlain word (first ∷ bytes) rest × IsWordEnd rest)

-- the bytes are these words, with blanks where there may be some
abbrev pub ReadsWords : List (List ℕ) → List ℕ → Type 0
ReadsWords [] bytes = after_blanks bytes ≡ []
ReadsWords (word ∷ words) bytes = (rest : List ℕ) × ReadsWord word (after_blanks bytes) rest × ReadsWords words rest

-- the line has these words; it is within the limit
abbrev pub HasWords : List ℕ → List (List ℕ) → Type 0
HasWords line words = (length line ≤ 1048576) × ReadsWords words line

-- a byte that no plain word shows when it is written: a blank, CR, LF, `"` or `\`
abbrev pub is_special : ℕ → Bool
is_special byte = (byte == 32) || (byte == 9) || (byte == 13) || (byte == 10) || (byte == 34) || (byte == 92)

-- how a word is written: quoted where it has such a byte or none
abbrev pub word_text : List ℕ → List ℕ
word_text word = if (length word == 0) || list_any is_special word then quote_of word else word

-- how words are written: with one space between two
abbrev pub words_text : List (List ℕ) → List ℕ
words_text [] = []
words_text (word ∷ []) = word_text word
words_text (word ∷ next ∷ words) = word_text word ++ 32 ∷ words_text (next ∷ words)

-- a list of bytes
abbrev pub IsBytes : List ℕ → Type 0
IsBytes text = (i : ℕ) → slice_index text i < 256
