-- The words that stand at the front of a line.
use Rattle.std.specs.Prelude.{◌≡◌, ◌≢◌, ◌+◌, ◌==◌, ℕ, Bool, List, [], ◌∷◌, ◌++◌, length}
use Rattle.std.specs.List.{AllByRecursion}
use Rattle.units.specs.Signs.{blank}
use Rattle.journal_text.specs.declared.word.Word.{Word}
use Rattle.journal_text.specs.Words.{IsWord, loose, word_text}

-- a line as it is cut into words: each word has a blank behind it
abbrev pub padded : List ℕ → List ℕ
padded text = text ++ blank ∷ []

-- the word stands first, and this is behind its blank
pub record IsFirst (bytes : List ℕ) (word : Word) (rest : List ℕ) : Type 0 where
  pub within : IsWord word
  pub looks : loose word ≡ word
  pub written : bytes ≡ word_text word ++ blank ∷ rest

-- the words stand first, as many as there are
abbrev pub StandFirst : List ℕ → List Word → Type 0
StandFirst bytes [] = (word : Word) (rest : List ℕ) → IsWord word → bytes ≡ word_text word ++ blank ∷ rest → ⊥
StandFirst bytes (word ∷ words) = (rest : List ℕ) × IsFirst bytes word rest × StandFirst rest words

abbrev pub is_blank : ℕ → Bool
is_blank byte = byte == blank

-- a text up to its first blank, and what is behind that
pub record IsParted (bytes front rest : List ℕ) : Type 0 where
  pub joined : bytes ≡ front ++ blank ∷ rest
  pub free : AllByRecursion (λ byte. byte ≢ blank) front

-- the columns of words, and the one behind them
abbrev pub columns : ℕ → List Word → List ℕ
columns at [] = at ∷ []
columns at (word ∷ words) = at ∷ columns (at + (length (word_text word) + 1)) words

-- the words of a line with its last blank, and where they stand
pub record AreFront (bytes : List ℕ) (words : List Word) (places : List ℕ) : Type 0 where
  pub stand : StandFirst bytes words
  pub placed : places ≡ columns 1 words
