-- What the errors of a split say.
use Rattle.std.specs.Prelude.{ℕ, List}
use Rattle.cli_words.specs.declared.line.WordsError.{WordsError}
use Rattle.cli_words.specs.declared.line.WordsError.TheVariants.{Syntax, NoMemory}
use Rattle.cli_words.specs.Words.{HasWords}

-- a refusal says that the line has no words, and want of memory that it has some
abbrev pub IsErrorOf : List ℕ → WordsError → Type 0
IsErrorOf line Syntax = (words : List (List ℕ)) → HasWords line words → ⊥
IsErrorOf line NoMemory = (words : List (List ℕ)) × HasWords line words
