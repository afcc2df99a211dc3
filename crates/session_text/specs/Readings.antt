-- What one line of a session says.
use Rattle.std.specs.Prelude.{ℕ, ◌≡◌, ◌≢◌, ◌<◌, ◌≤◌, ◌^◌, ◌⊎◌, List, [], ◌∷◌, ◌++◌, length, codes}
use Rattle.std.specs.List.{AllByRecursion}
use Rattle.units.specs.Numbers.{IsNumber}
use Rattle.units.specs.Quoted.{IsQuoted}
use Rattle.session_text.specs.declared.session.FaultKind.{FaultKind}
use Rattle.session_text.specs.declared.session.FaultKind.TheVariants.{Word, Unknown, Argument}
use Rattle.session_text.specs.declared.session.Line.{Line}
use Rattle.session_text.specs.declared.session.Line.TheVariants.{At, Req, Reply, Fail, Cli, Lurk, Probe}
use Rattle.session_text.specs.declared.reading.Keyword.{Keyword}
use Rattle.session_text.specs.declared.reading.Keyword.TheVariants as keywords
use Rattle.session_text.specs.Keywords.{health_text, keyword_text}

-- the text has no blank
abbrev pub IsWord : List ℕ → Type 0
IsWord text = AllByRecursion (λ byte. byte ≢ 32) text

-- the text's first word
abbrev pub HasWord : List ℕ → List ℕ → Type 0
HasWord text word = IsWord word × ((text ≡ word) ⊎ ((argument : List ℕ) × (text ≡ word ++ 32 ∷ argument)))

-- the word that a line begins with
abbrev pub keyword_for : Line → Keyword
keyword_for (At moment) = keywords.At
keyword_for (Req client text) = keywords.Req
keyword_for (Reply fetch text) = keywords.Reply
keyword_for (Fail fetch) = keywords.Fail
keyword_for (Cli text) = keywords.Cli
keyword_for (Lurk count) = keywords.Lurk
keyword_for (Probe backend good) = keywords.Probe

abbrev pub word_for : Line → List ℕ
word_for line = keyword_text (keyword_for line)

-- the greatest moment: the last millisecond of the year 9999
abbrev pub moment_limit : ℕ
moment_limit = 253402300799999

-- what stands behind the word and its blank
abbrev pub IsArgument : Line → List ℕ → Type 0
IsArgument (At moment) argument = IsNumber argument moment × (moment ≤ moment_limit)
IsArgument (Req client text) argument =
    (number quoted : List ℕ) × (argument ≡ number ++ 32 ∷ quoted) × IsNumber number client × (0 < client) × (client ≤ 250) × IsQuoted text quoted [] × (0 < length text)
IsArgument (Reply fetch text) argument =
    (number quoted : List ℕ) × (argument ≡ number ++ 32 ∷ quoted) × IsNumber number fetch × IsQuoted text quoted []
IsArgument (Fail fetch) argument = IsNumber argument fetch
IsArgument (Cli text) argument = argument ≡ text
IsArgument (Lurk count) argument = IsNumber argument count × (count < 2 ^ 32)
IsArgument (Probe backend good) argument = IsWord backend × (backend ≢ []) × (argument ≡ backend ++ 32 ∷ health_text good)

-- the text is this line: its word, a blank, and what the word takes
abbrev pub IsLine : List ℕ → Line → Type 0
IsLine text line = (argument : List ℕ) × (text ≡ word_for line ++ 32 ∷ argument) × IsArgument line argument

-- the text is passed over: it is empty, or begins with `#`
abbrev pub IsPassed : List ℕ → Type 0
IsPassed [] = Unit {0}
IsPassed (first ∷ rest) = first ≡ 35

-- the words of the language
abbrev pub IsKnown : List ℕ → Type 0
IsKnown word = (word ≡ codes "end") ⊎ ((line : Line) × (word ≡ word_for line))

-- `req` or `reply`, a word, and something that should be a quoted text and is none
abbrev pub HasBadText : List ℕ → Type 0
HasBadText text =
    (word number quoted : List ℕ) × ((word ≡ codes "req") ⊎ (word ≡ codes "reply")) × (text ≡ word ++ 32 ∷ (number ++ 32 ∷ quoted)) × IsWord number × ((values : List ℕ) → IsQuoted values quoted [] → ⊥)

-- what the text of a line may be: passed over, `end`, a line, or at fault
pub data Reading : Type 0 where
  Passed : Reading
  End : Reading
  Says : Line → Reading
  Bad : FaultKind → Reading

-- What a text is read as: each text in one way. A text without a meaning has the least kind of fault: a text
-- that isn't quoted as it should be, else a first word that isn't known, else what the word takes.
abbrev pub IsReading : List ℕ → Reading → Type 0
IsReading text Passed = IsPassed text
IsReading text End = text ≡ codes "end"
IsReading text (Says line) = IsLine text line
IsReading text (Bad Word) = HasBadText text
IsReading text (Bad Unknown) = (IsPassed text → ⊥) × ((word : List ℕ) → HasWord text word → IsKnown word → ⊥)
IsReading text (Bad Argument) =
    ((word : List ℕ) × HasWord text word × IsKnown word) × (text ≢ codes "end") × ((line : Line) → IsLine text line → ⊥) × (HasBadText text → ⊥)
IsReading text (Bad kind) = ⊥
