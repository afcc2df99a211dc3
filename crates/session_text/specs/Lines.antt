-- How a text is cut into lines.
use Rattle.std.specs.Prelude.{ℕ, ◌+◌, ◌==◌, List, [], ◌∷◌, length, Bool, true, false, if◌then◌else◌}

-- a line of a text: its bytes up to LF, and whether the LF is there
pub record TextLine : Type 0 where
  pub body : List ℕ
  pub ended : Bool

abbrev pub text_line : List ℕ → Bool → TextLine
text_line body ended = record { body = body; ended = ended }

-- puts a byte in front of the first line
abbrev pub onto : ℕ → List TextLine → List TextLine
onto byte [] = text_line (byte ∷ []) false ∷ []
onto byte (line ∷ lines) = text_line (byte ∷ line.body) line.ended ∷ lines

-- Each LF ends a line. What is behind the last LF is a line too, unless it is empty.
abbrev pub lines_of : List ℕ → List TextLine
lines_of [] = []
lines_of (byte ∷ bytes) = if byte == 10 then text_line [] true ∷ lines_of bytes else onto byte (lines_of bytes)

-- how many bytes of the text a line takes
abbrev pub size : TextLine → ℕ
size line = if line.ended then length line.body + 1 else length line.body

-- a text without the CR at its end
abbrev pub without_cr : List ℕ → List ℕ
without_cr [] = []
without_cr (byte ∷ []) = if byte == 13 then [] else byte ∷ []
without_cr (byte ∷ next ∷ bytes) = byte ∷ without_cr (next ∷ bytes)

-- what a line says: a CR before its LF is dropped
abbrev pub content : TextLine → List ℕ
content line = if line.ended then without_cr line.body else line.body
