-- A text that is written in pieces, by what the sink holds and what is still to be written.
use Rattle.std.specs.Prelude.{◌≡◌, ℕ, List, ◌++◌, Option}
use Rattle.std.specs.Io.KnownBytes.{Appends}

-- The text was put behind what was still to be written: a front of both was written, and the rest is kept.
pub record Puts (held : Option (List ℕ)) (unwritten : List ℕ) (held' : Option (List ℕ)) (unwritten' : List ℕ) (text : List ℕ) : Type 0 where
  pub written : List ℕ
  pub holds : Appends held held' written
  pub whole : unwritten ++ text ≡ written ++ unwritten'

-- A front of what was still to be written and of the text was written.
pub record GainsFront (held : Option (List ℕ)) (unwritten : List ℕ) (held' : Option (List ℕ)) (text : List ℕ) : Type 0 where
  pub written : List ℕ
  pub lost : List ℕ
  pub holds : Appends held held' written
  pub whole : unwritten ++ text ≡ written ++ lost
