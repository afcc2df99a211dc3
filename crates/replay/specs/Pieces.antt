-- A text that is written in pieces: what the sink holds, and what is still to be written.
use Rattle.std.specs.Prelude.{◌≡◌, ℕ, ◌≤◌, Option, Result, Ok, Err, List, [], ◌++◌}
use Rattle.std.specs.Io.KnownBytes.{Appends}
use Rattle.wire.specs.Causes.{Rose}
use Rattle.replay.specs.declared.rounds.Break.{Break}
use Rattle.replay.specs.declared.rounds.Break.TheVariants.{WriteFault, HistoryFull, NoMemory}

-- what the sink holds, where that is told, and the bytes that are still to be written
pub record Pieces : Type 0 where
  pub held : Option (List ℕ)
  pub unwritten : List ℕ

abbrev pub pieces : Option (List ℕ) → List ℕ → Pieces
pieces held unwritten = record { held = held; unwritten = unwritten }

-- The text was taken behind what was still to be written: a front of both was written, and the rest is kept.
pub record Takes (old new : Pieces) (text : List ℕ) : Type 0 where
  pub written : List ℕ
  pub holds : Appends old.held new.held written
  pub whole : old.unwritten ++ text ≡ written ++ new.unwritten

-- the text was taken, and some bytes at its end never reach the sink
pub record LosesEnd (old : Pieces) (held : Option (List ℕ)) (text : List ℕ) : Type 0 where
  pub lost : List ℕ
  pub some : lost ≡ [] → ⊥
  pub takes : Takes old (pieces held lost) text

-- what the answer to a line says: it was taken; some of the end of all that was taken is lost; or it wasn't taken
abbrev pub Tells : Pieces → Pieces → List ℕ → Result (Unit {0}) Break → Type 0
Tells old new line (Ok u) = Takes old new line
Tells old new line (Err WriteFault) = LosesEnd old new.held line
Tells old new line (Err NoMemory) = Takes old new []
Tells old new line (Err HistoryFull) = ⊥

-- a front of the text, and not the whole
pub record IsFrontOf (front text : List ℕ) : Type 0 where
  pub lost : List ℕ
  pub some : lost ≡ [] → ⊥
  pub whole : text ≡ front ++ lost

-- a part of a session never lowers its sink's count of faults, which rose where the part failed by it
pub record UsesSink {K : Type 0} (faults : K → ℕ) (old new : K) (failed : Type 0) : Type 0 where
  pub later : faults old ≤ faults new
  pub cause : failed → Rose (faults old) (faults new)
