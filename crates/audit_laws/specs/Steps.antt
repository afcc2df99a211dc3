-- A journal step by step: each line with the whole of what its reply holds, and where the journal stands behind it.
use Rattle.std.specs.Prelude.{⊤, ℕ, ◌+◌, false, List, [], ◌∷◌, map}
use Rattle.cache_law.specs.declared.call.Entry.{Entry}
use Rattle.cache_law.specs.declared.setting.Params.{Params}
use Rattle.cache_law.specs.Bases.{IsClosed}
use Rattle.cache_law.specs.Beginning.{base_of}
use Rattle.cache_law.specs.History.{Fits, Follows, bytes_of, next_state}
use Rattle.cache_law.specs.State.{State}
use Rattle.journal_text.specs.declared.line.First.{First}
use Rattle.journal_text.specs.declared.line.Line.{Line}
use Rattle.journal_text.specs.declared.line.Line.TheVariants as line
use Rattle.journal_text.specs.Grammar.{said_of}
use Rattle.journal_text.specs.Journals.{lines_text}
use Rattle.journal_reader.specs.Histories.{AreLines}

-- what a line says, an entry with its whole reply
pub data Step : Type 0 where
  Starts : First → Step
  Enters : Entry → Step
  Cuts : Step
  Closes : Step

-- the line that is written of it
abbrev pub line_for : Step → Line
line_for (Starts first) = line.First first
line_for (Enters entry) = line.Entry (said_of entry)
line_for Cuts = line.Cut
line_for Closes = line.Close

-- the limits that a first line says
abbrev pub params_of : First → Params
params_of first = record { room = first.room; history = first.history; segments = false }

-- Where a journal stands: before its first line; within, in the state that its entries reached, so many bytes of which are in
-- this segment; or behind its end.
pub data Place : Type 0 where
  Before : Place
  Within : Params → State → ℕ → Place
  Closed : Place

-- the step may come next: an entry follows and fits, and a segment is cut off where nothing is open
abbrev pub MayStep : Place → Step → Type 0
MayStep Before (Starts first) = ⊤
MayStep (Within params state used) (Enters entry) = Follows params state entry × Fits params state used entry
MayStep (Within params state used) Cuts = IsClosed state
MayStep (Within params state used) Closes = ⊤
MayStep place step = ⊥

abbrev pub place_after : Place → Step → Place
place_after Before (Starts first) = Within (params_of first) (base_of first.boot) 0
place_after (Within params state used) (Enters entry) = Within params (next_state params state entry) (used + bytes_of entry.call)
place_after (Within params state used) Cuts = Within params state 0
place_after (Within params state used) Closes = Closed
place_after place step = place

-- each step may come behind those before it
abbrev pub MaySteps : Place → List Step → Type 0
MaySteps place [] = ⊤
MaySteps place (step ∷ steps) = MayStep place step × MaySteps (place_after place step) steps

-- where they lead
abbrev pub placed : Place → List Step → Place
placed place [] = place
placed place (step ∷ steps) = placed (place_after place step) steps

abbrev pub lines_for : List Step → List Line
lines_for steps = map line_for steps

-- each number has the range of its type, and each ban is the one that its words say
abbrev pub AreWritable : List Step → Type 0
AreWritable steps = AreLines (lines_for steps)

abbrev pub text_for : List Step → List ℕ
text_for steps = lines_text (lines_for steps)
