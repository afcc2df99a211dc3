-- What a world keeps of what it is handed back.
use Rattle.std.specs.Prelude.{◌≡◌, ◌⊎◌, List, [], ◌∷◌, Option, Some, None}
use Rattle.wire.specs.Talks.{Adds}
use Rattle.wire.specs.Tapes.{Tape}

-- a told list has nothing yet
abbrev pub IsNothingYet : {X : Type 0} → Option (List X) → Type 0
IsNothingYet None = Unit {0}
IsNothingYet (Some items) = items ≡ []

-- a clock that is told has told nothing yet
abbrev pub IsUntold : Option Tape → Type 0
IsUntold None = Unit {0}
IsUntold (Some tape) = tape.told ≡ []

-- a told list grows by an item, or not at all where memory was wanting
abbrev pub MayAdd : {X : Type 0} → Option (List X) → Option (List X) → X → Type 0
MayAdd before after item = Adds before after (item ∷ []) ⊎ (after ≡ before)
