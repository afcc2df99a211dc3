-- What a clock told in a stretch of time.
use Rattle.std.specs.Prelude.{ℕ, List, Option, Some, None}
use Rattle.wire.specs.Tapes.{Tape, Tells, GoesOn}

-- the tape went on
abbrev pub Went : Option Tape → Option Tape → Type 0
Went before after = (values : List ℕ) × GoesOn before after values

-- this value was told in between
pub record ToldIn (before after : Option Tape) (value : ℕ) : Type 0 where
  pub first : Option Tape
  pub last : Option Tape
  pub earlier : Went before first
  pub told : Tells first last value
  pub later : Went last after

-- a word was drawn, and was told in between
abbrev pub WasDrawn : Option Tape → Option Tape → Option ℕ → Type 0
WasDrawn before after None = ⊥
WasDrawn before after (Some word) = ToldIn before after word
