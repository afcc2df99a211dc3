-- What a clock tells, value by value.
use Rattle.std.specs.Prelude.{◌≡◌, ◌⊎◌, ℕ, List, [], ◌∷◌, ◌++◌, Option, Some, None}

-- the values that were told, and those that are left
pub record Tape : Type 0 where
  pub told : List ℕ
  pub left : List ℕ

-- a clock in memory: its readings and its words
pub record ClockState : Type 0 where
  pub readings : Tape
  pub words : Tape

-- the first value that is left is told
pub record IsNext (before after : Tape) (value : ℕ) : Type 0 where
  pub told : after.told ≡ before.told ++ value ∷ []
  pub left : before.left ≡ value ∷ after.left

-- none is left, and the last one is told again
pub record IsLast (before after : Tape) (value : ℕ) : Type 0 where
  pub over : before.left ≡ []
  pub front : List ℕ
  pub last : before.told ≡ front ++ value ∷ []
  pub same : after ≡ before

-- a value is told; a tape that isn't told doesn't begin to be
abbrev pub Tells : Option Tape → Option Tape → ℕ → Type 0
Tells None None value = Unit {0}
Tells None (Some after) value = ⊥
Tells (Some before) None value = ⊥
Tells (Some before) (Some after) value = IsNext before after value ⊎ IsLast before after value

-- the tape went on by these values
abbrev pub GoesOn : Option Tape → Option Tape → List ℕ → Type 0
GoesOn None None values = Unit {0}
GoesOn None (Some after) values = ⊥
GoesOn (Some before) None values = ⊥
GoesOn (Some before) (Some after) values = (after.told ≡ before.told ++ values) × (before.left ≡ values ++ after.left)

-- this value was told, where values are
abbrev pub WasTold : Option Tape → ℕ → Type 0
WasTold None value = Unit {0}
WasTold (Some tape) value = (front : List ℕ) × (back : List ℕ) × (tape.told ≡ front ++ value ∷ back)
