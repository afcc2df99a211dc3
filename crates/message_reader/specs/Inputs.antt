-- The input of a call: the bytes that were held before it, and those that the link gave in it.
use Rattle.std.specs.Prelude.{◌≡◌, ℕ, List, [], ◌++◌, Result, Ok, Err, Option}
use Rattle.wire.specs.Flow.{Flow, Moves, IsOver}
use Rattle.message_reader.specs.declared.stop.Stop.{Stop}
use Rattle.message_reader.specs.declared.stop.Stop.TheVariants.{Read, Early, BadHead, BadBody, TooLarge, NoMemory}

-- the link gave bytes, took none, and this is said of the input
abbrev pub Hears : Option Flow → Option Flow → List ℕ → (List ℕ → Type 0) → Type 0
Hears before after held says = (read : List ℕ) × Moves before after read [] × says (held ++ read)

-- one read: so many bytes more are held, and none only at the end; a failed read gave none
abbrev pub Fills : Option Flow → List ℕ → List ℕ → Result ℕ Stop → List ℕ → Type 0
Fills after before now (Ok count) input = (now ≡ input) × (count ≡ 0 → (now ≡ before) × IsOver after)
Fills after before now (Err Read) input = Unit {0}
Fills after before now (Err NoMemory) input = Unit {0}
Fills after before now (Err Early) input = ⊥
Fills after before now (Err BadHead) input = ⊥
Fills after before now (Err BadBody) input = ⊥
Fills after before now (Err TooLarge) input = ⊥
