-- What a clock told, over stretches of time that follow one another.
use Rattle.std.proofs.Common.{◌≡◌, ℕ, [], ◌++◌, Option, Some, None, sym, subst}
use Rattle.wire.specs.Tapes.{Tape, Tells}
use Rattle.wire.proofs.Taping.{GoesOn-none, GoesOn-trans, Tells-goes_on}
use Rattle.round_lead.specs.Tapes.{Went, ToldIn, WasDrawn}

pub Went-none : (tape : Option Tape) → Went tape tape
Went-none tape = ([], GoesOn-none tape)

pub Went-same : (before after : Option Tape) → after ≡ before → Went before after
Went-same before after same = subst (λ (t : Option Tape). Went before t) (sym same) (Went-none before)

pub Went-then : (first second third : Option Tape) → Went first second → Went second third → Went first third
Went-then first second third a b = (a.0 ++ b.0, GoesOn-trans first second third a.0 b.0 a.1 b.1)

pub Went-told : (before after : Option Tape) (value : ℕ) → Tells before after value → Went before after
Went-told before after value told = Tells-goes_on before after value told

pub ToldIn-now : (before after : Option Tape) (value : ℕ) → Tells before after value → ToldIn before after value
ToldIn-now before after value told = record { first = before; last = after; earlier = Went-none before; told = told; later = Went-none after }

-- a longer stretch of time has it too
pub ToldIn-wider : (before from until after : Option Tape) (value : ℕ) → Went before from → Went until after → ToldIn from until value → ToldIn before after value
ToldIn-wider before from until after value earlier later told = record {
  first = told.first;
  last = told.last;
  earlier = Went-then before from told.first earlier told.earlier;
  told = told.told;
  later = Went-then told.last until after told.later later;
}

pub WasDrawn-wider : (before from until after : Option Tape) (word : Option ℕ) → Went before from → Went until after → WasDrawn from until word → WasDrawn before after word
WasDrawn-wider before from until after None earlier later drawn = drawn
WasDrawn-wider before from until after (Some word) earlier later drawn = ToldIn-wider before from until after word earlier later drawn
