-- What follows from how an answer settles.
use Rattle.std.proofs.Common.{ℕ, ◌≤◌, List, sym, subst, Bool, Option, Some, None, Result, Ok, Err, arith}
use Rattle.std.specs.Prelude.{OnErr}
use Rattle.std.specs.Io.KnownBytes.{Keeps, ReadConsumes, WriteAppends}
use Rattle.std.specs.declared.io.Error.{Error}
use Rattle.std.proofs.lemmas.Option.{same_Some, none-some}
use Rattle.units.proofs.Results.{on_err}
use Rattle.wire.specs.declared.traits.Failed.{Failed}
use Rattle.wire.specs.Causes.{HasCause, Rose, Settles}

pub cause_of : (answer : Result ℕ Error) (none_is_fault : Bool) (settled : Result ℕ Failed) (first before now : ℕ) → first ≤ before → before ≤ now → Settles answer none_is_fault (Some settled) before now → HasCause first now settled
cause_of (Ok count) none_is_fault settled first before now p q h =
    let at : Result ℕ Failed → Type 0 = λ r. OnErr r (Rose first now) in
    record { later = omega arith; failed = subst at (sym (same_Some settled (Ok count) h.0)) tt }
cause_of (Err error) none_is_fault settled first before now p q h = record { later = omega arith; failed = on_err settled (omega (arith, h.0)) }

pub rose_again : (answer : Result ℕ Error) (none_is_fault : Bool) (first before now : ℕ) → first ≤ before → Settles answer none_is_fault None before now → Rose first now
rose_again (Ok count) none_is_fault first before now p h = absurd (none-some (Ok count) h.0)
rose_again (Err error) none_is_fault first before now p h = omega (arith, h.0)

pub write_again : (answer : Result ℕ Error) (none_is_fault : Bool) (before now : ℕ) (old new : Option (List ℕ)) (piece : List ℕ) → Settles answer none_is_fault None before now → WriteAppends old new answer piece → Keeps old new
write_again (Ok count) none_is_fault before now old new piece h k = absurd (none-some (Ok count) h.0)
write_again (Err error) none_is_fault before now old new piece h k = k

pub read_again : (answer : Result ℕ Error) (none_is_fault : Bool) (before now : ℕ) (old new : Option (List ℕ)) (into : List ℕ) → Settles answer none_is_fault None before now → ReadConsumes old new answer into → Keeps old new
read_again (Ok count) none_is_fault before now old new into h k = absurd (none-some (Ok count) h.0)
read_again (Err error) none_is_fault before now old new into h k = k
