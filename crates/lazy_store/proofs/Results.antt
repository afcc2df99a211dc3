-- What follows of a result, or of an option, where something follows of what is in it.
use Rattle.std.proofs.Common.{Option, Result, Some, None, Ok, Err}
use Rattle.std.specs.Prelude.{IfNone, IfOk, IfSome, OnOk}

module _ {T E : Type 0} where
  pub ok_on : (P Q : T → Type 0) → ((t : T) → P t → Q t) → (r : Result T E) → IfOk r P → IfOk r Q
  ok_on P Q on (Ok t) is = on t is
  ok_on P Q on (Err e) is = is

  pub on_ok : (P Q : Type 0) → (P → Q) → (r : Result T E) → OnOk r P → OnOk r Q
  on_ok P Q on (Ok t) is = on is
  on_ok P Q on (Err e) is = is

module _ {T : Type 0} where
  pub some_on : (P Q : T → Type 0) → ((t : T) → P t → Q t) → (o : Option T) → IfSome o P → IfSome o Q
  some_on P Q on None is = is
  some_on P Q on (Some t) is = on t is

  pub none_on : (P Q : Type 0) → (P → Q) → (o : Option T) → IfNone o P → IfNone o Q
  none_on P Q on None is = on is
  none_on P Q on (Some t) is = is
