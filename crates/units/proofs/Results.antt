-- A fact that holds whatever was answered.
use Rattle.std.specs.Prelude.{Result, Ok, Err, OnErr}

pub on_err : {T E P : Type 0} (r : Result T E) → P → OnErr r P
on_err (Ok _) p = tt
on_err (Err _) p = p
