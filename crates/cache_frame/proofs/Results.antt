-- What holds of a value in a result holds where it follows from what holds of it.
use Rattle.std.proofs.Common.{◌≡◌, ap, sym, ◌∙◌}
use Rattle.std.specs.Prelude.{IsErrOf, Result, Ok, Err, Option, Some, None, IfOk, IfSome}

pub ok_map : {A E : Type 0} (P Q : A → Type 0) → ((a : A) → P a → Q a) → (result : Result A E) → IfOk result P → IfOk result Q
ok_map P Q on (Ok a) p = on a p
ok_map P Q on (Err e) p = p

pub some_map : {A : Type 0} (P Q : A → Type 0) → ((a : A) → P a → Q a) → (result : Option A) → IfSome result P → IfSome result Q
some_map P Q on (Some a) p = on a p
some_map P Q on None p = p

abbrev err_or : {T E : Type 0} → E → Result T E → E
err_or error (Ok value) = error
err_or error (Err own) = own

-- the same error, in a result of another type
pub same_error : {T U E : Type 0} (own other error : E) → other ≡ own → IsErrOf {T = T} (Err other) error → IsErrOf {T = U} (Err own) error
same_error own other error same is_ = ap Err (sym same ∙ ap (err_or error) is_)
