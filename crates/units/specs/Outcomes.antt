-- What a call may answer that fails for want of memory alone.
use Rattle.std.specs.Prelude.{◌≡◌, ◌⊎◌, Result, Ok, Err}

-- this value, unless memory is wanting
abbrev pub Gives : {T E : Type 0} → E → Result T E → T → Type 0
Gives no_memory result value = (result ≡ Ok value) ⊎ (result ≡ Err no_memory)
