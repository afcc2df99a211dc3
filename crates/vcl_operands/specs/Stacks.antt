-- The top item of a stack, and those below it.
use Rattle.std.specs.Prelude.{◌≡◌, List, [], ◌∷◌, Option, Some, None}

abbrev pub IsPopped : {T : Type 0} → Option T → List T → List T → Type 0
IsPopped (Some top) before after = before ≡ top ∷ after
IsPopped None before after = (before ≡ []) × (after ≡ [])
