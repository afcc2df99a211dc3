-- A text that was cut where it is over a limit.
use Rattle.std.specs.Prelude.{ℕ, ◌≡◌, ◌<◌, ◌≤◌, List, length}

-- Within the limit the text is the whole, and over it the whole is over it too.
pub record IsCutFrom (limit : ℕ) (whole text : List ℕ) : Type 0 where
  pub within : length text ≤ limit → text ≡ whole
  pub over : limit < length text → limit < length whole
