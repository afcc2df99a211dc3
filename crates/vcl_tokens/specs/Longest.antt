-- The longest front of the bytes that makes a piece behind a state.
use Rattle.std.specs.Prelude.{ℕ, ◌+◌, List, [], ◌∷◌, Option, Some, None}
use Rattle.std.specs.Option.{option_and_then}
use Rattle.vcl_tokens.specs.declared.spelling.Form.{Form}
use Rattle.vcl_tokens.specs.declared.spelling.State.{State}
use Rattle.vcl_tokens.specs.Steps.{form_at, next_state}

abbrev pub better : Option Form → ℕ → Option (ℕ × Form) → Option (ℕ × Form)
better None n best = best
better (Some f) n best = Some (n, f)

-- a piece that goes on n bytes further, or else the best so far
abbrev pub best_of : ℕ → Option (ℕ × Form) → Option (ℕ × Form) → Option (ℕ × Form)
best_of n None best = best
best_of n (Some piece) best = Some (n + piece.0, piece.1)

abbrev pub longest_behind : State → List ℕ → Option (ℕ × Form)
longest_behind s [] = better (form_at s) 0 None
longest_behind s (b ∷ bs) = best_of 1 (option_and_then (λ t. longest_behind t bs) (next_state s b)) (better (form_at s) 0 None)
