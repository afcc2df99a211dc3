-- The reading of single tokens behind the version, and what is told of it.
use Rattle.std.specs.Prelude.{ℕ, ◌-◌, List, [], ◌∷◌, length, drop}
use Rattle.vcl_tree.specs.Phrase.{Nothing}
use Rattle.vcl_tree.specs.declared.token.Token.{Token}
use Rattle.vcl_tree.specs.declared.token.Sign.TheVariants as sign
use Rattle.vcl_tree.specs.declared.error.VclError.{VclError}
use Rattle.vcl_tree.specs.declared.error.VclError.TheVariants as error
use Rattle.vcl_tree.specs.declared.error.Refusal.TheVariants as refusal
use Rattle.vcl_parse.specs.declared.stop.Stop.{Stop}
use Rattle.vcl_parse.specs.declared.stop.Stop.TheVariants as stop
use Rattle.vcl_parse.specs.Machine.{Take, Go, MoreItems, Outcome, watch}
use Rattle.vcl_parse.specs.Parsing.{first_place}

-- the reading of the tokens behind the version: a semicolon and items
abbrev pub reading : List Token → Outcome
reading tokens = watch 0 (Take sign.Semicolon ∷ Go MoreItems ∷ []) (Nothing ∷ []) tokens

-- the place of the token at which so many are left
abbrev pub place_at : ℕ → List Token → ℕ → ℕ
place_at end tokens left = first_place end (drop (length tokens - left) tokens)

abbrev pub told : ℕ → List Token → Stop → VclError
told end tokens stop.NoMemory = error.NoMemory
told end tokens (stop.Syntax left) = error.Refused refusal.Syntax (place_at end tokens left)
told end tokens (stop.TooDeep left) = error.Refused refusal.TooDeep (place_at end tokens left)
