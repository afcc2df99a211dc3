-- What a piece of a replacement stands for, with what each group matched.
use Rattle.std.specs.Prelude.{ℕ, List, [], ◌∷◌}
use Rattle.vcl_values.specs.declared.replacement.Piece.{Piece}
use Rattle.vcl_values.specs.declared.replacement.Piece.TheVariants.{Byte, Group}

abbrev pub piece_bytes : (ℕ → List ℕ) → Piece → List ℕ
piece_bytes group (Byte b) = b ∷ []
piece_bytes group (Group n) = group n
