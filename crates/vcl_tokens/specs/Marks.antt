-- Marks that stand somewhere in bytes.
use Rattle.std.specs.Prelude.{ℕ, Bool, true, false, ◌||◌, ◌&&◌, not, ◌==◌, List, [], ◌∷◌}

abbrev pub begins : List ℕ → List ℕ → Bool
begins [] bytes = true
begins (m ∷ mark) [] = false
begins (m ∷ mark) (b ∷ bytes) = b == m && begins mark bytes

-- the mark stands somewhere in the bytes
abbrev pub has : List ℕ → List ℕ → Bool
has mark [] = false
has mark (b ∷ bytes) = begins mark (b ∷ bytes) || has mark bytes

abbrev pub without_last : List ℕ → List ℕ
without_last [] = []
without_last (b ∷ []) = []
without_last (b ∷ c ∷ bytes) = b ∷ without_last (c ∷ bytes)

-- the mark stands at the end of the bytes and nowhere before: with their last byte it has come, and not without it
abbrev pub has_at_end : List ℕ → List ℕ → Bool
has_at_end mark bytes = has mark bytes && not (has mark (without_last bytes))
