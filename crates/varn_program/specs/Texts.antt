-- The texts of the options of a replay, and the numbers that they write.
use Rattle.std.specs.Prelude.{◌≡◌, false, ◌⊎◌, ◌≤◌, ℕ, List, [], ◌∷◌, codes, Option, Some, None}
use Rattle.units.specs.Numbers.{IsNumber}
use Rattle.cache_law.specs.declared.setting.Params.{Params}
use Rattle.varn_program.specs.Words.{most, usual}

-- the text of an option and its number, or the usual one where the option isn't given
abbrev pub IsValue : Option (List ℕ) → ℕ → Type 0
IsValue None number = number ≡ usual
IsValue (Some value) number = IsNumber value number × (number ≤ most)

abbrev pub IsText : List ℕ → List ℕ → List ℕ → Option (List ℕ) → Type 0
IsText wanted name value text = (name ≡ wanted) × (text ≡ Some value)

-- these are the texts of the room and of the history among the options
abbrev pub HasTexts : List (List ℕ) → Option (List ℕ) → Option (List ℕ) → Type 0
HasTexts [] room history = (room ≡ None) × (history ≡ None)
HasTexts (name ∷ value ∷ []) room history =
    (IsText (codes "--room") name value room × (history ≡ None)) ⊎ (IsText (codes "--history") name value history × (room ≡ None))
HasTexts (name ∷ value ∷ other ∷ number ∷ []) room history =
    (IsText (codes "--room") name value room × IsText (codes "--history") other number history)
    ⊎ (IsText (codes "--history") name value history × IsText (codes "--room") other number room)
HasTexts (name ∷ []) room history = ⊥
HasTexts (name ∷ value ∷ other ∷ []) room history = ⊥
HasTexts (name ∷ value ∷ other ∷ number ∷ word ∷ words) room history = ⊥

-- the words are one behind which options with these texts stand, the texts are the numbers of these limits, and no segments are
-- kept
abbrev pub AreTexts : List (List ℕ) → Option (List ℕ) → Option (List ℕ) → Params → Type 0
AreTexts [] room history params = ⊥
AreTexts (word ∷ options) room history params = HasTexts options room history × IsValue room params.room × IsValue history params.history × (params.segments ≡ false)
