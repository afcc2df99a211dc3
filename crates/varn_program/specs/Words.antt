-- The words that ask for a replay.
use Rattle.std.specs.Prelude.{◌≡◌, false, ◌⊎◌, ◌≤◌, ℕ, List, [], ◌∷◌, codes}
use Rattle.units.specs.Numbers.{IsNumber}
use Rattle.cache_law.specs.declared.setting.Params.{Params}

-- the greatest room and the greatest history
abbrev pub most : ℕ
most = 1073741824

-- the room and the history where they aren't given
abbrev pub usual : ℕ
usual = 268435456

-- the words are an option of this name, and its value is this number
pub record IsOption (wanted name value : List ℕ) (number : ℕ) : Type 0 where
  pub name_is : name ≡ wanted
  pub value_is : IsNumber value number
  pub within : number ≤ most

abbrev pub IsRoom : List ℕ → List ℕ → ℕ → Type 0
IsRoom name value room = IsOption (codes "--room") name value room

abbrev pub IsHistory : List ℕ → List ℕ → ℕ → Type 0
IsHistory name value history = IsOption (codes "--history") name value history

-- the options give this room and this history: none of them, one, or both in either order
abbrev pub Gives : List (List ℕ) → ℕ → ℕ → Type 0
Gives [] room history = (room ≡ usual) × (history ≡ usual)
Gives (name ∷ value ∷ []) room history =
    (IsRoom name value room × (history ≡ usual)) ⊎ (IsHistory name value history × (room ≡ usual))
Gives (name ∷ value ∷ other ∷ number ∷ []) room history =
    (IsRoom name value room × IsHistory other number history) ⊎ (IsHistory name value history × IsRoom other number room)
Gives (name ∷ []) room history = ⊥
Gives (name ∷ value ∷ other ∷ []) room history = ⊥
Gives (name ∷ value ∷ other ∷ number ∷ word ∷ words) room history = ⊥

-- the words are `replay`, and behind it the options of these limits; a replay keeps no segments
abbrev pub AsksReplay : List (List ℕ) → Params → Type 0
AsksReplay [] params = ⊥
AsksReplay (word ∷ options) params = (word ≡ codes "replay") × Gives options params.room params.history × (params.segments ≡ false)
