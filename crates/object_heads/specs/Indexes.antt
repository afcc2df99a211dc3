-- Handles by the names of keys and by the numbers of objects. An index is seen as a test of a key and a handle: whether
-- the handle stands under the key.
use Rattle.std.specs.Prelude.{◌≡◌, ℕ, Bool, false, not, ◌&&◌, ◌||◌, nat_eq, Option, None, Some}
use Rattle.std.specs.Ordering.{nat_cmp, is_eq}
use Rattle.std.specs.Option.{option_map_or}
use Rattle.std.specs.BTreeMap.{BTreeMap, get}
use Rattle.std.specs.BTreeSet.{BTreeSet, contains}
use Rattle.object_heads.specs.declared.name.Name.{Name}
use Rattle.object_heads.specs.Names.{name_cmp}

abbrev pub same_name : Name → Name → Bool
same_name a b = is_eq (name_cmp a b)

-- the handle is one of the set's, if there is one
abbrev pub is_held : Option (BTreeSet ℕ) → ℕ → Bool
is_held None handle = false
is_held (Some handles) handle = contains nat_cmp handles handle

-- the handle is this one, if there is one
abbrev pub is_that : Option ℕ → ℕ → Bool
is_that None handle = false
is_that (Some own) handle = nat_eq own handle

-- the handle stands under the name
abbrev pub is_under : BTreeMap Name (BTreeSet ℕ) → Name → ℕ → Bool
is_under heads name handle = is_held (get name_cmp heads name) handle

-- the handle stands at the number
abbrev pub is_at_number : BTreeMap ℕ ℕ → ℕ → ℕ → Bool
is_at_number numbers number handle = is_that (get nat_cmp numbers number) handle

module _ {K : Type 0} where
  -- the handle has come to stand under the keys that pass the test, and all else is as before
  abbrev pub Adds : (K → ℕ → Bool) → ℕ → (K → Bool) → (K → ℕ → Bool) → Type 0
  Adds old handle test new = (key : K) (other : ℕ) → new key other ≡ (old key other || (test key && nat_eq handle other))

  -- the handle stands no more under the keys that pass the test, and all else is as before
  abbrev pub Removes : (K → ℕ → Bool) → ℕ → (K → Bool) → (K → ℕ → Bool) → Type 0
  Removes old handle test new = (key : K) (other : ℕ) → new key other ≡ (old key other && not (test key && nat_eq handle other))

  abbrev pub IsSame : (K → ℕ → Bool) → (K → ℕ → Bool) → Type 0
  IsSame old new = (key : K) (other : ℕ) → new key other ≡ old key other

  -- under each key stand the handles of the items that have it
  abbrev pub IsIndexOf : {X : Type 0} → (X → K → Bool) → (ℕ → Option X) → (K → ℕ → Bool) → Type 0
  IsIndexOf {X} has items index = (key : K) (handle : ℕ) → index key handle ≡ option_map_or (λ (x : X). has x key) (items handle) false
