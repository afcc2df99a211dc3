-- Handles by key, as functions of a key and a handle.
use Rattle.std.specs.Prelude.{◌≡◌, ℕ, Bool, false, not, ◌&&◌, ◌||◌, nat_eq, List, Option, None, Some}
use Rattle.std.specs.Ordering.{nat_cmp}
use Rattle.std.specs.List.{list_any}
use Rattle.std.specs.Str.{bytes_eq}
use Rattle.std.specs.BTreeMap as tree
use Rattle.std.specs.BTreeMap.{BTreeMap}
use Rattle.std.specs.BTreeSet.{BTreeSet, contains}
use Rattle.indexmap.specs.IndexMap.{IndexMap, get}

-- the key is one of these
abbrev pub has_key : List (List ℕ) → List ℕ → Bool
has_key keys key = list_any (λ own. bytes_eq own key) keys

abbrev pub is_held : Option (BTreeSet ℕ) → ℕ → Bool
is_held None handle = false
is_held (Some handles) handle = contains nat_cmp handles handle

abbrev pub is_owned : Option (List (List ℕ)) → List ℕ → Bool
is_owned None key = false
is_owned (Some keys) key = has_key keys key

module _ {S : Type 0} where
  -- the handle stands under the key
  abbrev pub is_under : IndexMap (List ℕ) (BTreeSet ℕ) S → List ℕ → ℕ → Bool
  is_under handles key handle = is_held (get bytes_eq handles key) handle

  -- the handle stands under at least one of the keys
  abbrev pub is_under_one : IndexMap (List ℕ) (BTreeSet ℕ) S → List (List ℕ) → ℕ → Bool
  is_under_one handles keys handle = list_any (λ key. is_under handles key handle) keys

  -- under each key stand the handles of the members that have it
  abbrev pub IsIndexOf : BTreeMap ℕ (List (List ℕ)) → IndexMap (List ℕ) (BTreeSet ℕ) S → Type 0
  IsIndexOf keys handles = (key : List ℕ) (handle : ℕ) → is_under handles key handle ≡ is_owned (tree.get nat_cmp keys handle) key

  -- the handle has come to stand under the keys that pass the test, and all else is as before
  abbrev pub Adds : IndexMap (List ℕ) (BTreeSet ℕ) S → ℕ → (List ℕ → Bool) → IndexMap (List ℕ) (BTreeSet ℕ) S → Type 0
  Adds old handle test new = (key : List ℕ) (other : ℕ) → is_under new key other ≡ (is_under old key other || (test key && nat_eq handle other))

  -- the handle stands no more under the keys that pass the test, and all else is as before
  abbrev pub Removes : IndexMap (List ℕ) (BTreeSet ℕ) S → ℕ → (List ℕ → Bool) → IndexMap (List ℕ) (BTreeSet ℕ) S → Type 0
  Removes old handle test new = (key : List ℕ) (other : ℕ) → is_under new key other ≡ (is_under old key other && not (test key && nat_eq handle other))

  abbrev pub IsSame : IndexMap (List ℕ) (BTreeSet ℕ) S → IndexMap (List ℕ) (BTreeSet ℕ) S → Type 0
  IsSame old new = (key : List ℕ) (other : ℕ) → is_under new key other ≡ is_under old key other
