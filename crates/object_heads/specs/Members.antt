-- Objects of a cache with their handles, the newest first: each member is its handle and its item, and an item is an
-- object with a payload. The newer a member, the lower its handle.
use Rattle.std.specs.Prelude.{ℕ, ◌<◌, Bool, not, nat_eq, nat_le, List, Option, filter, map, slice_get, if◌then◌else◌}
use Rattle.std.specs.Ordering.{nat_cmp}
use Rattle.std.specs.List.{list_any, AllByRecursion}
use Rattle.std.specs.List.Sorted.{IsStrictlySortedBy}
use Rattle.std.specs.Map.{keys_of}
use Rattle.cache_law.specs.declared.object.Object.{Object}
use Rattle.cache_law.specs.Object.{key_of, same_texts}
use Rattle.cache_law.specs.Lookup.{raised}
use Rattle.object_heads.specs.declared.item.Item.{Item}

-- the handle is one of these
abbrev pub is_one_of : List ℕ → ℕ → Bool
is_one_of handles own = list_any (λ handle. nat_eq handle own) handles

module _ {P : Type 0} where
  -- its object has this key
  abbrev pub has_key : List (List ℕ) → Item P → Bool
  has_key key item = same_texts (key_of item.view.object) key

  -- its object has this number
  abbrev pub has_number : ℕ → Item P → Bool
  has_number number item = nat_eq item.view.number number

  -- the handles of the members whose items pass a test
  abbrev pub handles_where : (Item P → Bool) → List (ℕ × Item P) → List ℕ
  handles_where test members = keys_of (filter (λ member. test member.1) members)

  -- the handle of the first member whose object has this number
  abbrev pub handle_at : ℕ → List (ℕ × Item P) → Option ℕ
  handle_at number members = slice_get (handles_where (has_number number) members) 0

  -- the item with another payload
  abbrev pub with_payload : P → Item P → Item P
  with_payload payload item = record item { payload = payload }

  -- the item with another object under the same number, which was given as often
  abbrev pub with_object : Object → Item P → Item P
  with_object object item = record item { view = record item.view { object = object } }

  -- the item with one more hit of its object
  abbrev pub with_hit : Item P → Item P
  with_hit item = record item { view = raised item.view }

module _ {X : Type 0} where
  -- the others than the one of this handle
  abbrev pub without : ℕ → List (ℕ × X) → List (ℕ × X)
  without handle members = filter (λ member. not (nat_eq handle member.0)) members

  -- the others than those of these handles
  abbrev pub without_all : List ℕ → List (ℕ × X) → List (ℕ × X)
  without_all handles members = filter (λ member. not (is_one_of handles member.0)) members

  -- the members, where that of this handle is changed
  abbrev pub changed : ℕ → (X → X) → List (ℕ × X) → List (ℕ × X)
  changed handle change members = map (λ member. if nat_eq handle member.0 then (member.0, change member.1) else member) members

  -- the first of the handles that aren't below this one
  abbrev pub first_from : ℕ → List (ℕ × X) → Option ℕ
  first_from handle members = slice_get (keys_of (filter (λ member. nat_le handle member.0) members)) 0

  -- the handle is below those of all members
  abbrev pub IsNewest : ℕ → List (ℕ × X) → Type 0
  IsNewest handle members = AllByRecursion (λ member. handle < member.0) members

  -- each has a lower handle than those behind it
  abbrev pub AreInOrder : List (ℕ × X) → Type 0
  AreInOrder members = IsStrictlySortedBy nat_cmp (keys_of members)
