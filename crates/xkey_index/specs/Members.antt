-- Members with their keys, the newest first: each is its handle and its keys. The newer a member, the lower its handle.
use Rattle.std.specs.Prelude.{ℕ, ◌<◌, Bool, not, nat_eq, List, filter}
use Rattle.std.specs.Ordering.{nat_cmp}
use Rattle.std.specs.List.{list_any, AllByRecursion}
use Rattle.std.specs.List.Sorted.{IsStrictlySortedBy}
use Rattle.std.specs.Map.{keys_of}
use Rattle.std.specs.Str.{bytes_eq}

abbrev pub Member : Type 0
Member = ℕ × List (List ℕ)

-- it has at least one of the keys
abbrev pub has_one_of : List (List ℕ) → Member → Bool
has_one_of keys member = list_any (λ own. list_any (bytes_eq own) keys) member.1

-- the handles of the members that have at least one of the keys
abbrev pub handles_with : List (List ℕ) → List Member → List ℕ
handles_with keys members = keys_of (filter (has_one_of keys) members)

-- the others than the one of this handle
abbrev pub without : ℕ → List Member → List Member
without handle members = filter (λ member. not (nat_eq handle member.0)) members

-- the handle is one of these
abbrev pub is_one_of : List ℕ → ℕ → Bool
is_one_of handles own = list_any (λ handle. nat_eq handle own) handles

-- the others than those of these handles
abbrev pub without_all : List ℕ → List Member → List Member
without_all handles members = filter (λ member. not (is_one_of handles member.0)) members

-- the handle is below those of all members
abbrev pub IsNewest : ℕ → List Member → Type 0
IsNewest handle members = AllByRecursion (λ member. handle < member.0) members

-- each has a lower handle than those behind it
abbrev pub AreInOrder : List Member → Type 0
AreInOrder members = IsStrictlySortedBy nat_cmp (keys_of members)
