-- Members by the number of their last use, the least recently used first.
use Rattle.std.specs.Prelude.{ℕ, ℤ, ◌<◌, Bool, not, nat_eq, List, [], ◌∷◌, ◌++◌, Option, None, Some, map, filter, sum, if◌then◌else◌}
use Rattle.std.specs.Ordering.{nat_cmp}
use Rattle.std.specs.List.{list_any, AllByRecursion}
use Rattle.std.specs.List.Sorted.{IsStrictlySortedBy}
use Rattle.std.specs.Map.{keys_of, lookup, values_of}
use Rattle.room_lru.specs.declared.member.Member.{Member}

-- a member and its last use
abbrev pub Used : Type 0
Used = ℕ × Member

abbrev pub sizes_of : List Used → List ℕ
sizes_of members = map (λ member. member.size) (values_of members)

abbrev pub handles_of : List Used → List ℕ
handles_of members = map (λ member. member.handle) (values_of members)

-- what all take
abbrev pub total_of : List Used → ℕ
total_of members = sum (sizes_of members)

-- the others than the one of this last use
abbrev pub without : ℕ → List Used → List Used
without used members = filter (λ member. not (nat_eq used member.0)) members

-- the use is one of these
abbrev pub is_one_of : List ℕ → ℕ → Bool
is_one_of uses own = list_any (λ used. nat_eq used own) uses

-- the others than those of these last uses
abbrev pub without_all : List ℕ → List Used → List Used
without_all uses members = filter (λ member. not (is_one_of uses member.0)) members

-- each was used before those behind it
abbrev pub AreInOrder : List Used → Type 0
AreInOrder members = IsStrictlySortedBy nat_cmp (keys_of members)

-- the use is later than those of all members
abbrev pub IsLatest : ℕ → List Used → Type 0
IsLatest used members = AllByRecursion (λ member. member.0 < used) members

-- the member, if there is one, with this as its last use
abbrev pub at_use : ℕ → Option Member → List Used
at_use used None = []
at_use used (Some member) = (used, member) ∷ []

-- the member of the first use has come last, with the later use
abbrev pub used_again : ℕ → ℕ → List Used → List Used
used_again used later members = without used members ++ at_use later (lookup (nat_eq used) members)

-- the member of this last use has another end
abbrev pub ending : ℕ → ℤ → Used → Used
ending used end member = if nat_eq used member.0 then (member.0, record member.1 { end = end }) else member

abbrev pub with_end : ℕ → ℤ → List Used → List Used
with_end used end members = map (ending used end) members
