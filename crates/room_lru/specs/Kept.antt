-- What holds of a map of members by their last use, a set of their ends and a sum, which are kept together.
use Rattle.std.specs.Prelude.{◌≡◌, ℕ, List, [], ◌∷◌}
use Rattle.std.specs.Ordering.{nat_cmp}
use Rattle.std.specs.List.{list_any}
use Rattle.std.specs.BTreeMap as tree
use Rattle.std.specs.BTreeMap.{BTreeMap}
use Rattle.std.specs.BTreeSet.{BTreeSet, contains}
use Rattle.room_lru.specs.declared.member.Member.{Member}
use Rattle.room_lru.specs.Members.{Used, total_of}
use Rattle.room_lru.specs.Ends.{End, by_end, has_end, IsFree}

-- the set has the end and the handle of each member, and no more
abbrev pub IsIndexOf : List Used → BTreeSet End → Type 0
IsIndexOf members ends = (end : End) → contains by_end ends end ≡ list_any (has_end end) members

-- no end with a handle is that of two members
abbrev pub AreApart : List Used → Type 0
AreApart [] = Unit {0}
AreApart (member ∷ members) = IsFree (member.1.end, member.1.handle) members × AreApart members

pub record AreKept (members : BTreeMap ℕ Member) (ends : BTreeSet End) (total : ℕ) : Type 0 where
  pub ordered : tree.IsOrdered nat_cmp members
  pub indexed : IsIndexOf members.entries ends
  pub apart : AreApart members.entries
  pub summed : total ≡ total_of members.entries
