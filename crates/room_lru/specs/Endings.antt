-- Several members that are to have other ends.
use Rattle.std.specs.Prelude.{◌≡◌, ◌&&◌, Bool, true, false, nat_eq, List, [], ◌∷◌}
use Rattle.std.specs.List.{list_any, AllByRecursion}
use Rattle.room_lru.specs.declared.ending.Ending.{Ending}
use Rattle.room_lru.specs.Members.{Used, with_end}
use Rattle.room_lru.specs.Ends.{End, has_end, is_end_at, IsFree}

-- the member has this end and this handle
abbrev pub ends_old : End → Ending → Bool
ends_old one ending = is_end_at ending.end ending.handle one

-- it is to have them
abbrev pub ends_new : End → Ending → Bool
ends_new one ending = is_end_at ending.new_end ending.handle one

-- one member after another has its other end
abbrev pub with_ends : List Ending → List Used → List Used
with_ends [] members = members
with_ends (ending ∷ endings) members = with_ends endings (with_end ending.used ending.new_end members)

-- it is of this member
abbrev pub is_of : Ending → Used → Bool
is_of ending member = nat_eq ending.used member.0 && has_end (ending.end, ending.handle) member

-- it is of one of these members, of which none has the other end with its handle
pub record IsEnding (members : List Used) (ending : Ending) : Type 0 where
  pub there : list_any (is_of ending) members ≡ true
  pub free : IsFree (ending.new_end, ending.handle) members

-- they are of two members, with two handles
pub record AreTwo (one other : Ending) : Type 0 where
  pub uses : nat_eq one.used other.used ≡ false
  pub handles : nat_eq one.handle other.handle ≡ false

-- each is of a member of its own
abbrev pub AreEndings : List Used → List Ending → Type 0
AreEndings members [] = Unit {0}
AreEndings members (ending ∷ endings) = IsEnding members ending × AllByRecursion (AreTwo ending) endings × AreEndings members endings
