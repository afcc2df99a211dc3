-- The members by their ends.
use Rattle.std.specs.Prelude.{◌≡◌, ℕ, ℤ, ◌≤ℤ◌, pos, Bool, true, false, ◌&&◌, nat_eq, List}
use Rattle.std.specs.declared.cmp.Ordering.{Ordering}
use Rattle.std.specs.Ordering.{ordering_then, is_gt, nat_cmp, int_cmp, int_eq}
use Rattle.std.specs.List.{list_any, AllByRecursion}
use Rattle.room_lru.specs.Members.{Used}

-- an end and a handle
abbrev pub End : Type 0
End = ℤ × ℕ

-- the order by end, and by handle at one end
abbrev pub by_end : End → End → Ordering
by_end one other = ordering_then (int_cmp one.0 other.0) (nat_cmp one.1 other.1)

-- this end with this handle is the one
abbrev pub is_end_at : ℤ → ℕ → End → Bool
is_end_at end handle one = int_eq end one.0 && nat_eq handle one.1

abbrev pub has_end : End → Used → Bool
has_end end member = int_eq member.1.end end.0 && nat_eq member.1.handle end.1

-- no member has both this end and this handle
abbrev pub IsFree : End → List Used → Type 0
IsFree end members = list_any (has_end end) members ≡ false

-- a member is over at the moment, and no other comes before it by its end
pub record EndsFirst (moment : ℕ) (members : List Used) (end : End) : Type 0 where
  pub over : end.0 ≤ℤ pos moment
  pub there : list_any (has_end end) members ≡ true
  pub first : AllByRecursion (λ member. is_gt (by_end end (member.1.end, member.1.handle)) ≡ false) members
