-- Which objects have to go for a new one.
use Rattle.std.specs.Prelude.{◌≡◌, ℕ, true, false, nat_eq, List, ◌∷◌, Option}
use Rattle.std.specs.List.{list_any, AllByRecursion}
use Rattle.lazy_law.specs.Placed.{Lazy, Placed}
use Rattle.lazy_law.specs.Insertion.{has_number, lacks_room, others_late, outweighs_late}
use Rattle.lazy_store.specs.Numbered.{is_one_of}

-- The objects of these numbers have to go so that one of the size finds room in the stale one's place; all of them are stored.
pub record AreDisplaced (room size : ℕ) (stale : Option ℕ) (objects : List Placed) (numbers : List ℕ) : Type 0 where
  pub made : lacks_room room size (others_late stale objects) ≡ false
  pub those : AllByRecursion (λ placed. is_one_of numbers placed ≡ outweighs_late room size (others_late stale objects) placed) (others_late stale objects)
  pub stored : (number : ℕ) → list_any (has_number number) objects ≡ false → list_any (nat_eq number) numbers ≡ false

-- the object has come before the others
abbrev pub with_first : Placed → Lazy → Lazy
with_first placed lazy = record lazy { objects = placed ∷ lazy.objects }
