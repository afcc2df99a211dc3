-- Soft purges over the containers: what becomes of objects, by their numbers, and what becomes of the members.
use Rattle.std.specs.Prelude.{◌≡◌, ℕ, Bool, true, false, nat_eq, ◌&&◌, List, [], ◌∷◌, Option, Some, None, filter_map, find, map, option_and_then, option_map, if◌then◌else◌}
use Rattle.std.specs.Ordering.{int_eq}
use Rattle.std.specs.List.{AllByRecursion}
use Rattle.std.specs.Option.{option_map_or}
use Rattle.cache_law.specs.declared.object.Object.{Object}
use Rattle.cache_law.specs.Object.{in_time, key_of}
use Rattle.cache_law.specs.Purges.{softened}
use Rattle.object_heads.specs.declared.item.Item.{Item}
use Rattle.object_heads.specs.Members.{changed, with_object}
use Rattle.room_lru.specs.declared.ending.Ending.{Ending}
use Rattle.lazy_law.specs.Placed.{Lazy, Placed, is_dead, kept_bans}
use Rattle.lazy_law.specs.Insertion.{has_number}
use Rattle.lazy_law.specs.Purging.{softened_late}
use Rattle.lazy_law.specs.Sweeping.{sweeping}
use Rattle.lazy_store.specs.declared.placement.Placement.{Placement}
use Rattle.lazy_store.specs.Members.{Member, at_number, end_of}
use Rattle.lazy_store.specs.Numbered.{is_one_of}

-- what a soft purge leaves
abbrev pub softly_purged : ℕ → List (List ℕ) → Lazy → Lazy
softly_purged moment keys lazy = record lazy { objects = softened_late moment keys (kept_bans lazy) lazy.issued lazy.objects }

-- the object of the number is in time and dead
abbrev pub is_dead_at : ℕ → Lazy → ℕ → Bool
is_dead_at moment lazy number =
    option_map_or (λ (placed : Placed). in_time moment placed.view.object && is_dead (kept_bans lazy) placed) (find (has_number number) lazy.objects) false

-- the lifetime of the object ends at the moment
abbrev pub softened_in : ℕ → Placed → Placed
softened_in moment placed = let view = placed.view in record placed { view = record view { object = softened moment view.object } }

-- that of the objects of these numbers ends
abbrev pub softening_all : ℕ → List ℕ → Placed → Placed
softening_all moment numbers placed = if is_one_of numbers placed then softened_in moment placed else placed

abbrev pub softened_all : ℕ → List ℕ → Lazy → Lazy
softened_all moment numbers lazy = record lazy { objects = map (softening_all moment numbers) lazy.objects }

-- the object of the number counts as tested on all bans on objects alone
abbrev pub marked : ℕ → Lazy → Lazy
marked number lazy = record lazy { objects = map (sweeping (has_number number) lazy.issued) lazy.objects }

-- the objects of these numbers count as tested on all bans on objects alone
abbrev pub marked_all : List ℕ → Lazy → Lazy
marked_all numbers lazy = record lazy { objects = map (sweeping (is_one_of numbers) lazy.issued) lazy.objects }

-- ---- in the containers

-- the object that comes in the place of the member's
abbrev pub soft_object : ℕ → Member → Object
soft_object moment member = softened moment member.1.view.object

-- the end that the member is to have, where that is another than it has
abbrev pub ending_to : Object → ℕ → Item Placement → Option Ending
ending_to object handle item =
    if int_eq (end_of item.view.object) (end_of object) then None
    else Some (record { used = item.payload.used; handle = handle; end = end_of item.view.object; new_end = end_of object })

abbrev pub ending_in : ℕ → Member → Option Ending
ending_in moment member = ending_to (soft_object moment member) member.0 member.1

abbrev pub ending_at : ℕ → List Member → ℕ → Option Ending
ending_at moment members number = option_and_then (ending_in moment) (at_number number members)

abbrev pub object_at : ℕ → List Member → ℕ → Option (ℕ × Object)
object_at moment members number = option_map (λ (member : Member). (member.0, soft_object moment member)) (at_number number members)

-- for the members of these numbers
abbrev pub endings_at : ℕ → List Member → List ℕ → List Ending
endings_at moment members numbers = filter_map (ending_at moment members) numbers

abbrev pub objects_at : ℕ → List Member → List ℕ → List (ℕ × Object)
objects_at moment members numbers = filter_map (object_at moment members) numbers

-- the members, where these objects have come in the places of those of their handles, the last one first
abbrev pub with_objects : List (ℕ × Object) → List Member → List Member
with_objects [] members = members
with_objects (one ∷ others) members = changed one.0 (with_object one.1) (with_objects others members)

-- the object has the key of those of its handle
abbrev pub FitsIn : List Member → ℕ × Object → Type 0
FitsIn members one = AllByRecursion (λ (member : Member). nat_eq one.0 member.0 ≡ true → key_of one.1 ≡ key_of member.1.view.object) members

abbrev pub FitIn : List Member → List (ℕ × Object) → Type 0
FitIn members objects = AllByRecursion (FitsIn members) objects
