-- The objects of the store with their handles, and what each container has of one.
use Rattle.std.specs.Prelude.{ℕ, ℤ, ◌+ℤ◌, List, Option, find, map}
use Rattle.cache_law.specs.declared.object.Object.{Object}
use Rattle.cache_law.specs.Object.{size_of, timing_of}
use Rattle.cache_law.specs.Purges.{xkeys_of}
use Rattle.object_heads.specs.declared.item.Item.{Item}
use Rattle.object_heads.specs.Members.{has_number}
use Rattle.room_lru.specs.Members.{Used}
use Rattle.ban_list.specs.declared.list.Stand.{Stand}
use Rattle.ban_list.specs.Bans.{Bans}
use Rattle.lazy_law.specs.Placed.{Lazy, Placed}
use Rattle.lazy_store.specs.declared.placement.Placement.{Placement}

-- a handle, and the object with what is kept of it
abbrev pub Member : Type 0
Member = ℕ × Item Placement

abbrev pub handle_of : Member → ℕ
handle_of member = member.0

abbrev pub number_of : Member → ℕ
number_of member = member.1.view.number

abbrev pub use_of : Member → ℕ
use_of member = member.1.payload.used

abbrev pub stand_of : Member → Stand
stand_of member = member.1.payload.stand

-- the object as the lazy cache has it
abbrev pub placed_in : Item Placement → Placed
placed_in item = record { view = item.view; used = item.payload.used; place = item.payload.stand.place; mark = item.payload.stand.mark }

abbrev pub placed_of : Member → Placed
placed_of member = placed_in member.1

abbrev pub number_in : Placed → ℕ
number_in placed = placed.view.number

-- the moment from which on the object isn't in time
abbrev pub end_of : Object → ℤ
end_of object =
    let timing = timing_of object in
    (timing.origin +ℤ timing.ttl) +ℤ (timing.grace +ℤ timing.keep)

-- the object among those by xkey
abbrev pub tagged_of : Member → ℕ × List (List ℕ)
tagged_of member = (member.0, xkeys_of member.1.view.object)

-- the object among those by use
abbrev pub used_of : Member → Used
used_of member =
    (member.1.payload.used, record { handle = member.0; size = size_of member.1.view.object; end = end_of member.1.view.object })

-- the object of the number
abbrev pub at_number : ℕ → List Member → Option Member
at_number number members = find (λ member. has_number number member.1) members

-- what the lazy cache keeps
abbrev pub lazy_of : List Member → Bans → Lazy
lazy_of members bans = record { issued = bans.issued; lines = bans.lines; objects = map placed_of members }
