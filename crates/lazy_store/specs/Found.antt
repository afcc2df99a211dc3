-- What is found of a member by its object's number.
use Rattle.std.specs.Prelude.{ℕ, Bool, ◌&&◌, nat_lt, List, Option, None, Some, option_map}
use Rattle.object_heads.specs.Members.{has_number}
use Rattle.lazy_store.specs.declared.finding.Found.{Found}
use Rattle.lazy_store.specs.Members.{Member, at_number, stand_of, use_of}

abbrev pub found_in : Member → Found
found_in member = record { handle = member.0; placement = member.1.payload }

-- the object has this number, and its mark is below the other
abbrev pub is_marked_below : ℕ → ℕ → Member → Bool
is_marked_below number newest member = has_number number member.1 && nat_lt (stand_of member).mark newest

-- the place at which the object of the number, if one is given, was used last
abbrev pub last_use : Option ℕ → List Member → Option ℕ
last_use None members = None
last_use (Some number) members = option_map use_of (at_number number members)
