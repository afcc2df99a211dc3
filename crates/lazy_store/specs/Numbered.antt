-- Objects by their numbers, of which no two have one.
use Rattle.std.specs.Prelude.{ℕ, Bool, false, not, nat_eq, List, Option, filter, filter_map, find, map, option_map, if◌then◌else◌}
use Rattle.std.specs.List.{list_any}
use Rattle.std.specs.Map.{lookup}
use Rattle.std.specs.Option.{option_map_or}
use Rattle.lazy_law.specs.Placed.{Lazy, Placed, is_alive, kept_bans, tested_at}
use Rattle.lazy_law.specs.Insertion.{has_number}
use Rattle.lazy_store.specs.Members.{Member, number_in}

-- the numbers of the objects that pass a test
abbrev pub numbers_where : (Placed → Bool) → List Placed → List ℕ
numbers_where test objects = map number_in (filter test objects)

-- the number of the object of the handle
abbrev pub number_at : List Member → ℕ → Option ℕ
number_at members handle = option_map (λ item. item.view.number) (lookup (nat_eq handle) members)

abbrev pub numbers_at : List Member → List ℕ → List ℕ
numbers_at members handles = filter_map (number_at members) handles

-- the object has one of the numbers
abbrev pub is_one_of : List ℕ → Placed → Bool
is_one_of numbers placed = list_any (λ number. has_number number placed) numbers

-- the objects of these numbers are gone
abbrev pub without_all : List ℕ → Lazy → Lazy
without_all numbers lazy = record lazy { objects = filter (λ placed. not (is_one_of numbers placed)) lazy.objects }

-- the objects of these numbers count as tested on all bans
abbrev pub testing_all : List ℕ → ℕ → Placed → Placed
testing_all numbers issued placed = if is_one_of numbers placed then tested_at issued placed else placed

abbrev pub tested_all : List ℕ → Lazy → Lazy
tested_all numbers lazy = record lazy { objects = map (testing_all numbers lazy.issued) lazy.objects }

-- the object of the number is in time and not dead
abbrev pub is_alive_at : ℕ → Lazy → ℕ → Bool
is_alive_at moment lazy number = option_map_or (is_alive moment (kept_bans lazy)) (find (has_number number) lazy.objects) false
