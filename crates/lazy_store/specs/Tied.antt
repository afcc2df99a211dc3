-- The containers are of the same objects.
use Rattle.std.specs.Prelude.{◌≡◌, ◌≤◌, ◌<◌, ◌+◌, ◌^◌, ◌⊎◌, ⊤, ℕ, false, nat_eq, nat_lt, List, [], ◌∷◌, map, sum_by}
use Rattle.std.specs.List.{list_any, AllByRecursion}
use Rattle.cache_law.specs.ShownBans.{those_open}
use Rattle.ban_lurker.specs.Looks.{is_above}
use Rattle.room_lru.specs.Members.{Used}
use Rattle.ban_list.specs.Bans.{Bans}
use Rattle.ban_list.specs.Stands.{AreAt}
use Rattle.lazy_law.specs.Sweeping.{count_unswept}
use Rattle.lazy_store.specs.Members.{Member, handle_of, lazy_of, number_of, stand_of, tagged_of, use_of, used_of}

module _ {X : Type 0} where
  -- no two have one number
  abbrev pub AreApart : (X → ℕ) → List X → Type 0
  AreApart number [] = ⊤
  AreApart number (x ∷ xs) = AllByRecursion (λ other. nat_eq (number x) (number other) ≡ false) xs × AreApart number xs

  -- one list is another in any order: whatever is summed up over both is the same
  abbrev pub AreAlike : List X → List X → Type 0
  AreAlike one other = (weight : X → ℕ) → sum_by weight one ≡ sum_by weight other

-- The handle is a number of 64 bits, and so low that whatever is stored later has a lower one.
pub record IsAhead (member : Member) : Type 0 where
  pub fits : handle_of member < 2 ^ 64
  pub low : 2 ^ 64 ≤ handle_of member + use_of member + 1

-- it was tested on no more bans than were issued
pub record IsWithin (issued : ℕ) (member : Member) : Type 0 where
  pub place : (stand_of member).place ≤ issued
  pub mark : (stand_of member).mark ≤ issued

-- No object waits for the lurker, or those do whose mark is below this number.
abbrev pub IsNewestAlone : Bans → ℕ → ℕ → Type 0
IsNewestAlone bans unswept newest =
    (unswept ≡ 0) ⊎ ((mark : ℕ) → list_any (is_above mark) (those_open bans.lines) ≡ nat_lt mark newest)

-- Each container has all of the members, and nothing else: by xkey in the same order, by use in another, and among the bans by
-- where they stand. So many of them wait for the lurker.
pub record AreTied (members : List Member) (tagged : List (ℕ × List (List ℕ))) (room : List Used) (bans : Bans) (newest unswept : ℕ) : Type 0 where
  pub handles : AreApart handle_of members
  pub numbers : AreApart number_of members
  pub uses : AreApart use_of members
  pub ahead : AllByRecursion IsAhead members
  pub within : AllByRecursion (IsWithin bans.issued) members
  pub tagged_ : tagged ≡ map tagged_of members
  pub room_ : AreAlike room (map used_of members)
  pub stands : AreAt bans (map stand_of members)
  pub waiting : unswept ≡ count_unswept (lazy_of members bans)
  pub alone : IsNewestAlone bans unswept newest
