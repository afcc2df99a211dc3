-- What a cache keeps that tests its objects on bans later than the law does, and what the law sees of it (Varnish Users Guide,
-- "Purging and banning", on bans, their list and the ban lurker).
use Rattle.std.specs.Prelude.{ℕ, Bool, not, ◌&&◌, nat_lt, List, [], map, filter}
use Rattle.std.specs.List.{list_any}
use Rattle.cache_law.specs.declared.object.ObjectView.{ObjectView}
use Rattle.cache_law.specs.declared.ban.Issued.{Issued}
use Rattle.cache_law.specs.declared.ban.BanLine.{BanLine}
use Rattle.cache_law.specs.declared.call.RequestView.{RequestView}
use Rattle.cache_law.specs.Object.{in_time}
use Rattle.cache_law.specs.Bans.{matches, meets}
use Rattle.cache_law.specs.ShownBans.{those_open}
use Rattle.cache_law.specs.State.{Held}
use Rattle.ban_lurker.specs.Looks.{is_above, is_alone}

-- A stored object, the place in the history of the entry that used it last, and two numbers of bans: each ban up to the one was tested
-- on it with a request, or was issued before it was stored; the other says the same of bans on objects alone.
pub record Placed : Type 0 where
  pub view : ObjectView
  pub used : ℕ
  pub place : ℕ
  pub mark : ℕ

-- Beside what every cache keeps: how many bans were issued, the lines of those that are kept, and the objects, each with the newest
-- first. A line is completed where a newer one has an equal ban.
pub record Lazy : Type 0 where
  pub issued : ℕ
  pub lines : List BanLine
  pub objects : List Placed

-- nothing is kept
abbrev pub nothing_kept : Lazy
nothing_kept = record { issued = 0; lines = []; objects = [] }

-- the bans that objects are tested on
abbrev pub kept_bans : Lazy → List Issued
kept_bans lazy = those_open lazy.lines

-- the bans on objects alone that are newer than the mark
abbrev pub above : ℕ → List Issued → List Issued
above mark bans = filter (is_above mark) bans

-- a ban on requests is newer than the place
abbrev pub is_since : ℕ → Issued → Bool
is_since place issued = nat_lt place issued.number && not (is_alone issued)

-- the bans on requests that are newer than the place
abbrev pub since : ℕ → List Issued → List Issued
since place bans = filter (is_since place) bans

-- a ban on objects alone that it wasn't tested on matches the object
abbrev pub is_dead : List Issued → Placed → Bool
is_dead bans placed = list_any (matches placed.view.object) (above placed.mark bans)

-- a ban that it wasn't tested on matches the object with the request
abbrev pub is_met : List Issued → RequestView → Placed → Bool
is_met bans request placed = list_any (meets placed.view.object request) (since placed.place bans)

-- there are bans on objects alone that it wasn't tested on
abbrev pub is_unswept : List Issued → Placed → Bool
is_unswept bans placed = list_any (is_above placed.mark) bans

-- it is in time and not dead
abbrev pub is_alive : ℕ → List Issued → Placed → Bool
is_alive moment bans placed = in_time moment placed.view.object && not (is_dead bans placed)

abbrev pub those_alive : ℕ → List Issued → List Placed → List Placed
those_alive moment bans objects = filter (is_alive moment bans) objects

-- the object as the law holds it
abbrev pub held_of : List Issued → Placed → Held
held_of bans placed = record { view = placed.view; used = placed.used; pending = since placed.place bans }

-- the objects as the law holds them, where these bans were issued
abbrev pub seen : ℕ → List Issued → List Placed → List Held
seen moment bans objects = map (held_of bans) (those_alive moment bans objects)

-- the object once it was tested on all bans, of which so many were issued
abbrev pub tested_at : ℕ → Placed → Placed
tested_at issued placed = record placed { place = issued; mark = issued }

-- the object once it was tested on all bans on objects alone up to a number
abbrev pub marked_at : ℕ → Placed → Placed
marked_at number placed = record placed { mark = number }

-- those that are alive, once they were tested on all bans on objects alone
abbrev pub tidied : ℕ → List Issued → ℕ → List Placed → List Placed
tidied moment bans issued objects = map (marked_at issued) (those_alive moment bans objects)
