-- What a lookup's scan sees in the objects in memory, and what becomes of them.
use Rattle.std.specs.Prelude.{ℕ, Bool, true, false, List, [], ◌∷◌, ◌++◌, ◌&&◌, ◌==◌, Some, None, if◌then◌else◌}
use Rattle.std.specs.List.{list_any}
use Rattle.std.specs.Option.{option_or}
use Rattle.cache_law.specs.declared.object.Object.{Object}
use Rattle.cache_law.specs.declared.ban.Issued.{Issued}
use Rattle.cache_law.specs.declared.call.Query.{Query}
use Rattle.cache_law.specs.declared.call.RequestView.{RequestView}
use Rattle.cache_law.specs.Object.{in_time, key_of, same_texts, can_confirm}
use Rattle.cache_law.specs.Bans.{meets}
use Rattle.cache_law.specs.Lookup.{first_of, is_chosen_by, is_fresh, is_in_grace}
use Rattle.flat_core.specs.declared.stored_object.StoredObject.{StoredObject}
use Rattle.flat_core.specs.declared.stored_object.Fate.{Fate}
use Rattle.flat_core.specs.declared.stored_object.Fate.TheVariants.{Stays, Tested, Goes}
use Rattle.flat_core.specs.declared.matching.LookupMatch.{LookupMatch}
use Rattle.flat_core.specs.declared.matching.LookupMatch.TheVariants.{Other, Banned, Unfit, Aged, Fresh}
use Rattle.flat_core.specs.declared.scan.Seen.{Seen}
use Rattle.flat_core.specs.StoredObject.{is_waiting, since}

-- the ban waits for lookups and matches the object with the request
abbrev pub is_struck : Object → RequestView → Issued → Bool
is_struck object request issued = is_waiting issued && meets object request issued

abbrev pub fit_sight : ℕ → Query → Object → LookupMatch
fit_sight now query object = if is_chosen_by query object then (if is_fresh now query.options object then Fresh else Aged) else Unfit

-- where it is in time and of the key
abbrev pub our_sight : ℕ → Query → List Issued → StoredObject → LookupMatch
our_sight now query bans kept =
    if list_any (is_struck kept.view.object query.request) (since kept.tested bans)
    then Banned
    else fit_sight now query kept.view.object

abbrev pub sight_of : ℕ → Query → List Issued → StoredObject → LookupMatch
sight_of now query bans kept =
    if in_time now kept.view.object && same_texts (key_of kept.view.object) query.key then our_sight now query bans kept else Other

-- the scan ends here
abbrev pub is_end : LookupMatch → Bool
is_end Other = false
is_end Banned = false
is_end Unfit = false
is_end Aged = false
is_end Fresh = true

-- what becomes of an object that was tested on all bans, of which so many were issued
abbrev pub tested_fate : ℕ → StoredObject → Fate
tested_fate count kept = if kept.tested == count then Stays else Tested

abbrev pub fate_of : ℕ → LookupMatch → StoredObject → Fate
fate_of count Other kept = Stays
fate_of count Banned kept = Goes
fate_of count sight kept = tested_fate count kept

abbrev pub nothing_seen : Seen
nothing_seen = record { fresh = None; grace = None; stale = None; fates = [] }

-- what a scan sees that comes to an object and then sees this
abbrev pub seeing : ℕ → Query → ℕ → LookupMatch → StoredObject → Seen → Seen
seeing now query count Aged kept later =
    record {
      fresh = later.fresh;
      grace = first_of (is_in_grace now query.options kept.view.object) kept.view later.grace;
      stale = first_of (can_confirm kept.view.object) kept.view later.stale;
      fates = fate_of count Aged kept ∷ later.fates;
    }
seeing now query count Fresh kept later =
    record { fresh = Some kept.view; grace = None; stale = None; fates = fate_of count Fresh kept ∷ [] }
seeing now query count sight kept later = record later { fates = fate_of count sight kept ∷ later.fates }

abbrev pub seen_all : ℕ → Query → ℕ → List Issued → List StoredObject → Seen
seen_all now query issued bans [] = nothing_seen
seen_all now query issued bans (kept ∷ objects) =
    seeing now query issued (sight_of now query bans kept) kept (seen_all now query issued bans objects)

-- what a scan sees that saw this first and then that
abbrev pub joined : Seen → Seen → Seen
joined seen later =
    record {
      fresh = option_or seen.fresh later.fresh;
      grace = option_or seen.grace later.grace;
      stale = option_or seen.stale later.stale;
      fates = seen.fates ++ later.fates;
    }
