-- What a lookup's walk over the objects of its key sees in each.
use Rattle.std.specs.Prelude.{ℕ, Bool, true, false, List, [], ◌∷◌, ◌++◌, Option, None, Some, find, if◌then◌else◌}
use Rattle.std.specs.Option.{option_map_or, option_or}
use Rattle.cache_law.specs.declared.object.Object.{Object}
use Rattle.cache_law.specs.declared.object.ObjectView.{ObjectView}
use Rattle.cache_law.specs.declared.call.Query.{Query}
use Rattle.cache_law.specs.Object.{can_confirm, in_time}
use Rattle.cache_law.specs.Lookup.{first_of, is_chosen_by, is_fresh, is_in_grace}
use Rattle.cache_frame.specs.declared.seen.Seen.{Seen}
use Rattle.lazy_law.specs.Placed.{Lazy, Placed, kept_bans}
use Rattle.lazy_law.specs.Insertion.{has_number}
use Rattle.lazy_law.specs.Scan.{is_struck}
use Rattle.lazy_lookup.specs.declared.marks.Marks.{Marks}
use Rattle.lazy_lookup.specs.declared.sight.Sight.{Sight}
use Rattle.lazy_lookup.specs.declared.sight.Sight.TheVariants.{Past, Struck, Unfit, Aged, Fresh}

abbrev pub fit_sight : ℕ → Query → Object → Sight
fit_sight moment query object = if is_chosen_by query object then (if is_fresh moment query.options object then Fresh else Aged) else Unfit

-- in an object of the key
abbrev pub sight_of : ℕ → Query → Lazy → Placed → Sight
sight_of moment query lazy placed =
    if in_time moment placed.view.object
    then (if is_struck (kept_bans lazy) query placed then Struck else fit_sight moment query placed.view.object)
    else Past

-- the walk ends here
abbrev pub is_end : Sight → Bool
is_end Past = false
is_end Struck = false
is_end Unfit = false
is_end Aged = false
is_end Fresh = true

abbrev pub no_marks : Marks
no_marks = record { gone = []; tested = [] }

abbrev pub nothing_seen : Seen Marks
nothing_seen = record { fresh = None; grace = None; stale = None; marks = no_marks }

abbrev pub with_tested : ℕ → Marks → Marks
with_tested number marks = record marks { tested = number ∷ marks.tested }

-- what is seen by a walk that sees this in an object, and then that
abbrev pub seeing : ℕ → Query → Sight → ObjectView → Seen Marks → Seen Marks
seeing moment query Past view later = later
seeing moment query Struck view later = record later { marks = record later.marks { gone = view.number ∷ later.marks.gone } }
seeing moment query Unfit view later = record later { marks = with_tested view.number later.marks }
seeing moment query Aged view later =
    record {
      fresh = later.fresh;
      grace = first_of (is_in_grace moment query.options view.object) view later.grace;
      stale = first_of (can_confirm view.object) view later.stale;
      marks = with_tested view.number later.marks;
    }
seeing moment query Fresh view later = record { fresh = Some view; grace = None; stale = None; marks = with_tested view.number no_marks }

-- what is seen at first, and what later
abbrev pub joined : Seen Marks → Seen Marks → Seen Marks
joined seen later =
    record {
      fresh = option_or seen.fresh later.fresh;
      grace = option_or seen.grace later.grace;
      stale = option_or seen.stale later.stale;
      marks = record { gone = seen.marks.gone ++ later.marks.gone; tested = seen.marks.tested ++ later.marks.tested };
    }

-- the object that has a number, where there is one
abbrev pub at_number : ℕ → Lazy → Option Placed
at_number number lazy = find (has_number number) lazy.objects

abbrev pub seeing_there : ℕ → Query → Lazy → Option Placed → Seen Marks → Seen Marks
seeing_there moment query lazy None later = later
seeing_there moment query lazy (Some placed) later = seeing moment query (sight_of moment query lazy placed) placed.view later

abbrev pub ends_there : ℕ → Query → Lazy → Option Placed → Bool
ends_there moment query lazy there = option_map_or (λ placed. is_end (sight_of moment query lazy placed)) there false

-- what is seen in the objects of these numbers
abbrev pub seen_all : ℕ → Query → Lazy → List ℕ → Seen Marks
seen_all moment query lazy [] = nothing_seen
seen_all moment query lazy (number ∷ numbers) = seeing_there moment query lazy (at_number number lazy) (seen_all moment query lazy numbers)
