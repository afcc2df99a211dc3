-- What a lookup sees, and what it leaves.
use Rattle.std.specs.Prelude.{◌≡◌, ℕ, not, List, Option, None, Some, filter, map, if◌then◌else◌}
use Rattle.cache_law.specs.declared.call.Query.{Query}
use Rattle.cache_law.specs.Lookup.{Scan}
use Rattle.cache_frame.specs.declared.seen.Use.{Use}
use Rattle.cache_frame.specs.declared.seen.Use.TheVariants.{Nothing, Hit, Marker}
use Rattle.lazy_law.specs.Beside.{counted_for_late, touched_for_late}
use Rattle.lazy_law.specs.Placed.{Lazy, Placed, kept_bans, tested_at}
use Rattle.lazy_law.specs.Scan.{scanned_late}
use Rattle.lazy_store.specs.Numbered.{is_one_of}
use Rattle.lazy_lookup.specs.declared.marks.Marks.{Marks}

-- the scan of a lookup at the moment
abbrev pub scan_of : ℕ → Query → Lazy → Scan Placed
scan_of moment query lazy = scanned_late moment query (kept_bans lazy) lazy.issued lazy.objects

-- the object, tested on all bans where the marks say so
abbrev pub marking : Marks → ℕ → Placed → Placed
marking marks issued placed = if is_one_of marks.tested placed then tested_at issued placed else placed

-- the objects once what the marks say is done
abbrev pub marked_by : Marks → ℕ → List Placed → List Placed
marked_by marks issued objects = map (marking marks issued) (filter (λ placed. not (is_one_of marks.gone placed)) objects)

-- the marks are of the lookup: they leave what its scan leaves
abbrev pub AreMarksOf : ℕ → Query → Lazy → Marks → Type 0
AreMarksOf moment query lazy marks = marked_by marks lazy.issued lazy.objects ≡ (scan_of moment query lazy).objects

-- the number of what is used, where its hit is counted, and where none is
abbrev pub hit_in : Use → Option ℕ
hit_in Nothing = None
hit_in (Hit number) = Some number
hit_in (Marker number) = None

abbrev pub marker_in : Use → Option ℕ
marker_in Nothing = None
marker_in (Hit number) = None
marker_in (Marker number) = Some number

-- what is left once something is used at this place of the history
abbrev pub used_in : ℕ → Use → List Placed → List Placed
used_in place use_ objects = touched_for_late place (marker_in use_) (counted_for_late place (hit_in use_) objects)

-- what is left once what the marks say is done, and something is used
abbrev pub taken : ℕ → Use → Marks → Lazy → Lazy
taken place use_ marks lazy = record lazy { objects = used_in place use_ (marked_by marks lazy.issued lazy.objects) }
