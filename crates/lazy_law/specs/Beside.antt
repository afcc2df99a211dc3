-- Entries that leave what is kept as it was, and lookups that were told what they use by the one who answers them.
use Rattle.std.specs.Prelude.{ℕ, Bool, true, false, List, Option, Some, None}
use Rattle.cache_law.specs.declared.call.Call.{Call}
use Rattle.cache_law.specs.declared.call.Call.TheVariants.{Insert, Xkey}
use Rattle.cache_law.specs.declared.call.Query.{Query}
use Rattle.cache_law.specs.declared.call.Reply.{Reply}
use Rattle.cache_law.specs.declared.call.Reply.TheVariants.{Stored}
use Rattle.cache_law.specs.Lookup.{counted, touched}
use Rattle.cache_law.specs.State.{Held}
use Rattle.lazy_law.specs.Placed.{Lazy, Placed, kept_bans}
use Rattle.lazy_law.specs.Scan.{counted_late, scanned_late, touched_late}

-- the call stores no object, and softens none
abbrev pub is_beside : Call → Reply → Bool
is_beside (Insert token object stale) (Stored stored) = false
is_beside (Xkey keys soft) reply = false
is_beside call reply = true

-- the objects, of which that of the number, where there is one, has one more hit; and of which it was used
abbrev pub counted_for : ℕ → Option ℕ → List Held → List Held
counted_for place None objects = objects
counted_for place (Some number) objects = counted place number objects

abbrev pub touched_for : ℕ → Option ℕ → List Held → List Held
touched_for place None objects = objects
touched_for place (Some number) objects = touched place number objects

-- the same of those that are stored
abbrev pub counted_for_late : ℕ → Option ℕ → List Placed → List Placed
counted_for_late place None objects = objects
counted_for_late place (Some number) objects = counted_late place number objects

abbrev pub touched_for_late : ℕ → Option ℕ → List Placed → List Placed
touched_for_late place None objects = objects
touched_for_late place (Some number) objects = touched_late place number objects

-- what a lookup at the moment leaves that used these at the place of the history
abbrev pub looked_late : ℕ → Query → ℕ → Option ℕ → Option ℕ → Lazy → Lazy
looked_late moment query place hit marker lazy =
    record lazy {
      objects = touched_for_late place marker (counted_for_late place hit (scanned_late moment query (kept_bans lazy) lazy.issued lazy.objects).objects);
    }
