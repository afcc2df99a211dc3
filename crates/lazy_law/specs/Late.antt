-- What each call answers over what a cache keeps that tests its objects on bans later, and what it leaves of that.
use Rattle.std.specs.Prelude.{ℕ, Bool, List, [], Option, None, if◌then◌else◌}
use Rattle.cache_law.specs.declared.object.Object.{Object}
use Rattle.cache_law.specs.declared.call.Query.{Query}
use Rattle.cache_law.specs.declared.call.Call.{Call}
use Rattle.cache_law.specs.declared.call.Call.TheVariants.{Lookup, Insert, Ban, BanList, Purge, Xkey}
use Rattle.cache_law.specs.declared.call.Reply.{Reply}
use Rattle.cache_law.specs.declared.call.Entry.{Entry}
use Rattle.cache_law.specs.declared.call.Reply.TheVariants.{NoRound, Stored, NotOpen, StaleGone, NotInTime, NoRoom, Banned, Bans, Purged}
use Rattle.cache_law.specs.Object.{in_time, size_of}
use Rattle.cache_law.specs.Lookup.{Scan}
use Rattle.cache_law.specs.State.{State, at_moment, has_round, has_fetch}
use Rattle.cache_law.specs.Law.{answered, found, missed}
use Rattle.lazy_law.specs.Placed.{Lazy, Placed, kept_bans}
use Rattle.lazy_law.specs.Scan.{scanned_late, used_late}
use Rattle.lazy_law.specs.Purging.{count_alive, is_of_key, is_of_xkeys, without_late, xkey_late}
use Rattle.lazy_law.specs.Insertion.{has_no_room_late, is_gone_late, others_late, stored_late}
use Rattle.lazy_law.specs.Banning.{banned_late}

-- a reply, and what is kept behind it
pub record LateStep : Type 0 where
  pub reply : Reply
  pub lazy : Lazy

-- what the law's state has beside bans and objects
abbrev pub desk_of : State → State
desk_of state = record state { issued = 0; bans = []; objects = [] }

abbrev pub leaving_late : Lazy → Reply → LateStep
leaving_late lazy reply = record { reply = reply; lazy = lazy }

abbrev pub found_late : State → ℕ → Query → Lazy → Scan Placed → LateStep
found_late desk caller query lazy scan =
    record {
      reply = (found desk caller query scan.fresh scan.grace scan.stale).reply;
      lazy = record lazy { objects = used_late desk.entries scan };
    }

abbrev pub sought_late : State → ℕ → Query → Lazy → LateStep
sought_late desk caller query lazy =
    if query.options.always_miss
    then leaving_late lazy (missed desk caller query.key None).reply
    else found_late desk caller query lazy (scanned_late desk.moment query (kept_bans lazy) lazy.issued lazy.objects)

abbrev pub looked_up_late : State → ℕ → Query → Lazy → LateStep
looked_up_late desk caller query lazy =
    if has_round desk.rounds caller then sought_late desk caller query lazy else leaving_late lazy NoRound

abbrev pub stored_step : ℕ → State → ℕ → Object → Option ℕ → Lazy → LateStep
stored_step room desk token object stale lazy =
    record {
      reply = Stored token;
      lazy = record lazy { objects = stored_late room desk.moment desk.entries (kept_bans lazy) lazy.issued token object stale lazy.objects };
    }

abbrev pub placed_late : ℕ → State → ℕ → Object → Option ℕ → Lazy → LateStep
placed_late room desk token object stale lazy =
    if in_time desk.moment object
    then (if has_no_room_late room (size_of object) desk.moment (kept_bans lazy) lazy.issued (others_late stale lazy.objects)
    then leaving_late lazy NoRoom
    else stored_step room desk token object stale lazy)
    else leaving_late lazy NotInTime

abbrev pub handed_late : ℕ → State → ℕ → Object → Option ℕ → Lazy → LateStep
handed_late room desk token object stale lazy =
    if is_gone_late desk.moment (kept_bans lazy) stale lazy.objects
    then leaving_late lazy StaleGone
    else placed_late room desk token object stale lazy

abbrev pub inserted_late : ℕ → State → ℕ → ℕ → Object → Option ℕ → Lazy → LateStep
inserted_late room desk caller token object stale lazy =
    if has_fetch desk.fetches caller token then handed_late room desk token object stale lazy else leaving_late lazy NotOpen

abbrev pub purged_late : State → List (List ℕ) → Lazy → LateStep
purged_late desk key lazy =
    record {
      reply = Purged (count_alive desk.moment (kept_bans lazy) (is_of_key key) lazy.objects);
      lazy = record lazy { objects = without_late (is_of_key key) lazy.objects };
    }

abbrev pub purged_by_late : State → List (List ℕ) → Bool → Lazy → LateStep
purged_by_late desk keys soft lazy =
    record {
      reply = Purged (count_alive desk.moment (kept_bans lazy) (is_of_xkeys keys) lazy.objects);
      lazy = record lazy { objects = xkey_late desk.moment keys soft (kept_bans lazy) lazy.issued lazy.objects };
    }

-- What a call is answered at a desk as it is at the call's moment, with this room for objects, and what it leaves of what is kept. Any
-- other call has nothing to do with that.
abbrev pub answered_late : ℕ → State → ℕ → Call → Lazy → LateStep
answered_late room desk caller (Lookup query) lazy = looked_up_late desk caller query lazy
answered_late room desk caller (Insert token object stale) lazy = inserted_late room desk caller token object stale lazy
answered_late room desk caller (Ban ban) lazy = record { reply = Banned; lazy = banned_late desk.moment ban lazy }
answered_late room desk caller BanList lazy = leaving_late lazy (Bans lazy.lines)
answered_late room desk caller (Purge key) lazy = purged_late desk key lazy
answered_late room desk caller (Xkey keys soft) lazy = purged_by_late desk keys soft lazy
answered_late room desk caller call lazy = leaving_late lazy (answered room desk caller call).reply

-- the entry of a call that is answered so, in a state
abbrev pub late_entry : ℕ → State → ℕ → ℕ → Call → Lazy → Entry
late_entry room state caller moment call lazy =
    record { caller = caller; moment = moment; call = call; reply = (answered_late room (desk_of (at_moment moment state)) caller call lazy).reply }
