-- How an object looked before the lurker: as it was stored, with its lifetime ended by the soft purges that came before the
-- next ban on objects alone (Varnish Users Guide, "Purging and banning", on the ban lurker; vmod_xkey, "softpurge").
use Rattle.std.specs.Prelude.{ℕ, Bool, not, ◌&&◌, ◌==◌, nat_lt, List, [], ◌∷◌, Option, Some, find, if◌then◌else◌}
use Rattle.std.specs.List.{list_any}
use Rattle.std.specs.Option.{option_map, option_or}
use Rattle.std.specs.Str.{bytes_eq}
use Rattle.cache_law.specs.declared.object.Object.{Object}
use Rattle.cache_law.specs.declared.ban.Issued.{Issued}
use Rattle.cache_law.specs.declared.call.Call.{Call}
use Rattle.cache_law.specs.declared.call.Call.TheVariants.{Insert, Xkey}
use Rattle.cache_law.specs.declared.call.Reply.{Reply}
use Rattle.cache_law.specs.declared.call.Reply.TheVariants.{Stored}
use Rattle.cache_law.specs.declared.call.Entry.{Entry}
use Rattle.cache_law.specs.declared.setting.Params.{Params}
use Rattle.cache_law.specs.Object.{in_time}
use Rattle.cache_law.specs.Bans.{object_only}
use Rattle.cache_law.specs.Purges.{softened, xkeys_of}
use Rattle.cache_law.specs.State.{State, Held}
use Rattle.cache_law.specs.Beginning.{Beginning}
use Rattle.cache_law.specs.History.{next_state}

-- the ban looks at objects alone
abbrev pub is_alone : Issued → Bool
is_alone issued = object_only issued.ban

-- such a ban is newer than the mark
abbrev pub is_above : ℕ → Issued → Bool
is_above mark issued = nat_lt mark issued.number && is_alone issued

-- a ban on objects alone that is newer than the mark was issued
abbrev pub is_stopped : ℕ → State → Bool
is_stopped mark state = list_any (is_above mark) state.bans

-- the object has one of the xkeys
abbrev pub is_tagged : List (List ℕ) → Object → Bool
is_tagged keys object = list_any (λ own. list_any (bytes_eq own) keys) (xkeys_of object)

-- what a soft purge at the moment makes of an object
abbrev pub softened_at : ℕ → List (List ℕ) → Object → Object
softened_at moment keys object = if in_time moment object && is_tagged keys object then softened moment object else object

-- what is known of the object of the number behind a call: an insertion stores it, and a soft purge softens it until bans stop that
abbrev pub known_by : ℕ → Bool → ℕ → Call → Reply → Option Object → Option Object
known_by number stopped moment (Insert token object stale) (Stored stored) known = if stored == number then option_or known (Some object) else known
known_by number stopped moment (Xkey keys soft) reply known = if soft && not stopped then option_map (softened_at moment keys) known else known
known_by number stopped moment call reply known = known

-- the same behind all entries that follow a state
abbrev pub known_behind : Params → ℕ → ℕ → State → Option Object → List Entry → Option Object
known_behind params number mark state known [] = known
known_behind params number mark state known (entry ∷ entries) =
    known_behind params number mark (next_state params state entry) (known_by number (is_stopped mark state) entry.moment entry.call entry.reply known) entries

-- the object of the number among those that are held
abbrev pub held_under : ℕ → List Held → Option Object
held_under number objects = option_map (λ held. held.view.object) (find (λ held. held.view.number == number) objects)

-- How the object of the number looks at the mark, which is the number of a ban: as the history stored it, or as it was there
-- at the beginning, and as soft purges left it up to the first ban on objects alone that is newer than the mark.
abbrev pub look_of : Beginning → List Entry → ℕ → ℕ → Option Object
look_of beginning entries number mark =
    known_behind beginning.params number mark beginning.base (held_under number beginning.base.objects) entries
