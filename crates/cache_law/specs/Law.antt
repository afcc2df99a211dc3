-- What each call answers together with the state that it leaves, and what may be answered in its place.
use Rattle.std.specs.Prelude.{◌≡◌, ◌≢◌, ◌⊎◌, ℕ, Bool, true, false, List, ◌∷◌, ◌+◌, ◌==◌, Option, Some, None, if◌then◌else◌}
use Rattle.std.specs.List.{list_any}
use Rattle.std.specs.Str.{bytes_eq}
use Rattle.cache_law.specs.declared.setting.Params.{Params}
use Rattle.cache_law.specs.declared.object.Object.{Object}
use Rattle.cache_law.specs.declared.object.Object.TheVariants.{Ordinary, HitForMiss, HitForPass}
use Rattle.cache_law.specs.declared.object.ObjectView.{ObjectView}
use Rattle.cache_law.specs.declared.call.Query.{Query}
use Rattle.cache_law.specs.declared.call.Call.{Call}
use Rattle.cache_law.specs.declared.call.Call.TheVariants.{Begin, Draw, Lookup, Pick, Insert, Ban, BanList, Purge, Xkey, SetHealth, Load, Switch, Discard, VclList, Drop, End}
use Rattle.cache_law.specs.declared.call.Reply.{Reply}
use Rattle.cache_law.specs.declared.call.Reply.TheVariants.{Began, NoRound, Drawn, Hit, HitMiss, HitPass, Grace, Wait, Miss, Picked, Stored, NotOpen, StaleGone, NotInTime, NoRoom, Refused, Banned, Bans, Purged, HealthSet, Loaded, NameTaken, Switched, NoVcl, Discarded, IsActive, Vcls, Dropped, Ended}
use Rattle.cache_law.specs.declared.ban.Ban.{Ban as BanWords}
use Rattle.cache_law.specs.declared.ban.Issued.{Issued}
use Rattle.cache_law.specs.ShownBans.{ShowsBans}
use Rattle.cache_law.specs.BansAtOnce.{issued_behind, ban_over, open_lines}
use Rattle.directors.specs.declared.target.Target.{Target}
use Rattle.cache_law.specs.declared.vcl.Health.{Health}
use Rattle.cache_law.specs.declared.vcl.Vcl.{Vcl}
use Rattle.cache_law.specs.declared.vcl.VclSource.{VclSource}
use Rattle.cache_law.specs.declared.vcl.LoadedVcl.{LoadedVcl}
use Rattle.cache_law.specs.Purges.{count_of, has_key, without_key, has_xkey, xkey_over}
use Rattle.cache_law.specs.Targets.{with_health, chosen, counted_on, name_at}
use Rattle.cache_law.specs.Vcls.{is_taken, called, numbered, with_vcl, without_vcl, those_staying, vcl_lines}
use Rattle.cache_law.specs.Object.{in_time, size_of}
use Rattle.cache_law.specs.State.{State, Held, at_moment, has_round, has_fetch, least_token, with_wait, without_fetch, without_fetches_of, without_round_of, is_gone, without_stale}
use Rattle.cache_law.specs.Room.{has_no_room, stored_over}
use Rattle.cache_law.specs.Lookup.{Scan, scanned, raised, counted, touched}

-- a reply, and the state behind it
pub record Step : Type 0 where
  pub reply : Reply
  pub state : State

-- the reply leaves the state as it is
abbrev pub leaving : State → Reply → Step
leaving state reply = record { reply = reply; state = state }

-- in the caller's open round; without one there is nothing to answer
abbrev pub in_round : State → ℕ → Step → Step
in_round state caller step = if has_round state.rounds caller then step else leaving state NoRound

-- Begin draws the round's number, and the round runs under the active VCL.
abbrev pub begun : State → ℕ → Step
begun state caller =
    if has_round state.rounds caller
    then leaving state NoRound
    else record {
      reply = Began state.next state.active.number state.active.text;
      state = record state {
        next = state.next + 1;
        rounds = record { caller = caller; vcl = state.active.number; waits = None } ∷ state.rounds;
      };
    }

-- Draw draws a number.
abbrev pub drawn : State → ℕ → Step
drawn state caller = in_round state caller (record { reply = Drawn state.next; state = record state { next = state.next + 1 } })

-- A token draws the next number, and opens a fetch of the key for the caller.
abbrev pub fetching : State → ℕ → List (List ℕ) → State
fetching state caller key =
    record state {
      next = state.next + 1;
      fetches = record { token = state.next; caller = caller; key = key } ∷ state.fetches;
    }

abbrev pub missed : State → ℕ → List (List ℕ) → Option ObjectView → Step
missed state caller key stale = record { reply = Miss state.next stale; state = fetching state caller key }

-- the object is used, and its hit is counted
abbrev pub with_hit : State → ObjectView → State
with_hit state view = record state { objects = counted state.entries view.number state.objects }

-- the marker is used
abbrev pub with_use : State → ObjectView → State
with_use state view = record state { objects = touched state.entries view.number state.objects }

-- what an object gives that is fresh: itself, or what it is a marker of
abbrev pub found_fresh : State → ℕ → List (List ℕ) → ObjectView → Object → Step
found_fresh state caller key view (Ordinary response) = leaving (with_hit state view) (Hit (raised view))
found_fresh state caller key view (HitForMiss marker) =
    record { reply = HitMiss state.next; state = fetching (with_use state view) caller key }
found_fresh state caller key view (HitForPass marker) = leaving (with_use state view) HitPass

-- An object in grace is given, with a token exactly where no fetch of the key is open.
abbrev pub found_grace : State → ℕ → List (List ℕ) → ObjectView → Option ℕ → Step
found_grace state caller key view None =
    record { reply = Grace (raised view) (Some state.next); state = fetching (with_hit state view) caller key }
found_grace state caller key view (Some open_) = leaving (with_hit state view) (Grace (raised view) None)

-- With no object to give, an open fetch of the key is waited for: that of the least token.
abbrev pub waited_or_missed : State → ℕ → List (List ℕ) → Option ObjectView → Option ℕ → Step
waited_or_missed state caller key stale None = missed state caller key stale
waited_or_missed state caller key stale (Some token) = leaving state (Wait token)

-- the fetch to wait for, unless the lookup ignores open ones
abbrev pub busy : Query → Option ℕ → Option ℕ
busy query token = if query.options.ignore_busy then None else token

-- without a fresh object
abbrev pub found_other : State → ℕ → Query → Option ObjectView → Option ObjectView → Step
found_other state caller query (Some view) stale = found_grace state caller query.key view (least_token query.key state.fetches)
found_other state caller query None stale = waited_or_missed state caller query.key stale (busy query (least_token query.key state.fetches))

-- what a scan leads to: its fresh object comes first, then the one in grace
abbrev pub found : State → ℕ → Query → Option ObjectView → Option ObjectView → Option ObjectView → Step
found state caller query (Some view) grace stale = found_fresh state caller query.key view view.object
found state caller query None grace stale = found_other state caller query grace stale

abbrev pub found_by : State → ℕ → Query → Scan Held → Step
found_by state caller query scan = found (record state { objects = scan.objects }) caller query scan.fresh scan.grace scan.stale

-- what a lookup gives in an open round; with always_miss no object is looked at
abbrev pub sought : State → ℕ → Query → Step
sought state caller query =
    if query.options.always_miss
    then missed state caller query.key None
    else found_by state caller query (scanned state.moment query state.objects)

-- the token that a reply tells its caller to wait for
abbrev pub wait_in : Reply → Option ℕ
wait_in (Wait token) = Some token
wait_in reply = None

-- the caller's round remembers whether its newest lookup was told to wait
abbrev pub remembered : ℕ → Step → Step
remembered caller step =
    record { reply = step.reply; state = record step.state { rounds = with_wait caller (wait_in step.reply) step.state.rounds } }

abbrev pub looked_up : State → ℕ → Query → Step
looked_up state caller query = in_round state caller (remembered caller (sought state caller query))

-- the reply closes the fetch
abbrev pub closing : ℕ → State → Reply → Step
closing token state reply = record { reply = reply; state = record state { fetches = without_fetch token state.fetches } }

-- the object stands first, in the stale one's place, those that it displaces are gone, and its fetch is closed
abbrev pub stored : ℕ → State → ℕ → Object → Option ℕ → Step
stored room state token object stale =
    closing token (record state { objects = stored_over room state.entries token object stale state.objects }) (Stored token)

-- the object has to be in time, and room for it to be there or to be made
abbrev pub placed : ℕ → State → ℕ → Object → Option ℕ → Step
placed room state token object stale =
    if in_time state.moment object
    then (if has_no_room room (size_of object) (without_stale stale state.objects)
    then closing token state NoRoom
    else stored room state token object stale)
    else closing token state NotInTime

-- An insertion of an open fetch; where the stale object is gone, the fetch stays open.
abbrev pub handed_over : ℕ → State → ℕ → Object → Option ℕ → Step
handed_over room state token object stale =
    if is_gone stale state.objects then leaving state StaleGone else placed room state token object stale

abbrev pub inserted : ℕ → State → ℕ → ℕ → Object → Option ℕ → Step
inserted room state caller token object stale =
    if has_fetch state.fetches caller token then handed_over room state token object stale else leaving state NotOpen

-- A ban is issued, and acts on the objects.
abbrev pub banned_by : State → Issued → Step
banned_by state issued =
    record {
      reply = Banned;
      state = record state { issued = state.issued + 1; bans = issued ∷ state.bans; objects = ban_over issued state.objects };
    }

abbrev pub banned : State → BanWords → Step
banned state ban = banned_by state (issued_behind state.issued state.moment ban)

-- A purge removes the objects of the key, and counts them.
abbrev pub purged : State → List (List ℕ) → Step
purged state key =
    record { reply = Purged (count_of (has_key key) state.objects); state = record state { objects = without_key key state.objects } }

-- A purge by xkeys removes or softens the objects that have one of them, and counts them.
abbrev pub purged_by : State → List (List ℕ) → Bool → Step
purged_by state keys soft =
    record {
      reply = Purged (count_of (has_xkey keys) state.objects);
      state = record state { objects = xkey_over state.moment keys soft state.objects };
    }

-- The member at the chosen place is picked, and its director goes on from there.
abbrev pub picked_at : State → ℕ → Target → Option ℕ → Step
picked_at state vcl target None = leaving state (Picked None)
picked_at state vcl target (Some place) =
    record {
      reply = Picked (name_at place target.members);
      state = record state { counters = counted_on target.kind vcl target.name place state.counters };
    }

abbrev pub picked : State → ℕ → Target → ℕ → Step
picked state vcl target word = picked_at state vcl target (chosen state.health state.counters vcl target word)

-- The health of a backend that the active VCL has is set.
abbrev pub health_set : State → List ℕ → Health → Step
health_set state backend given =
    if list_any (bytes_eq backend) state.active.backends
    then record { reply = HealthSet true; state = record state { health = with_health state.active.number backend given state.health } }
    else leaving state (HealthSet false)

-- A VCL is loaded under the next number of a VCL, where its name is free.
abbrev pub loaded_as : State → Vcl → Step
loaded_as state vcl =
    record {
      reply = Loaded state.next_vcl;
      state = record state { next_vcl = state.next_vcl + 1; vcls = with_vcl vcl state.vcls };
    }

abbrev pub loaded : State → VclSource → Step
loaded state source =
    if is_taken source.name state.vcls then leaving state NameTaken else loaded_as state (numbered state.next_vcl source)

-- Rounds begin under the VCL of the name from here on.
abbrev pub switched_to : State → Option LoadedVcl → Step
switched_to state None = leaving state NoVcl
switched_to state (Some found_) = record { reply = Switched; state = record state { active = found_.vcl } }

abbrev pub switched : State → List ℕ → Step
switched state name = switched_to state (called name state.vcls)

-- The VCL of the name is discarded, unless it is active.
abbrev pub discarded_as : State → ℕ → Step
discarded_as state number =
    if number == state.active.number
    then leaving state IsActive
    else record { reply = Discarded; state = record state { vcls = without_vcl state.rounds number state.vcls } }

abbrev pub discarded_of : State → Option LoadedVcl → Step
discarded_of state None = leaving state NoVcl
discarded_of state (Some found_) = discarded_as state found_.vcl.number

abbrev pub discarded : State → List ℕ → Step
discarded state name = discarded_of state (called name state.vcls)

abbrev pub vcls_listed : State → Step
vcls_listed state = leaving state (Vcls (vcl_lines state.active.number state.rounds state.vcls))

-- Drop closes the fetch.
abbrev pub dropped : State → ℕ → ℕ → Step
dropped state caller token =
    if has_fetch state.fetches caller token then closing token state Dropped else leaving state NotOpen

-- End closes the caller's round and its fetches, and gives up the round's reference to its VCL.
abbrev pub closed_of : State → ℕ → State
closed_of state caller =
    record state {
      rounds = without_round_of caller state.rounds;
      fetches = without_fetches_of caller state.fetches;
      vcls = those_staying (without_round_of caller state.rounds) state.vcls;
    }

abbrev pub ended : State → ℕ → Step
ended state caller = in_round state caller (record { reply = Ended; state = closed_of state caller })

-- what the call is answered in a state as it is at the call's moment, with this room for objects
abbrev pub answered : ℕ → State → ℕ → Call → Step
answered room state caller Begin = begun state caller
answered room state caller Draw = drawn state caller
answered room state caller (Lookup query) = looked_up state caller query
answered room state caller (Pick vcl target word) = picked state vcl target word
answered room state caller (Insert token object stale) = inserted room state caller token object stale
answered room state caller (Ban ban) = banned state ban
answered room state caller BanList = leaving state (Bans (open_lines state.bans))
answered room state caller (Purge key) = purged state key
answered room state caller (Xkey keys soft) = purged_by state keys soft
answered room state caller (SetHealth backend given) = health_set state backend given
answered room state caller (Load source) = loaded state source
answered room state caller (Switch name) = switched state name
answered room state caller (Discard name) = discarded state name
answered room state caller VclList = vcls_listed state
answered room state caller (Drop token) = dropped state caller token
answered room state caller End = ended state caller

-- what a call of this caller is answered at this moment, and the state behind that
abbrev pub step_of : Params → State → ℕ → ℕ → Call → Step
step_of params state caller moment call = answered params.room (at_moment moment state) caller call

-- the reply is a list of bans that shows those that objects have still to be tested on
abbrev pub IsBanList : State → Reply → Type 0
IsBanList state (Bans lines) = ShowsBans state.bans state.objects lines
IsBanList state reply = ⊥

-- What the cache may answer in this state, as it is at the call's moment, where the law gives this reply: that
-- reply, or, to an insertion that isn't NotOpen, that memory was wanting, or one of several lists of bans.
abbrev pub MayAnswer : State → Call → Reply → Reply → Type 0
MayAnswer state (Insert token object stale) law answer = (answer ≡ law) ⊎ ((answer ≡ Refused) × (law ≢ NotOpen))
MayAnswer state BanList law answer = IsBanList state answer
MayAnswer state call law answer = answer ≡ law

-- the state behind a refused call: the insertion's fetch is closed, and nothing else changes
abbrev pub refused : State → Call → State
refused state (Insert token object stale) = record state { fetches = without_fetch token state.fetches }
refused state call = state

-- of two states, that behind a refusal or that behind the law's reply
abbrev pub behind : Reply → State → State → State
behind Refused refusal law = refusal
behind reply refusal law = law

-- the state that a call with this reply leaves, with one more entry
abbrev pub after : Params → State → ℕ → ℕ → Call → Reply → State
after params state caller moment call reply =
    record (behind reply (refused (at_moment moment state) call) (step_of params state caller moment call).state) {
      entries = state.entries + 1;
    }
