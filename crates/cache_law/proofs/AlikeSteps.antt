-- Each call but that for the list of bans is answered alike in states that are the same but for bans, and leaves states that
-- are so again.
use Rattle.std.proofs.Common.{◌≡◌, ℕ, Bool, true, false, not, cond, List, ◌∷◌, ◌==◌, Option, Some, None, filter, map, length, inl, refl, sym, ap, subst}
use Rattle.std.specs.List.{list_any}
use Rattle.std.specs.Str.{bytes_eq}
use Rattle.std.proofs.lemmas.Bool.{true≢false}
use Rattle.cache_law.specs.declared.object.Object.{Object}
use Rattle.cache_law.specs.declared.object.Object.TheVariants.{Ordinary, HitForMiss, HitForPass}
use Rattle.cache_law.specs.declared.object.ObjectView.{ObjectView}
use Rattle.cache_law.specs.declared.ban.Issued.{Issued}
use Rattle.cache_law.specs.declared.call.Query.{Query}
use Rattle.cache_law.specs.declared.call.Call.{Call}
use Rattle.cache_law.specs.declared.call.Call.TheVariants.{Begin, Draw, Lookup, Pick, Insert, Ban, BanList, Purge, Xkey, SetHealth, Load, Switch, Discard, VclList, Drop, End}
use Rattle.cache_law.specs.declared.call.Reply.{Reply}
use Rattle.cache_law.specs.declared.call.Reply.TheVariants.{NoRound, Purged}
use Rattle.directors.specs.declared.target.Target.{Target}
use Rattle.cache_law.specs.declared.vcl.LoadedVcl.{LoadedVcl}
use Rattle.cache_law.specs.Object.{in_time, size_of}
use Rattle.cache_law.specs.Bans.{matches, object_only}
use Rattle.cache_law.specs.ShownBans.{IsPartOf}
use Rattle.cache_law.specs.BansAtOnce.{issued_behind, awaiting}
use Rattle.cache_law.specs.Purges.{has_key, has_xkey, softened, softening, xkey_over}
use Rattle.cache_law.specs.State.{State, Held, has_round, has_fetch, least_token, without_stale, is_gone}
use Rattle.cache_law.specs.Room.{has_no_room}
use Rattle.cache_law.specs.Lookup.{Scan, scanned, raised, counting, touching}
use Rattle.cache_law.specs.Vcls.{called, is_taken}
use Rattle.cache_law.specs.Targets.{chosen}
use Rattle.cache_law.specs.Law.{Step, leaving, answered, found_fresh, found_grace, waited_or_missed, busy, found_other, found, sought, remembered, looked_up, stored, closing, placed, inserted, picked_at, switched_to, discarded_of}
use Rattle.cache_law.specs.Bases.{IsHeldAlike, AreHeldAlike, AreAlikeAsSeen}
use Rattle.cache_law.proofs.Lawful.{asks_bans}
use Rattle.cache_law.proofs.Alike.{AreScansAlike, alike-filter, alike-gone, alike-inherited, alike-length, alike-map, alike-no_room, alike-staying, alike-without, held_alike, one_more_thinned, scans_alike}

-- the replies are the same and the states alike
pub record AreStepsAlike (one two : Step) : Type 0 where
  pub reply : one.reply ≡ two.reply
  pub states : AreAlikeAsSeen one.state two.state

either_alike : (b : Bool) (one two three four : Step) → AreStepsAlike one three → AreStepsAlike two four → AreStepsAlike (cond b one two) (cond b three four)
either_alike true one two three four p q = p
either_alike false one two three four p q = q

-- where the test isn't written alike
tests_alike : (a b : Bool) (one two three four : Step) → a ≡ b → AreStepsAlike one three → AreStepsAlike two four → AreStepsAlike (cond a one two) (cond b three four)
tests_alike a b one two three four e p q = subst (λ (c : Bool). AreStepsAlike (cond a one two) (cond c three four)) e (either_alike a one two three four p q)

changed_alike : (b : Bool) (one two three four : Held) → IsHeldAlike one three → IsHeldAlike two four → IsHeldAlike (cond b one two) (cond b three four)
changed_alike true one two three four p q = p
changed_alike false one two three four p q = q

counted_alike : (place number : ℕ) (less more : List Held) → AreHeldAlike less more → AreHeldAlike (map (counting place number) less) (map (counting place number) more)
counted_alike place number less more all =
    alike-map (counting place number)
    (λ held pending thin. changed_alike (held.view.number == number) (record held { view = raised held.view; used = place }) held (record held { view = raised held.view; used = place; pending = pending }) (record held { pending = pending })
    (record { rest = refl; pending = thin }) (held_alike held pending thin)) less more all

touched_alike : (place number : ℕ) (less more : List Held) → AreHeldAlike less more → AreHeldAlike (map (touching place number) less) (map (touching place number) more)
touched_alike place number less more all =
    alike-map (touching place number)
    (λ held pending thin. changed_alike (held.view.number == number) (record held { used = place }) held (record held { used = place; pending = pending }) (record held { pending = pending })
    (record { rest = refl; pending = thin }) (held_alike held pending thin)) less more all

softened_alike : (moment : ℕ) (keys : List (List ℕ)) (less more : List Held) → AreHeldAlike less more → AreHeldAlike (map (softening moment keys) less) (map (softening moment keys) more)
softened_alike moment keys less more all =
    alike-map (softening moment keys)
    (λ held pending thin. changed_alike (has_xkey keys held) (record held { view = record held.view { object = softened moment held.view.object } }) held (record held { view = record held.view { object = softened moment held.view.object }; pending = pending }) (record held { pending = pending })
    (record { rest = refl; pending = thin }) (held_alike held pending thin)) less more all

banned_alike : (b : Bool) (issued : Issued) (less more : List Held) → AreHeldAlike less more
    → AreHeldAlike (cond b (filter (λ held. not (matches held.view.object issued)) less) (map (awaiting issued) less)) (cond b (filter (λ held. not (matches held.view.object issued)) more) (map (awaiting issued) more))
banned_alike true issued less more all = alike-filter (λ (held : Held). not (matches held.view.object issued)) (λ held pending. refl) less more all
banned_alike false issued less more all =
    alike-map (awaiting issued) (λ held pending thin. record { rest = refl; pending = one_more_thinned issued held.pending pending thin }) less more all

xkey_alike : (moment : ℕ) (keys : List (List ℕ)) (soft : Bool) (less more : List Held) → AreHeldAlike less more → AreHeldAlike (xkey_over moment keys soft less) (xkey_over moment keys soft more)
xkey_alike moment keys true less more all = softened_alike moment keys less more all
xkey_alike moment keys false less more all = alike-filter (λ (held : Held). not (has_xkey keys held)) (λ held pending. refl) less more all

more_part : (issued : Issued) (part whole : List Issued) → IsPartOf part whole → IsPartOf (issued ∷ part) (issued ∷ whole)
more_part issued part whole p = inl (refl, p)

module _ (state : State) (bans : List Issued) (part : IsPartOf state.bans bans) where
  module _ (less more : List Held) (all : AreHeldAlike less more) where
    abbrev one : State
    one = record state { objects = less }

    abbrev two : State
    two = record state { bans = bans; objects = more }

    stays_alike : (reply : Reply) → AreStepsAlike (leaving one reply) (leaving two reply)
    stays_alike reply = record { reply = refl; states = record { rest = refl; bans = part; objects = all } }

    fresh_alike : (caller : ℕ) (key : List (List ℕ)) (view : ObjectView) (object : Object) → AreStepsAlike (remembered caller (found_fresh one caller key view object)) (remembered caller (found_fresh two caller key view object))
    fresh_alike caller key view (Ordinary response) = record { reply = refl; states = record { rest = refl; bans = part; objects = counted_alike state.entries view.number less more all } }
    fresh_alike caller key view (HitForMiss marker) = record { reply = refl; states = record { rest = refl; bans = part; objects = touched_alike state.entries view.number less more all } }
    fresh_alike caller key view (HitForPass marker) = record { reply = refl; states = record { rest = refl; bans = part; objects = touched_alike state.entries view.number less more all } }

    grace_alike : (caller : ℕ) (key : List (List ℕ)) (view : ObjectView) (open_ : Option ℕ) → AreStepsAlike (remembered caller (found_grace one caller key view open_)) (remembered caller (found_grace two caller key view open_))
    grace_alike caller key view None = record { reply = refl; states = record { rest = refl; bans = part; objects = counted_alike state.entries view.number less more all } }
    grace_alike caller key view (Some token) = record { reply = refl; states = record { rest = refl; bans = part; objects = counted_alike state.entries view.number less more all } }

    wait_alike : (caller : ℕ) (key : List (List ℕ)) (stale : Option ObjectView) (open_ : Option ℕ) → AreStepsAlike (remembered caller (waited_or_missed one caller key stale open_)) (remembered caller (waited_or_missed two caller key stale open_))
    wait_alike caller key stale None = record { reply = refl; states = record { rest = refl; bans = part; objects = all } }
    wait_alike caller key stale (Some token) = record { reply = refl; states = record { rest = refl; bans = part; objects = all } }

    other_alike : (caller : ℕ) (query : Query) (grace stale : Option ObjectView) → AreStepsAlike (remembered caller (found_other one caller query grace stale)) (remembered caller (found_other two caller query grace stale))
    other_alike caller query (Some view) stale = grace_alike caller query.key view (least_token query.key state.fetches)
    other_alike caller query None stale = wait_alike caller query.key stale (busy query (least_token query.key state.fetches))

    found_alike : (caller : ℕ) (query : Query) (fresh grace stale : Option ObjectView) → AreStepsAlike (remembered caller (found one caller query fresh grace stale)) (remembered caller (found two caller query fresh grace stale))
    found_alike caller query (Some view) grace stale = fresh_alike caller query.key view view.object
    found_alike caller query None grace stale = other_alike caller query grace stale

  module _ (more : List Held) (all : AreHeldAlike state.objects more) where
    abbrev other : State
    other = record state { bans = bans; objects = more }

    leaves_alike : (reply : Reply) → AreStepsAlike (leaving state reply) (leaving other reply)
    leaves_alike reply = stays_alike state.objects more all reply

    scan_alike : (caller : ℕ) (query : Query) (first second : Scan Held) → AreScansAlike first second
        → AreStepsAlike (remembered caller (found (record state { objects = first.objects }) caller query first.fresh first.grace first.stale)) (remembered caller (found (record state { bans = bans; objects = second.objects }) caller query second.fresh second.grace second.stale))
    scan_alike caller query first second scans =
        rw (sym scans.fresh, sym scans.grace, sym scans.stale) (found_alike first.objects second.objects scans.objects caller query first.fresh first.grace first.stale)

    sought_alike : (caller : ℕ) (query : Query) (misses : Bool) → misses ≡ query.options.always_miss → AreStepsAlike (remembered caller (sought state caller query)) (remembered caller (sought other caller query))
    sought_alike caller query true e = rw (sym e) (wait_alike state.objects more all caller query.key None None)
    sought_alike caller query false e = rw (sym e) (scan_alike caller query (scanned state.moment query state.objects) (scanned state.moment query more) (scans_alike state.moment query state.objects more all))

    looked_alike : (caller : ℕ) (query : Query) → AreStepsAlike (looked_up state caller query) (looked_up other caller query)
    looked_alike caller query = either_alike (has_round state.rounds caller) _ _ _ _ (sought_alike caller query query.options.always_miss refl) (leaves_alike NoRound)

    closes_alike : (token : ℕ) (reply : Reply) → AreStepsAlike (closing token state reply) (closing token other reply)
    closes_alike token reply = record { reply = refl; states = record { rest = refl; bans = part; objects = all } }

    stores_alike : (room token : ℕ) (object : Object) (stale : Option ℕ) → AreStepsAlike (stored room state token object stale) (stored room other token object stale)
    stores_alike room token object stale =
        let rest = alike-without stale state.objects more all in
        record {
          reply = refl;
          states = record {
            rest = refl;
            bans = part;
            objects = (record { rest = refl; pending = alike-inherited stale state.objects more all }, alike-staying room (size_of object) (without_stale stale state.objects) (without_stale stale more) rest);
          };
        }

    placed_alike : (room token : ℕ) (object : Object) (stale : Option ℕ) → AreStepsAlike (placed room state token object stale) (placed room other token object stale)
    placed_alike room token object stale =
        either_alike (in_time state.moment object) _ _ _ _
        (tests_alike (has_no_room room (size_of object) (without_stale stale state.objects)) (has_no_room room (size_of object) (without_stale stale more)) _ _ _ _
        (alike-no_room room (size_of object) (without_stale stale state.objects) (without_stale stale more) (alike-without stale state.objects more all))
        (closes_alike token _) (stores_alike room token object stale)) (closes_alike token _)

    inserted_alike : (room caller token : ℕ) (object : Object) (stale : Option ℕ) → AreStepsAlike (inserted room state caller token object stale) (inserted room other caller token object stale)
    inserted_alike room caller token object stale =
        either_alike (has_fetch state.fetches caller token) _ _ _ _
        (tests_alike (is_gone stale state.objects) (is_gone stale more) _ _ _ _ (alike-gone stale state.objects more all) (leaves_alike _) (placed_alike room token object stale)) (leaves_alike _)

    plain_alike : (reply : Reply) (first : State) → first.objects ≡ state.objects → first.bans ≡ state.bans → AreStepsAlike (record { reply = reply; state = first }) (record { reply = reply; state = record first { bans = bans; objects = more } })
    plain_alike reply first same kept =
        record { reply = refl; states = record { rest = refl; bans = subst (λ (b : List Issued). IsPartOf b bans) (sym kept) part; objects = subst (λ (o : List Held). AreHeldAlike o more) (sym same) all } }

    picked_alike : (vcl : ℕ) (target : Target) (place : Option ℕ) → AreStepsAlike (picked_at state vcl target place) (picked_at other vcl target place)
    picked_alike vcl target None = leaves_alike _
    picked_alike vcl target (Some place) = plain_alike _ _ refl refl

    switched_alike : (found_ : Option LoadedVcl) → AreStepsAlike (switched_to state found_) (switched_to other found_)
    switched_alike None = leaves_alike _
    switched_alike (Some found_) = plain_alike _ _ refl refl

    discarded_alike : (found_ : Option LoadedVcl) → AreStepsAlike (discarded_of state found_) (discarded_of other found_)
    discarded_alike None = leaves_alike _
    discarded_alike (Some found_) = either_alike (found_.vcl.number == state.active.number) _ _ _ _ (leaves_alike _) (plain_alike _ _ refl refl)

    purged_alike : (count other_count : ℕ) (first second : List Held) → count ≡ other_count → AreHeldAlike first second
        → AreStepsAlike (record { reply = Purged count; state = record state { objects = first } }) (record { reply = Purged other_count; state = record state { bans = bans; objects = second } })
    purged_alike count other_count first second e kept = record { reply = ap Purged e; states = record { rest = refl; bans = part; objects = kept } }

    count_alike : (test : Held → Bool) → ((held : Held) (pending : List Issued) → test (record held { pending = pending }) ≡ test held) → length (filter test state.objects) ≡ length (filter test more)
    count_alike test same = alike-length _ _ (alike-filter test same state.objects more all)

    pub answered_alike : (room caller : ℕ) (call : Call) → asks_bans call ≡ false → AreStepsAlike (answered room state caller call) (answered room other caller call)
    answered_alike room caller Begin asks = either_alike (has_round state.rounds caller) _ _ _ _ (leaves_alike NoRound) (plain_alike _ _ refl refl)
    answered_alike room caller Draw asks = either_alike (has_round state.rounds caller) _ _ _ _ (plain_alike _ _ refl refl) (leaves_alike NoRound)
    answered_alike room caller (Lookup query) asks = looked_alike caller query
    answered_alike room caller (Pick vcl target word) asks = picked_alike vcl target (chosen state.health state.counters vcl target word)
    answered_alike room caller (Insert token object stale) asks = inserted_alike room caller token object stale
    answered_alike room caller (Ban ban) asks =
        let issued : Issued = issued_behind state.issued state.moment ban in
        record { reply = refl; states = record { rest = refl; bans = more_part issued state.bans bans part; objects = banned_alike (object_only ban) issued state.objects more all } }
    answered_alike room caller BanList asks = absurd (true≢false asks)
    answered_alike room caller (Purge key) asks =
        purged_alike _ _ _ _ (count_alike (has_key key) (λ held pending. refl)) (alike-filter (λ (held : Held). not (has_key key held)) (λ held pending. refl) state.objects more all)
    answered_alike room caller (Xkey keys soft) asks =
        purged_alike _ _ _ _ (count_alike (has_xkey keys) (λ held pending. refl)) (xkey_alike state.moment keys soft state.objects more all)
    answered_alike room caller (SetHealth backend given) asks = either_alike (list_any (bytes_eq backend) state.active.backends) _ _ _ _ (plain_alike _ _ refl refl) (leaves_alike _)
    answered_alike room caller (Load source) asks = either_alike (is_taken source.name state.vcls) _ _ _ _ (leaves_alike _) (plain_alike _ _ refl refl)
    answered_alike room caller (Switch name) asks = switched_alike (called name state.vcls)
    answered_alike room caller (Discard name) asks = discarded_alike (called name state.vcls)
    answered_alike room caller VclList asks = leaves_alike _
    answered_alike room caller (Drop token) asks = either_alike (has_fetch state.fetches caller token) _ _ _ _ (closes_alike token _) (leaves_alike _)
    answered_alike room caller End asks = either_alike (has_round state.rounds caller) _ _ _ _ (plain_alike _ _ refl refl) (leaves_alike NoRound)

-- each call but that for the list of bans is answered alike in alike states
pub steps_alike : (room : ℕ) (less more : State) (caller : ℕ) (call : Call) → AreAlikeAsSeen less more → asks_bans call ≡ false → AreStepsAlike (answered room less caller call) (answered room more caller call)
steps_alike room less more caller call alike asks =
    subst (λ (s : State). AreStepsAlike (answered room less caller call) (answered room s caller call)) alike.rest (answered_alike less more.bans alike.bans more.objects alike.objects room caller call asks)
