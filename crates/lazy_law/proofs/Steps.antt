-- Each call that has to do with objects or bans, answered over what is kept, has the law's reply and leaves what stands for the
-- law's next state.
use Rattle.std.proofs.Common.{◌≡◌, ◌≤◌, ◌<◌, ◌+◌, ℕ, Bool, true, false, not, cond, List, [], ◌∷◌, Option, Some, None, filter, find, map, length, refl, arith, sym, ap, ◌∙◌, subst}
use Rattle.std.specs.List.{list_any, AllByRecursion}
use Rattle.std.specs.Option.{option_map_or}
use Rattle.cache_law.specs.declared.object.Object.{Object}
use Rattle.cache_law.specs.declared.ban.Ban.{Ban}
use Rattle.cache_law.specs.declared.ban.Issued.{Issued}
use Rattle.cache_law.specs.declared.call.Query.{Query}
use Rattle.cache_law.specs.declared.call.Reply.{Reply}
use Rattle.cache_law.specs.declared.call.Reply.TheVariants.{NoRound, NotOpen, StaleGone, NotInTime, NoRoom, Purged}
use Rattle.cache_law.specs.Object.{in_time, size_of}
use Rattle.cache_law.specs.BansAtOnce.{ban_over, issued_behind}
use Rattle.cache_law.specs.Lookup.{Scan, scanned}
use Rattle.cache_law.specs.ShownBans.{those_open}
use Rattle.cache_law.specs.Purges.{has_key, has_xkey, softening, xkey_over}
use Rattle.cache_law.specs.Room.{has_no_room, staying, stored_over}
use Rattle.cache_law.specs.State.{Held, State, has_fetch, has_round, is_gone, those_in_time, without_stale}
use Rattle.cache_law.specs.Law.{Step, closing, found_by, inserted, leaving, looked_up, missed, placed, purged, purged_by, remembered, sought, stored}
use Rattle.cache_law.proofs.Held.{all-filter, all-weaken}
use Rattle.cache_law.proofs.Moments.{those_in_time-later}
use Rattle.lazy_law.specs.Placed.{Lazy, Placed, above, kept_bans, seen, since}
use Rattle.lazy_law.specs.Scan.{scanned_late, used_by}
use Rattle.lazy_law.specs.Purging.{count_alive, is_of_key, is_of_xkeys, softened_late, without_late, xkey_late}
use Rattle.lazy_law.specs.Insertion.{fits_late, has_no_room_late, has_number, is_gone_late, lacks_room, made_room, new_placed, others_late, place_for, stored_late, staying_late}
use Rattle.lazy_law.specs.Banning.{banned_late, with_line}
use Rattle.lazy_law.specs.Stands.{Agrees, IsKept, IsWithin, StandsFor}
use Rattle.lazy_law.specs.Late.{LateStep, desk_of, found_late, inserted_late, leaving_late, looked_up_late, placed_late, purged_by_late, purged_late, sought_late, stored_step}
use Rattle.lazy_law.proofs.Agreeing.{same_alive, same_scanned, same_softened, same_tended}
use Rattle.lazy_law.proofs.Keeping.{keep_left, keep_made, keep_scanned, keep_softened, keep_used}
use Rattle.lazy_law.proofs.Lines.{banned_agrees, banned_lines, bans_of, lines_up_to}
use Rattle.lazy_law.proofs.Making.{seen_made, seen_no_room}
use Rattle.lazy_law.proofs.Numbers.{AreUpTo}
use Rattle.lazy_law.proofs.Scanned.{FindsSo, finds_so, seen_scan, seen_scanned}
use Rattle.lazy_law.proofs.Seen.{later_seen, seen_banned, seen_count, seen_filter, seen_gone, seen_inherited, seen_others, seen_softened}
use Rattle.lazy_law.proofs.Staying.{agreeing_stays, all_up_to, kept_up_to, kept_with, new_agrees, new_within, nothing_above, nothing_since, soft_agrees, soft_within, standing, stands_by, stays_within}

-- ---- time goes on

pub later_same : (lazy : Lazy) (moment later issued : ℕ) (bans : List Issued) (objects : List Held) → moment ≤ later → StandsFor lazy moment issued bans objects → those_in_time later objects ≡ seen later bans lazy.objects
later_same lazy moment later issued bans objects less stands =
    sym (those_in_time-later moment later less objects) ∙ ap (those_in_time later) stands.same ∙ later_seen moment later bans lazy.objects less

-- ---- what a step shows

pub record StepStands (moment : ℕ) (late : LateStep) (step : Step) : Type 0 where
  pub reply : late.reply ≡ step.reply
  pub stands : StandsFor late.lazy moment step.state.issued step.state.bans step.state.objects

pub two_ways : (moment : ℕ) (b : Bool) (one two : LateStep) (three four : Step) → StepStands moment one three → StepStands moment two four → StepStands moment (cond b one two) (cond b three four)
two_ways moment true one two three four here there = here
two_ways moment false one two three four here there = there

-- the same, where the tests are equal
pub two_ways_by : (moment : ℕ) (a b : Bool) (one two : LateStep) (three four : Step) → b ≡ a → StepStands moment one three → StepStands moment two four → StepStands moment (cond a one two) (cond b three four)
two_ways_by moment a b one two three four e here there = subst (λ (x : Bool). StepStands moment (cond a one two) (cond x three four)) (sym e) (two_ways moment a one two three four here there)

pub two_ways_known : (moment : ℕ) (a b : Bool) (one two : LateStep) (three four : Step) → b ≡ a → (b ≡ true → StepStands moment one three) → (b ≡ false → StepStands moment two four) → StepStands moment (cond a one two) (cond b three four)
two_ways_known moment true b one two three four e here there = subst (λ (x : Bool). StepStands moment one (cond x three four)) (sym e) (here e)
two_ways_known moment false b one two three four e here there = subst (λ (x : Bool). StepStands moment two (cond x three four)) (sym e) (there e)

-- the state, of which the objects are those that are seen
abbrev pub held_over : Lazy → State → State
held_over lazy state = record state { objects = seen state.moment state.bans lazy.objects }

leaves : (lazy : Lazy) (state : State) → lazy.issued ≡ state.issued → IsKept lazy state.bans → (reply : Reply) → StepStands state.moment (leaving_late lazy reply) (leaving (held_over lazy state) reply)
leaves lazy state count kept reply = record { reply = refl; stands = standing lazy state.moment state.issued state.bans (seen state.moment state.bans lazy.objects) count kept refl }

-- ---- a lookup

found_stands : (lazy : Lazy) (state : State) → lazy.issued ≡ state.issued → IsKept lazy state.bans → (caller : ℕ) (query : Query) (scan : Scan Placed) → AllByRecursion (IsWithin lazy.issued) scan.objects → AllByRecursion (Agrees (kept_bans lazy) state.bans) scan.objects
    → StepStands state.moment (found_late (desk_of state) caller query lazy scan) (remembered caller (found_by (held_over lazy state) caller query (seen_scan state.moment state.bans scan)))
found_stands lazy state count kept caller query scan within agrees =
    let so : FindsSo state caller query state.moment state.bans scan.fresh scan.grace scan.stale scan.objects = finds_so state caller query state.moment state.bans scan.fresh scan.grace scan.stale scan.objects in
    let left : List Placed = used_by state.entries scan.fresh scan.grace scan.objects in
    let behind : Lazy = record lazy { objects = left } in
    let is : IsKept behind state.bans =
    kept_with lazy state.bans left kept (keep_used lazy.issued (IsWithin lazy.issued) (stays_within lazy.issued) state.entries scan.fresh scan.grace scan.objects within)
    (keep_used lazy.issued (Agrees (kept_bans lazy) state.bans) (agreeing_stays lazy state.bans kept) state.entries scan.fresh scan.grace scan.objects agrees) in
    record {
      reply = sym so.answer;
      stands = stands_by behind state.moment state.issued _ state.bans _ (seen state.moment state.bans left) _ so.count so.those so.left
          (standing behind state.moment state.issued state.bans (seen state.moment state.bans left) count is refl);
    }

pub scan_same : (lazy : Lazy) (state : State) → IsKept lazy state.bans → (query : Query)
    → scanned state.moment query (seen state.moment state.bans lazy.objects) ≡ seen_scan state.moment state.bans (scanned_late state.moment query (kept_bans lazy) lazy.issued lazy.objects)
scan_same lazy state kept query =
    seen_scanned state.moment query state.bans lazy.issued lazy.objects (nothing_above lazy state.bans kept) (nothing_since lazy state.bans kept)
    ∙ ap (seen_scan state.moment state.bans) (sym (same_scanned state.moment query (kept_bans lazy) state.bans lazy.issued lazy.objects kept.agrees))

remembered_ways : (moment caller : ℕ) (b : Bool) (one two : LateStep) (three four : Step) → StepStands moment one (remembered caller three) → StepStands moment two (remembered caller four)
    → StepStands moment (cond b one two) (remembered caller (cond b three four))
remembered_ways moment caller true one two three four here there = here
remembered_ways moment caller false one two three four here there = there

missed_stands : (lazy : Lazy) (state : State) → lazy.issued ≡ state.issued → IsKept lazy state.bans → (caller : ℕ) (query : Query)
    → StepStands state.moment (leaving_late lazy (missed (desk_of state) caller query.key None).reply) (remembered caller (missed (held_over lazy state) caller query.key None))
missed_stands lazy state count kept caller query = record { reply = refl; stands = standing lazy state.moment state.issued state.bans (seen state.moment state.bans lazy.objects) count kept refl }

sought_stands : (lazy : Lazy) (state : State) → lazy.issued ≡ state.issued → IsKept lazy state.bans → (caller : ℕ) (query : Query)
    → StepStands state.moment (sought_late (desk_of state) caller query lazy) (remembered caller (sought (held_over lazy state) caller query))
sought_stands lazy state count kept caller query =
    let scan : Scan Placed = scanned_late state.moment query (kept_bans lazy) lazy.issued lazy.objects in
    remembered_ways state.moment caller query.options.always_miss _ _ _ _ (missed_stands lazy state count kept caller query)
    (subst (λ (s : Scan Held). StepStands state.moment (found_late (desk_of state) caller query lazy scan) (remembered caller (found_by (held_over lazy state) caller query s))) (sym (scan_same lazy state kept query))
    (found_stands lazy state count kept caller query scan
    (keep_scanned lazy.issued (IsWithin lazy.issued) (stays_within lazy.issued) state.moment query (kept_bans lazy) lazy.objects kept.within)
    (keep_scanned lazy.issued (Agrees (kept_bans lazy) state.bans) (agreeing_stays lazy state.bans kept) state.moment query (kept_bans lazy) lazy.objects kept.agrees)))

pub lookup_stands : (lazy : Lazy) (state : State) → lazy.issued ≡ state.issued → IsKept lazy state.bans → (caller : ℕ) (query : Query)
    → StepStands state.moment (looked_up_late (desk_of state) caller query lazy) (looked_up (held_over lazy state) caller query)
lookup_stands lazy state count kept caller query =
    two_ways state.moment (has_round state.rounds caller) _ _ _ _ (sought_stands lazy state count kept caller query) (leaves lazy state count kept NoRound)

-- ---- an insertion

new_seen : (moment : ℕ) (bans : List Issued) (place token : ℕ) (object : Object) (tested issued : ℕ) (rest : List Placed) → in_time moment object ≡ true → above issued bans ≡ []
    → seen moment bans (new_placed place token object tested issued ∷ rest) ≡ record { view = record { number = token; hits = 0; object = object }; used = place; pending = since tested bans } ∷ seen moment bans rest
new_seen moment bans place token object tested issued rest t none_ = rw (t, none_) refl

place_same : (moment : ℕ) (own bans : List Issued) (issued : ℕ) (stale : Option ℕ) (objects : List Placed) → AllByRecursion (Agrees own bans) objects → place_for moment own issued stale objects ≡ place_for moment bans issued stale objects
place_same moment own bans issued None objects all = refl
place_same moment own bans issued (Some stale) objects all =
    ap (λ (alive : List Placed). option_map_or (λ (p : Placed). p.place) (find (has_number stale) alive) issued) (same_alive moment own bans objects all)

pub gone_same : (moment : ℕ) (own bans : List Issued) (stale : Option ℕ) (objects : List Placed) → AllByRecursion (Agrees own bans) objects → is_gone_late moment own stale objects ≡ is_gone_late moment bans stale objects
gone_same moment own bans None objects all = refl
gone_same moment own bans (Some stale) objects all = ap (λ (alive : List Placed). not (list_any (has_number stale) alive)) (same_alive moment own bans objects all)

made_same : (room size moment : ℕ) (own bans : List Issued) (issued : ℕ) (others : List Placed) → AllByRecursion (Agrees own bans) others → made_room room size moment own issued others ≡ made_room room size moment bans issued others
made_same room size moment own bans issued others all =
    ap (λ (tidy : List Placed). cond (fits_late room size others) others (staying_late room size tidy)) (same_tended moment own bans issued others all)

no_room_same : (room size moment : ℕ) (own bans : List Issued) (issued : ℕ) (others : List Placed) → AllByRecursion (Agrees own bans) others
    → has_no_room_late room size moment own issued others ≡ has_no_room_late room size moment bans issued others
no_room_same room size moment own bans issued others all =
    ap (λ (tidy : List Placed). cond (fits_late room size others) false (lacks_room room size tidy)) (same_tended moment own bans issued others all)

-- what an insertion leaves
stored_seen : (room moment place : ℕ) (bans : List Issued) (issued token : ℕ) (object : Object) (stale : Option ℕ) (objects : List Placed) → in_time moment object ≡ true → above issued bans ≡ [] → since issued bans ≡ []
    → stored_over room place token object stale (seen moment bans objects) ≡ seen moment bans (stored_late room moment place bans issued token object stale objects)
stored_seen room moment place bans issued token object stale objects t a s =
    let others : List Placed = others_late stale objects in
    let size : ℕ = size_of object in
    ap (λ (pending : List Issued). held_new pending ∷ staying room size (without_stale stale (seen moment bans objects))) (seen_inherited moment bans issued stale objects s)
    ∙ ap (λ (rest : List Held). held_new (since (place_for moment bans issued stale objects) bans) ∷ rest)
    (ap (staying room size) (seen_others moment bans stale objects) ∙ seen_made room size moment bans issued others a)
    ∙ sym (new_seen moment bans place token object (place_for moment bans issued stale objects) issued (made_room room size moment bans issued others) t a)
  where
    held_new : List Issued → Held
    held_new pending = record { view = record { number = token; hits = 0; object = object }; used = place; pending = pending }

stored_kept : (room moment place : ℕ) (own bans : List Issued) (issued token : ℕ) (object : Object) (stale : Option ℕ) (objects : List Placed) → AllByRecursion (Agrees own bans) objects
    → stored_late room moment place own issued token object stale objects ≡ stored_late room moment place bans issued token object stale objects
stored_kept room moment place own bans issued token object stale objects all =
    ap (λ (tested : ℕ). new_placed place token object tested issued ∷ made_room room (size_of object) moment own issued (others_late stale objects)) (place_same moment own bans issued stale objects all)
    ∙ ap (λ (rest : List Placed). new_placed place token object (place_for moment bans issued stale objects) issued ∷ rest)
    (made_same room (size_of object) moment own bans issued (others_late stale objects) (keep_left (Agrees own bans) stale objects all))

stored_stands : (lazy : Lazy) (state : State) → lazy.issued ≡ state.issued → IsKept lazy state.bans → (room token : ℕ) (object : Object) (stale : Option ℕ) → in_time state.moment object ≡ true
    → StepStands state.moment (stored_step room (desk_of state) token object stale lazy) (stored room (held_over lazy state) token object stale)
stored_stands lazy state count kept room token object stale t =
    let bans : List Issued = state.bans in
    let own : List Issued = kept_bans lazy in
    let others : List Placed = others_late stale lazy.objects in
    let left : List Placed = stored_late room state.moment state.entries own lazy.issued token object stale lazy.objects in
    let is : IsKept (record lazy { objects = left }) bans = kept_with lazy bans left kept (
      new_within state.entries token object state.moment own lazy.issued stale lazy.objects kept.within,
      keep_made lazy.issued (IsWithin lazy.issued) (stays_within lazy.issued) room (size_of object) state.moment own others (keep_left (IsWithin lazy.issued) stale lazy.objects kept.within),
    ) (
      new_agrees state.entries token object state.moment own bans lazy.issued stale lazy.objects (kept_up_to lazy bans kept) (all_up_to lazy bans kept) kept.agrees,
      keep_made lazy.issued (Agrees own bans) (agreeing_stays lazy bans kept) room (size_of object) state.moment own others (keep_left (Agrees own bans) stale lazy.objects kept.agrees),
    ) in
    record {
      reply = refl;
      stands = standing (record lazy { objects = left }) state.moment state.issued bans _ count is
          (stored_seen room state.moment state.entries bans lazy.issued token object stale lazy.objects t (nothing_above lazy bans kept) (nothing_since lazy bans kept)
          ∙ ap (seen state.moment bans) (sym (stored_kept room state.moment state.entries own bans lazy.issued token object stale lazy.objects kept.agrees)));
    }

closes : (lazy : Lazy) (state : State) → lazy.issued ≡ state.issued → IsKept lazy state.bans → (token : ℕ) (reply : Reply) → StepStands state.moment (leaving_late lazy reply) (closing token (held_over lazy state) reply)
closes lazy state count kept token reply = record { reply = refl; stands = standing lazy state.moment state.issued state.bans (seen state.moment state.bans lazy.objects) count kept refl }

placed_stands : (lazy : Lazy) (state : State) → lazy.issued ≡ state.issued → IsKept lazy state.bans → (room token : ℕ) (object : Object) (stale : Option ℕ)
    → StepStands state.moment (placed_late room (desk_of state) token object stale lazy) (placed room (held_over lazy state) token object stale)
placed_stands lazy state count kept room token object stale =
    let others : List Placed = others_late stale lazy.objects in
    two_ways_known state.moment (in_time state.moment object) (in_time state.moment object) _ _ _ _ refl
    (λ t. two_ways_known state.moment (has_no_room_late room (size_of object) state.moment (kept_bans lazy) lazy.issued others) (has_no_room room (size_of object) (without_stale stale (seen state.moment state.bans lazy.objects))) _ _ _ _
    (ap (has_no_room room (size_of object)) (seen_others state.moment state.bans stale lazy.objects)
    ∙ seen_no_room room (size_of object) state.moment state.bans lazy.issued others
    ∙ sym (no_room_same room (size_of object) state.moment (kept_bans lazy) state.bans lazy.issued others (keep_left (Agrees (kept_bans lazy) state.bans) stale lazy.objects kept.agrees)))
    (λ full. closes lazy state count kept token NoRoom)
    (λ free. stored_stands lazy state count kept room token object stale t))
    (λ late. closes lazy state count kept token NotInTime)

pub insertion_stands : (lazy : Lazy) (state : State) → lazy.issued ≡ state.issued → IsKept lazy state.bans → (room caller token : ℕ) (object : Object) (stale : Option ℕ)
    → StepStands state.moment (inserted_late room (desk_of state) caller token object stale lazy) (inserted room (held_over lazy state) caller token object stale)
insertion_stands lazy state count kept room caller token object stale =
    two_ways state.moment (has_fetch state.fetches caller token) _ _ _ _
    (two_ways_known state.moment (is_gone_late state.moment (kept_bans lazy) stale lazy.objects) (is_gone stale (seen state.moment state.bans lazy.objects)) _ _ _ _
    (seen_gone state.moment state.bans stale lazy.objects ∙ sym (gone_same state.moment (kept_bans lazy) state.bans stale lazy.objects kept.agrees))
    (λ gone. leaves lazy state count kept StaleGone)
    (λ there. placed_stands lazy state count kept room token object stale))
    (leaves lazy state count kept NotOpen)

-- ---- a ban

within_more : (issued : ℕ) (objects : List Placed) → AllByRecursion (IsWithin issued) objects → AllByRecursion (IsWithin (issued + 1)) objects
within_more issued objects all = all-weaken (IsWithin issued) (IsWithin (issued + 1)) (λ p is. record { place = omega (arith, is.place); mark = omega (arith, is.mark) }) objects all

before_next : (issued moment : ℕ) (ban : Ban) (objects : List Placed) → AllByRecursion (IsWithin issued) objects → AllByRecursion (λ (p : Placed). (p.place < (issued_behind issued moment ban).number) × (p.mark < (issued_behind issued moment ban).number)) objects
before_next issued moment ban objects all =
    all-weaken (IsWithin issued) (λ (p : Placed). (p.place < (issued_behind issued moment ban).number) × (p.mark < (issued_behind issued moment ban).number)) (λ p is. (omega (arith, is.place), omega (arith, is.mark))) objects all

banned_kept : (lazy : Lazy) (moment : ℕ) (bans : List Issued) (ban : Ban) → IsKept lazy bans → IsKept (banned_late moment ban lazy) (issued_behind lazy.issued moment ban ∷ bans)
banned_kept lazy moment bans ban kept =
    let issued : Issued = issued_behind lazy.issued moment ban in
    let up : AreUpTo lazy.issued (bans_of lazy.lines) = lines_up_to lazy.issued lazy.lines bans kept.listed kept.falling in
    record {
      falling = (omega arith, kept.falling);
      listed = banned_lines issued lazy.issued lazy.lines bans (omega arith) up kept.listed;
      within = within_more lazy.issued lazy.objects kept.within;
      agrees = all-weaken (Agrees (kept_bans lazy) bans) (Agrees (those_open (with_line issued lazy.lines)) (issued ∷ bans)) (λ p is. banned_agrees issued lazy.issued lazy.lines bans p (omega arith) up is) lazy.objects kept.agrees;
    }

pub ban_stands : (lazy : Lazy) (moment issued : ℕ) (bans : List Issued) (ban : Ban) → lazy.issued ≡ issued → IsKept lazy bans
    → StandsFor (banned_late moment ban lazy) moment (issued + 1) (issued_behind issued moment ban ∷ bans) (ban_over (issued_behind issued moment ban) (seen moment bans lazy.objects))
ban_stands lazy moment issued bans ban count kept =
    subst (λ (n : ℕ). StandsFor (banned_late moment ban lazy) moment (n + 1) (issued_behind n moment ban ∷ bans) (ban_over (issued_behind n moment ban) (seen moment bans lazy.objects))) count
    (standing (banned_late moment ban lazy) moment (lazy.issued + 1) (issued_behind lazy.issued moment ban ∷ bans) _ refl (banned_kept lazy moment bans ban kept)
    (seen_banned moment (issued_behind lazy.issued moment ban) bans lazy.objects (before_next lazy.issued moment ban lazy.objects kept.within)))

-- ---- purges

count_same : (moment : ℕ) (own bans : List Issued) (test : Placed → Bool) (objects : List Placed) → AllByRecursion (Agrees own bans) objects → count_alive moment own test objects ≡ count_alive moment bans test objects
count_same moment own bans test objects all = ap (λ (alive : List Placed). length (filter test alive)) (same_alive moment own bans objects all)

without_stands : (lazy : Lazy) (moment issued : ℕ) (bans : List Issued) (test : Placed → Bool) (objects : List Held) → lazy.issued ≡ issued → IsKept lazy bans → objects ≡ seen moment bans (without_late test lazy.objects)
    → StandsFor (record lazy { objects = without_late test lazy.objects }) moment issued bans objects
without_stands lazy moment issued bans test objects count kept exact =
    standing (record lazy { objects = without_late test lazy.objects }) moment issued bans objects count
    (kept_with lazy bans (without_late test lazy.objects) kept (all-filter (IsWithin lazy.issued) (λ p. not (test p)) lazy.objects kept.within) (all-filter (Agrees (kept_bans lazy) bans) (λ p. not (test p)) lazy.objects kept.agrees)) exact

pub purge_stands : (lazy : Lazy) (state : State) → lazy.issued ≡ state.issued → IsKept lazy state.bans → (key : List (List ℕ)) → StepStands state.moment (purged_late (desk_of state) key lazy) (purged (held_over lazy state) key)
purge_stands lazy state count kept key =
    record {
      reply = ap Purged (count_same state.moment (kept_bans lazy) state.bans (is_of_key key) lazy.objects kept.agrees ∙ sym (seen_count state.moment state.bans (has_key key) lazy.objects));
      stands = without_stands lazy state.moment state.issued state.bans (is_of_key key) _ count kept (seen_filter state.moment state.bans (λ held. not (has_key key held)) lazy.objects);
    }

soft_stands : (lazy : Lazy) (moment issued : ℕ) (bans : List Issued) (keys : List (List ℕ)) → lazy.issued ≡ issued → IsKept lazy bans
    → StandsFor (record lazy { objects = softened_late moment keys (kept_bans lazy) lazy.issued lazy.objects }) moment issued bans (map (softening moment keys) (seen moment bans lazy.objects))
soft_stands lazy moment issued bans keys count kept =
    let own : List Issued = kept_bans lazy in
    let left : List Placed = softened_late moment keys own lazy.issued lazy.objects in
    record {
      count = count;
      kept = kept_with lazy bans left kept
          (keep_softened (IsWithin lazy.issued) (IsWithin lazy.issued) moment keys own lazy.issued (λ p e is. soft_within moment lazy.issued p is) (λ p e is. is) lazy.objects kept.within)
          (keep_softened (Agrees own bans) (Agrees own bans) moment keys own lazy.issued (λ p e is. soft_agrees moment lazy.issued own bans p (kept_up_to lazy bans kept) (all_up_to lazy bans kept) is) (λ p e is. is) lazy.objects kept.agrees);
      same = seen_softened moment keys bans lazy.issued lazy.objects (nothing_above lazy bans kept) ∙ ap (seen moment bans) (sym (same_softened moment keys own bans lazy.issued lazy.objects kept.agrees));
    }

xkey_left : (lazy : Lazy) (moment issued : ℕ) (bans : List Issued) (keys : List (List ℕ)) (soft : Bool) → lazy.issued ≡ issued → IsKept lazy bans
    → StandsFor (record lazy { objects = xkey_late moment keys soft (kept_bans lazy) lazy.issued lazy.objects }) moment issued bans (xkey_over moment keys soft (seen moment bans lazy.objects))
xkey_left lazy moment issued bans keys true count kept = soft_stands lazy moment issued bans keys count kept
xkey_left lazy moment issued bans keys false count kept = without_stands lazy moment issued bans (is_of_xkeys keys) _ count kept (seen_filter moment bans (λ held. not (has_xkey keys held)) lazy.objects)

pub xkey_stands : (lazy : Lazy) (state : State) → lazy.issued ≡ state.issued → IsKept lazy state.bans → (keys : List (List ℕ)) (soft : Bool) → StepStands state.moment (purged_by_late (desk_of state) keys soft lazy) (purged_by (held_over lazy state) keys soft)
xkey_stands lazy state count kept keys soft =
    record {
      reply = ap Purged (count_same state.moment (kept_bans lazy) state.bans (is_of_xkeys keys) lazy.objects kept.agrees ∙ sym (seen_count state.moment state.bans (has_xkey keys) lazy.objects));
      stands = xkey_left lazy state.moment state.issued state.bans keys soft count kept;
    }
