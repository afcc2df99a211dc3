-- A lookup's scan of what the law sees is its scan of what is stored.
use Rattle.std.proofs.Common.{◌≡◌, ℕ, Bool, true, false, not, cond, List, [], ◌∷◌, ◌&&◌, ◌||◌, Option, Some, None, map, refl, sym, ap, ◌∙◌}
use Rattle.cache_law.specs.declared.object.Object.{Object}
use Rattle.cache_law.specs.declared.object.Object.TheVariants.{Ordinary, HitForMiss, HitForPass}
use Rattle.cache_law.specs.declared.object.ObjectView.{ObjectView}
use Rattle.cache_law.specs.declared.ban.Issued.{Issued}
use Rattle.cache_law.specs.declared.call.Query.{Query}
use Rattle.cache_law.specs.Object.{in_time, is_marker, key_of, same_texts}
use Rattle.cache_law.specs.BansAtOnce.{cleared}
use Rattle.cache_law.specs.Lookup.{Scan, ending, is_chosen_by, is_fresh, passing, scanned, seeing, tested}
use Rattle.cache_law.specs.State.{Held, State, least_token}
use Rattle.cache_law.specs.Law.{busy, found, found_fresh, found_grace, waited_or_missed}
use Rattle.lazy_law.specs.Placed.{Placed, above, held_of, is_alive, is_dead, is_met, seen, since, tested_at, those_alive}
use Rattle.lazy_law.specs.Scan.{counted_late, scanned_late, touched_late, used_by}
use Rattle.lazy_law.specs.Late.{desk_of}
use Rattle.lazy_law.proofs.Seen.{seen_counted, seen_touched}

-- what the law sees of a scan
abbrev pub seen_scan : ℕ → List Issued → Scan Placed → Scan Held
seen_scan moment bans scan = record { fresh = scan.fresh; grace = scan.grace; stale = scan.stale; objects = seen moment bans scan.objects }

scan_of_first : (moment : ℕ) (query : Query) (bans : List Issued) (b : Bool) (p : Placed) (xs : List Placed)
    → scanned moment query (map (held_of bans) (cond b (p ∷ xs) xs))
    ≡ cond b (cond (same_texts (key_of p.view.object) query.key) (cond (is_met bans query.request p) (scanned moment query (map (held_of bans) xs)) (tested moment query (held_of bans p) (map (held_of bans) xs) (scanned moment query (map (held_of bans) xs)))) (passing (held_of bans p) (scanned moment query (map (held_of bans) xs))))
    (scanned moment query (map (held_of bans) xs))
scan_of_first moment query bans true p xs = refl
scan_of_first moment query bans false p xs = refl

-- an object that was tested is seen, where it is in time
tested_seen : (moment : ℕ) (bans : List Issued) (issued : ℕ) (p : Placed) (objects : List Placed) → in_time moment p.view.object ≡ true → above issued bans ≡ [] → since issued bans ≡ []
    → seen moment bans (tested_at issued p ∷ objects) ≡ cleared (held_of bans p) ∷ seen moment bans objects
tested_seen moment bans issued p objects t a s = rw (t, a, s) refl

alive_seen : (moment : ℕ) (bans : List Issued) (p : Placed) (objects : List Placed) → in_time moment p.view.object ≡ true → is_dead bans p ≡ false → seen moment bans (p ∷ objects) ≡ held_of bans p ∷ seen moment bans objects
alive_seen moment bans p objects t d = rw (t, d) refl

late_seen : (moment : ℕ) (bans : List Issued) (p : Placed) (objects : List Placed) → in_time moment p.view.object ≡ false → seen moment bans (p ∷ objects) ≡ seen moment bans objects
late_seen moment bans p objects t = rw (t) refl

dead_seen : (moment : ℕ) (bans : List Issued) (p : Placed) (objects : List Placed) → in_time moment p.view.object ≡ true → is_dead bans p ≡ true → seen moment bans (p ∷ objects) ≡ seen moment bans objects
dead_seen moment bans p objects t d = rw (t, d) refl

passed_seen : (moment : ℕ) (bans : List Issued) (x : Placed) (held : Held) (late : Scan Placed) (law : Scan Held) → law ≡ seen_scan moment bans late → seen moment bans (x ∷ late.objects) ≡ held ∷ seen moment bans late.objects
    → passing held law ≡ seen_scan moment bans (passing x late)
passed_seen moment bans x held late law ih e = ap (passing held) ih ∙ ap (λ (os : List Held). record { fresh = late.fresh; grace = late.grace; stale = late.stale; objects = os }) (sym e)

hidden_seen : (moment : ℕ) (bans : List Issued) (x : Placed) (late : Scan Placed) (law : Scan Held) → law ≡ seen_scan moment bans late → seen moment bans (x ∷ late.objects) ≡ seen moment bans late.objects
    → law ≡ seen_scan moment bans (passing x late)
hidden_seen moment bans x late law ih e = ih ∙ ap (λ (os : List Held). record { fresh = late.fresh; grace = late.grace; stale = late.stale; objects = os }) (sym e)

saw_seen : (moment : ℕ) (query : Query) (bans : List Issued) (view : ObjectView) (x : Placed) (held : Held) (late : Scan Placed) (law : Scan Held) → law ≡ seen_scan moment bans late → seen moment bans (x ∷ late.objects) ≡ held ∷ seen moment bans late.objects
    → seeing moment query.options view held law ≡ seen_scan moment bans (seeing moment query.options view x late)
saw_seen moment query bans view x held late law ih e =
    ap (seeing moment query.options view held) ih
    ∙ ap (λ (os : List Held). record { fresh = (seeing moment query.options view x late).fresh; grace = (seeing moment query.options view x late).grace; stale = (seeing moment query.options view x late).stale; objects = os }) (sym e)

ended_seen : (moment : ℕ) (bans : List Issued) (view : ObjectView) (x : Placed) (held : Held) (objects : List Placed) → seen moment bans (x ∷ objects) ≡ held ∷ seen moment bans objects
    → ending view held (seen moment bans objects) ≡ seen_scan moment bans (ending view x objects)
ended_seen moment bans view x held objects e = ap (λ (os : List Held). record { fresh = Some view; grace = None; stale = None; objects = os }) (sym e)

scan_case : (moment : ℕ) (query : Query) (bans : List Issued) (issued : ℕ) (p : Placed) (objects : List Placed) (late : Scan Placed) (law : Scan Held) (timely dead ours met suits fresh : Bool)
    → in_time moment p.view.object ≡ timely → is_dead bans p ≡ dead → above issued bans ≡ [] → since issued bans ≡ [] → law ≡ seen_scan moment bans late
    → cond (timely && not dead) (cond ours (cond met law (cond suits (cond fresh (ending p.view (cleared (held_of bans p)) (seen moment bans objects)) (seeing moment query.options p.view (cleared (held_of bans p)) law)) (passing (cleared (held_of bans p)) law))) (passing (held_of bans p) law)) law
    ≡ seen_scan moment bans (cond ours (cond timely (cond (dead || met) late (cond suits (cond fresh (ending p.view (tested_at issued p) objects) (seeing moment query.options p.view (tested_at issued p) late)) (passing (tested_at issued p) late))) (passing p late)) (passing p late))
scan_case moment query bans issued p objects late law false dead true met suits fresh t d a s ih = hidden_seen moment bans p late law ih (late_seen moment bans p late.objects t)
scan_case moment query bans issued p objects late law false dead false met suits fresh t d a s ih = hidden_seen moment bans p late law ih (late_seen moment bans p late.objects t)
scan_case moment query bans issued p objects late law true true true met suits fresh t d a s ih = ih
scan_case moment query bans issued p objects late law true true false met suits fresh t d a s ih = hidden_seen moment bans p late law ih (dead_seen moment bans p late.objects t d)
scan_case moment query bans issued p objects late law true false false met suits fresh t d a s ih = passed_seen moment bans p (held_of bans p) late law ih (alive_seen moment bans p late.objects t d)
scan_case moment query bans issued p objects late law true false true true suits fresh t d a s ih = ih
scan_case moment query bans issued p objects late law true false true false false fresh t d a s ih =
    passed_seen moment bans (tested_at issued p) (cleared (held_of bans p)) late law ih (tested_seen moment bans issued p late.objects t a s)
scan_case moment query bans issued p objects late law true false true false true true t d a s ih =
    ended_seen moment bans p.view (tested_at issued p) (cleared (held_of bans p)) objects (tested_seen moment bans issued p objects t a s)
scan_case moment query bans issued p objects late law true false true false true false t d a s ih =
    saw_seen moment query bans p.view (tested_at issued p) (cleared (held_of bans p)) late law ih (tested_seen moment bans issued p late.objects t a s)

pub seen_scanned : (moment : ℕ) (query : Query) (bans : List Issued) (issued : ℕ) (objects : List Placed) → above issued bans ≡ [] → since issued bans ≡ []
    → scanned moment query (seen moment bans objects) ≡ seen_scan moment bans (scanned_late moment query bans issued objects)
seen_scanned moment query bans issued [] a s = refl
seen_scanned moment query bans issued (p ∷ objects) a s =
    scan_of_first moment query bans (is_alive moment bans p) p (those_alive moment bans objects)
    ∙ scan_case moment query bans issued p objects (scanned_late moment query bans issued objects) (scanned moment query (seen moment bans objects))
    (in_time moment p.view.object) (is_dead bans p) (same_texts (key_of p.view.object) query.key) (is_met bans query.request p) (is_chosen_by query p.view.object) (is_fresh moment query.options p.view.object)
    refl refl a s (seen_scanned moment query bans issued objects a s)

-- ---- what a lookup answers

-- the reply, and what it leaves of objects and bans, where a scan found so
pub record FindsSo (state : State) (caller : ℕ) (query : Query) (moment : ℕ) (bans : List Issued) (fresh grace stale : Option ObjectView) (objects : List Placed) : Type 0 where
  pub answer : (found (record state { objects = seen moment bans objects }) caller query fresh grace stale).reply ≡ (found (desk_of state) caller query fresh grace stale).reply
  pub at : (found (record state { objects = seen moment bans objects }) caller query fresh grace stale).state.moment ≡ state.moment
  pub count : (found (record state { objects = seen moment bans objects }) caller query fresh grace stale).state.issued ≡ state.issued
  pub those : (found (record state { objects = seen moment bans objects }) caller query fresh grace stale).state.bans ≡ state.bans
  pub left : (found (record state { objects = seen moment bans objects }) caller query fresh grace stale).state.objects ≡ seen moment bans (used_by state.entries fresh grace objects)

fresh_so : (state : State) (caller : ℕ) (query : Query) (moment : ℕ) (bans : List Issued) (objects : List Placed) (view : ObjectView) (object : Object)
    → let step = found_fresh (record state { objects = seen moment bans objects }) caller query.key view object in
    (step.reply ≡ (found_fresh (desk_of state) caller query.key view object).reply) × (step.state.moment ≡ state.moment) × (step.state.issued ≡ state.issued) × (step.state.bans ≡ state.bans)
    × (step.state.objects ≡ seen moment bans (cond (is_marker object) (touched_late state.entries view.number objects) (counted_late state.entries view.number objects)))
fresh_so state caller query moment bans objects view (Ordinary response) = (refl, refl, refl, refl, seen_counted moment bans state.entries view.number objects)
fresh_so state caller query moment bans objects view (HitForMiss marker) = (refl, refl, refl, refl, seen_touched moment bans state.entries view.number objects)
fresh_so state caller query moment bans objects view (HitForPass marker) = (refl, refl, refl, refl, seen_touched moment bans state.entries view.number objects)

grace_so : (state : State) (caller : ℕ) (query : Query) (moment : ℕ) (bans : List Issued) (objects : List Placed) (view : ObjectView) (token : Option ℕ)
    → let step = found_grace (record state { objects = seen moment bans objects }) caller query.key view token in
    (step.reply ≡ (found_grace (desk_of state) caller query.key view token).reply) × (step.state.moment ≡ state.moment) × (step.state.issued ≡ state.issued) × (step.state.bans ≡ state.bans)
    × (step.state.objects ≡ seen moment bans (counted_late state.entries view.number objects))
grace_so state caller query moment bans objects view None = (refl, refl, refl, refl, seen_counted moment bans state.entries view.number objects)
grace_so state caller query moment bans objects view (Some token) = (refl, refl, refl, refl, seen_counted moment bans state.entries view.number objects)

wait_so : (state : State) (caller : ℕ) (query : Query) (moment : ℕ) (bans : List Issued) (objects : List Placed) (stale : Option ObjectView) (token : Option ℕ)
    → let step = waited_or_missed (record state { objects = seen moment bans objects }) caller query.key stale token in
    (step.reply ≡ (waited_or_missed (desk_of state) caller query.key stale token).reply) × (step.state.moment ≡ state.moment) × (step.state.issued ≡ state.issued) × (step.state.bans ≡ state.bans)
    × (step.state.objects ≡ seen moment bans objects)
wait_so state caller query moment bans objects stale None = (refl, refl, refl, refl, refl)
wait_so state caller query moment bans objects stale (Some token) = (refl, refl, refl, refl, refl)

pub finds_so : (state : State) (caller : ℕ) (query : Query) (moment : ℕ) (bans : List Issued) (fresh grace stale : Option ObjectView) (objects : List Placed) → FindsSo state caller query moment bans fresh grace stale objects
finds_so state caller query moment bans (Some view) grace stale objects =
    let all = fresh_so state caller query moment bans objects view view.object in
    record { answer = all.0; at = all.1; count = all.2; those = all.3; left = all.4 }
finds_so state caller query moment bans None (Some view) stale objects =
    let all = grace_so state caller query moment bans objects view (least_token query.key state.fetches) in
    record { answer = all.0; at = all.1; count = all.2; those = all.3; left = all.4 }
finds_so state caller query moment bans None None stale objects =
    let all = wait_so state caller query moment bans objects stale (busy query (least_token query.key state.fetches)) in
    record { answer = all.0; at = all.1; count = all.2; those = all.3; left = all.4 }
