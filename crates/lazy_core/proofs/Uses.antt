-- No call leaves an object that was used at the place of a later entry.
use Rattle.std.proofs.Common.{◌≡◌, ◌<◌, ◌+◌, ℕ, Bool, true, false, not, cond, List, [], ◌∷◌, ◌&&◌, Option, Some, None, filter, map, arith}
use Rattle.std.specs.List.{AllByRecursion}
use Rattle.cache_law.specs.declared.object.Object.{Object}
use Rattle.cache_law.specs.declared.ban.Issued.{Issued}
use Rattle.cache_law.specs.declared.call.Reply.TheVariants.{NoRoom, NotInTime}
use Rattle.cache_law.specs.Lookup.{raised}
use Rattle.cache_law.specs.Object.{in_time, size_of}
use Rattle.cache_law.specs.State.{State}
use Rattle.cache_law.proofs.Held.{all-filter, all-map}
use Rattle.ban_lurker.specs.declared.chore.Verdict.{Verdict}
use Rattle.cache_frame.specs.declared.seen.Use.{Use}
use Rattle.lazy_law.specs.Beside.{counted_for_late, touched_for_late}
use Rattle.lazy_law.specs.Insertion.{fits_late, has_no_room_late, made_room, others_late, outweighs_late, staying_late, tended}
use Rattle.lazy_law.specs.Late.{LateStep, leaving_late, placed_late, stored_step}
use Rattle.lazy_law.specs.Placed.{Lazy, Placed, is_alive, is_unswept, kept_bans, marked_at, tested_at, those_alive}
use Rattle.lazy_law.specs.Purging.{softened_late, without_late}
use Rattle.lazy_law.specs.Scan.{counting_late, touching_late}
use Rattle.lazy_law.specs.Sweeping.{is_asked, judged_late, judging, sweeping}
use Rattle.lazy_law.proofs.Keeping.{keep_left, keep_softened}
use Rattle.lazy_store.specs.Numbered.{is_one_of}
use Rattle.lazy_store.specs.Uses.{AreUsedBefore}
use Rattle.lazy_lookup.specs.Marks.{hit_in, marked_by, marker_in, marking, used_in}
use Rattle.lazy_lookup.specs.declared.marks.Marks.{Marks}
use Rattle.lazy_core.specs.Rests.{used_longer}

either : (P : Placed → Type 0) (b : Bool) (one other : Placed) → P one → P other → P (cond b one other)
either P true one other here there = here
either P false one other here there = there

either_all : (P : Placed → Type 0) (b : Bool) (one other : List Placed) → AllByRecursion P one → AllByRecursion P other → AllByRecursion P (cond b one other)
either_all P true one other here there = here
either_all P false one other here there = there

-- ---- a lookup

marked_uses : (place issued : ℕ) (marks : Marks) (objects : List Placed) → AreUsedBefore place objects → AreUsedBefore place (marked_by marks issued objects)
marked_uses place issued marks objects all =
    all-map (λ (p : Placed). p.used < place) (λ (p : Placed). p.used < place) (marking marks issued)
    (λ p less. either (λ (q : Placed). q.used < place) (is_one_of marks.tested p) (tested_at issued p) p less less) (filter (λ (p : Placed). not (is_one_of marks.gone p)) objects)
    (all-filter (λ (p : Placed). p.used < place) (λ (p : Placed). not (is_one_of marks.gone p)) objects all)

counted_uses : (place : ℕ) (hit : Option ℕ) (objects : List Placed) → AreUsedBefore (place + 1) objects → AreUsedBefore (place + 1) (counted_for_late place hit objects)
counted_uses place None objects all = all
counted_uses place (Some number) objects all =
    all-map (λ (p : Placed). p.used < place + 1) (λ (p : Placed). p.used < place + 1) (counting_late place number)
    (λ p less. either (λ (q : Placed). q.used < place + 1) _ (record p { view = raised p.view; used = place }) p (omega arith) less) objects all

touched_uses : (place : ℕ) (marker : Option ℕ) (objects : List Placed) → AreUsedBefore (place + 1) objects → AreUsedBefore (place + 1) (touched_for_late place marker objects)
touched_uses place None objects all = all
touched_uses place (Some number) objects all =
    all-map (λ (p : Placed). p.used < place + 1) (λ (p : Placed). p.used < place + 1) (touching_late place number)
    (λ p less. either (λ (q : Placed). q.used < place + 1) _ (record p { used = place }) p (omega arith) less) objects all

pub taken_uses : (place issued : ℕ) (use_ : Use) (marks : Marks) (objects : List Placed) → AreUsedBefore place objects → AreUsedBefore (place + 1) (used_in place use_ (marked_by marks issued objects))
taken_uses place issued use_ marks objects all =
    let left : List Placed = marked_by marks issued objects in
    touched_uses place (marker_in use_) (counted_for_late place (hit_in use_) left)
    (counted_uses place (hit_in use_) left (used_longer place (place + 1) left (omega arith) (marked_uses place issued marks objects all)))

-- ---- an insertion

tended_uses : (place moment : ℕ) (bans : List Issued) (issued : ℕ) (objects : List Placed) → AreUsedBefore place objects → AreUsedBefore place (tended moment bans issued objects)
tended_uses place moment bans issued objects all =
    all-map (λ (p : Placed). p.used < place) (λ (p : Placed). p.used < place) (sweeping (is_unswept bans) issued)
    (λ p less. either (λ (q : Placed). q.used < place) (is_unswept bans p) (marked_at issued p) p less less) (those_alive moment bans objects)
    (all-filter (λ (p : Placed). p.used < place) (is_alive moment bans) objects all)

made_uses : (place room size moment : ℕ) (bans : List Issued) (issued : ℕ) (others : List Placed) → AreUsedBefore place others → AreUsedBefore place (made_room room size moment bans issued others)
made_uses place room size moment bans issued others all =
    let tidy : List Placed = tended moment bans issued others in
    either_all (λ (p : Placed). p.used < place) (fits_late room size others) others (staying_late room size tidy) all
    (all-filter (λ (p : Placed). p.used < place) (λ (p : Placed). not (outweighs_late room size tidy p)) tidy (tended_uses place moment bans issued others all))

either_step : (P : LateStep → Type 0) (b : Bool) (one other : LateStep) → P one → P other → P (cond b one other)
either_step P true one other here there = here
either_step P false one other here there = there

pub placed_uses : (room : ℕ) (desk : State) (token : ℕ) (object : Object) (stale : Option ℕ) (lazy : Lazy) → AreUsedBefore desk.entries lazy.objects
    → AreUsedBefore (desk.entries + 1) (placed_late room desk token object stale lazy).lazy.objects
placed_uses room desk token object stale lazy all =
    let P : LateStep → Type 0 = λ (step : LateStep). AreUsedBefore (desk.entries + 1) step.lazy.objects in
    let bans : List Issued = kept_bans lazy in
    let others : List Placed = others_late stale lazy.objects in
    let longer : AreUsedBefore (desk.entries + 1) lazy.objects = used_longer desk.entries (desk.entries + 1) lazy.objects (omega arith) all in
    let stored : LateStep = stored_step room desk token object stale lazy in
    let full : LateStep = leaving_late lazy NoRoom in
    either_step P (in_time desk.moment object) (cond (has_no_room_late room (size_of object) desk.moment bans lazy.issued others) full stored) (leaving_late lazy NotInTime)
    (either_step P (has_no_room_late room (size_of object) desk.moment bans lazy.issued others) full stored longer
    (omega arith, made_uses (desk.entries + 1) room (size_of object) desk.moment bans lazy.issued others (keep_left (λ (p : Placed). p.used < desk.entries + 1) stale lazy.objects longer)))
    longer

-- ---- purges

pub purged_uses : (place : ℕ) (test : Placed → Bool) (objects : List Placed) → AreUsedBefore place objects → AreUsedBefore (place + 1) (without_late test objects)
purged_uses place test objects all =
    used_longer place (place + 1) (without_late test objects) (omega arith) (all-filter (λ (p : Placed). p.used < place) (λ (p : Placed). not (test p)) objects all)

pub softened_uses : (place moment : ℕ) (keys : List (List ℕ)) (bans : List Issued) (issued : ℕ) (objects : List Placed) → AreUsedBefore place objects → AreUsedBefore (place + 1) (softened_late moment keys bans issued objects)
softened_uses place moment keys bans issued objects all =
    used_longer place (place + 1) (softened_late moment keys bans issued objects) (omega arith)
    (keep_softened (λ (p : Placed). p.used < place) (λ (p : Placed). p.used < place) moment keys bans issued (λ p e less. less) (λ p e less. less) objects all)

-- ---- a verdict

pub judged_uses : (place : ℕ) (verdict : Verdict) (objects : List Placed) → AreUsedBefore place objects → AreUsedBefore place (judged_late verdict objects)
judged_uses place verdict objects all =
    all-map (λ (p : Placed). p.used < place) (λ (p : Placed). p.used < place) (judging verdict)
    (λ p less. either (λ (q : Placed). q.used < place) (is_asked verdict p) (marked_at verdict.upto p) p less less) (filter (λ (p : Placed). not (is_asked verdict p && verdict.dead)) objects)
    (all-filter (λ (p : Placed). p.used < place) (λ (p : Placed). not (is_asked verdict p && verdict.dead)) objects all)
