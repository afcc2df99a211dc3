-- What a ban does to the objects in memory is what it does by the law.
use Rattle.std.proofs.Common.{◌≡◌, ℕ, Bool, true, false, not, cond, List, [], ◌∷◌, ◌++◌, ◌<◌, ◌&&◌, nat_lt, filter, map, None, inl, inr, refl, arith, sym, ap, ◌∙◌}
use Rattle.std.specs.List.{AllByRecursion}
use Rattle.std.proofs.lemmas.Bool.{lt-ltb}
use Rattle.cache_law.specs.declared.ban.Ban.{Ban}
use Rattle.cache_law.specs.declared.ban.Issued.{Issued}
use Rattle.cache_law.specs.Object.{in_time}
use Rattle.cache_law.specs.Bans.{ban_matches, matches, object_only}
use Rattle.cache_law.specs.ShownBans.{IsPartOf, ShowsBans}
use Rattle.cache_law.specs.BansAtOnce.{AwaitIssued, awaiting, ban_over, open_lines}
use Rattle.cache_law.specs.State.{Held, those_in_time}
use Rattle.cache_law.proofs.WaitingBans.{all_bans_shown}
use Rattle.flat_core.specs.declared.stored_object.StoredObject.{StoredObject}
use Rattle.flat_core.specs.declared.stored_object.Fate.TheVariants.{Stays, Goes}
use Rattle.flat_core.specs.StoredObject.{is_waiting, since, waiting, held_of, held_all, left_of, settled}
use Rattle.flat_core.specs.Banning.{banned_fate, ban_fates}

-- a part of a list, and a part of the list with one more
skip_one : (part bans : List Issued) (issued : Issued) → IsPartOf part bans → IsPartOf part (issued ∷ bans)
skip_one [] bans issued p = tt
skip_one (ban ∷ part) bans issued p = inr p

one_part : (b : Bool) (part bans : List Issued) (issued : Issued) → IsPartOf part bans → IsPartOf (cond b (issued ∷ part) part) (issued ∷ bans)
one_part true part bans issued p = inl (refl, p)
one_part false part bans issued p = skip_one part bans issued p

none_part : (bans : List Issued) → IsPartOf [] bans
none_part bans = tt

since_part : (b : Bool) (count : ℕ) (issued : Issued) (bans : List Issued) → IsPartOf (waiting bans count) bans → IsPartOf (filter is_waiting (cond b (issued ∷ since count bans) [])) (issued ∷ bans)
since_part true count issued bans p = one_part (is_waiting issued) (waiting bans count) bans issued p
since_part false count issued bans p = tt

pub waiting_part : (bans : List Issued) (count : ℕ) → IsPartOf (waiting bans count) bans
waiting_part [] count = tt
waiting_part (issued ∷ bans) count = since_part (nat_lt count issued.number) count issued bans (waiting_part bans count)

one_await : (bans : List Issued) (b : Bool) (held : Held) (rest : List Held) → IsPartOf held.pending bans → AwaitIssued bans rest → AwaitIssued bans (cond b (held ∷ rest) rest)
one_await bans true held rest p all = (p, all)
one_await bans false held rest p all = all

all_await : (bans : List Issued) (objects : List StoredObject) (now : ℕ) → AwaitIssued bans (those_in_time now (held_all bans objects))
all_await bans [] now = tt
all_await bans (kept ∷ objects) now =
    one_await bans (in_time now kept.view.object) (held_of bans kept) _ (waiting_part bans kept.tested) (all_await bans objects now)

-- all bans show what waits for the objects
pub all_listed : (bans : List Issued) (objects : List StoredObject) (now : ℕ) → ShowsBans bans (those_in_time now (held_all bans objects)) (open_lines bans)
all_listed bans objects now = all_bans_shown bans (those_in_time now (held_all bans objects)) (all_await bans objects now)

-- one more ban waits, or none more, by what it looks at
wait_one : (b : Bool) (issued : Issued) (rest : List Issued) → (b ≡ true → cond b (issued ∷ rest) rest ≡ issued ∷ rest) × (b ≡ false → cond b (issued ∷ rest) rest ≡ rest)
wait_one true issued rest = (λ e. refl, λ e. cc)
wait_one false issued rest = (λ e. cc, λ e. refl)

taken : (issued : Issued) (bans : List Issued) (tested : ℕ) → tested < issued.number → waiting (issued ∷ bans) tested ≡ cond (is_waiting issued) (issued ∷ waiting bans tested) (waiting bans tested)
taken issued bans tested below = rw (lt-ltb tested issued.number below) refl

same_wait : (issued : Issued) (bans : List Issued) (tested : ℕ) → tested < issued.number → object_only issued.ban ≡ true → waiting (issued ∷ bans) tested ≡ waiting bans tested
same_wait issued bans tested below alone = taken issued bans tested below ∙ (wait_one (is_waiting issued) issued (waiting bans tested)).1 (ap not alone)

more_wait : (issued : Issued) (bans : List Issued) (tested : ℕ) → tested < issued.number → object_only issued.ban ≡ false → waiting (issued ∷ bans) tested ≡ issued ∷ waiting bans tested
more_wait issued bans tested below waits = taken issued bans tested below ∙ (wait_one (is_waiting issued) issued (waiting bans tested)).0 (ap not waits)

-- each object was last tested before the ban was issued
abbrev pub AreBefore : Issued → List StoredObject → Type 0
AreBefore issued objects = AllByRecursion (λ kept. kept.tested < issued.number) objects

-- A ban on objects alone: what goes in memory and by the law.
banned_one : (now count : ℕ) (issued : Issued) (bans : List Issued) (ban : Ban) (kept : StoredObject) (objects : List StoredObject) (rest : List Held) (lives matched : Bool) → in_time now kept.view.object ≡ lives → matches kept.view.object issued ≡ matched → kept.tested < issued.number → object_only issued.ban ≡ true
    → those_in_time now (held_all (issued ∷ bans) objects) ≡ filter (λ (held : Held). not (matches held.view.object issued)) rest
    → those_in_time now (held_all (issued ∷ bans) (left_of count (cond (lives && matched) Goes Stays) kept ++ objects)) ≡ filter (λ (held : Held). not (matches held.view.object issued)) (cond lives (held_of bans kept ∷ rest) rest)
banned_one now count issued bans ban kept objects rest false matched e m below alone ih = rw (e) ih
banned_one now count issued bans ban kept objects rest true false e m below alone ih = rw (e, m, same_wait issued bans kept.tested below alone, ih) refl
banned_one now count issued bans ban kept objects rest true true e m below alone ih = rw (m) ih

all_banned : (now count : ℕ) (issued : Issued) (bans : List Issued) (objects : List StoredObject) → issued.moment ≡ now → AreBefore issued objects → object_only issued.ban ≡ true
    → those_in_time now (held_all (issued ∷ bans) (settled count (map (banned_fate now issued.ban) objects) objects)) ≡ filter (λ (held : Held). not (matches held.view.object issued)) (those_in_time now (held_all bans objects))
all_banned now count issued bans [] at_ tested alone = refl
all_banned now count issued bans (kept ∷ objects) at_ tested alone =
    ap (λ (m : ℕ). those_in_time now (held_all (issued ∷ bans) (left_of count (cond (in_time now kept.view.object && ban_matches issued.ban m kept.view.object None) Goes Stays) kept ++ settled count (map (banned_fate now issued.ban) objects) objects))) (sym at_)
    ∙ banned_one now count issued bans issued.ban kept (settled count (map (banned_fate now issued.ban) objects) objects) (those_in_time now (held_all bans objects)) (in_time now kept.view.object) (matches kept.view.object issued) refl refl tested.0 alone (all_banned now count issued bans objects at_ tested.1 alone)

-- Any other ban: it waits for each object.
waits_one : (now : ℕ) (issued : Issued) (held : Held) (lives : Bool) (late early : List Held) → late ≡ map (awaiting issued) early → cond lives (awaiting issued held ∷ late) late ≡ map (awaiting issued) (cond lives (held ∷ early) early)
waits_one now issued held true late early e = ap (λ (rest : List Held). awaiting issued held ∷ rest) e
waits_one now issued held false late early e = e

all_wait : (now : ℕ) (issued : Issued) (bans : List Issued) (objects : List StoredObject) → AreBefore issued objects → object_only issued.ban ≡ false
    → those_in_time now (held_all (issued ∷ bans) objects) ≡ map (awaiting issued) (those_in_time now (held_all bans objects))
all_wait now issued bans [] tested waits = refl
all_wait now issued bans (kept ∷ objects) tested waits =
    rw (more_wait issued bans kept.tested tested.0 waits)
    (waits_one now issued (held_of bans kept) (in_time now kept.view.object) _ _ (all_wait now issued bans objects tested.1 waits))

by_kind : (now count : ℕ) (issued : Issued) (bans : List Issued) (objects : List StoredObject) (alone : Bool) → object_only issued.ban ≡ alone → issued.moment ≡ now → AreBefore issued objects
    → those_in_time now (held_all (issued ∷ bans) (settled count (cond alone (map (banned_fate now issued.ban) objects) []) objects))
    ≡ cond alone (filter (λ (held : Held). not (matches held.view.object issued)) (those_in_time now (held_all bans objects))) (map (awaiting issued) (those_in_time now (held_all bans objects)))
by_kind now count issued bans objects true e at_ tested = all_banned now count issued bans objects at_ tested e
by_kind now count issued bans objects false e at_ tested = all_wait now issued bans objects tested e

-- what the ban leaves in memory is what it leaves by the law
pub bans_over : (now count : ℕ) (issued : Issued) (bans : List Issued) (objects : List StoredObject) → issued.moment ≡ now → AreBefore issued objects
    → those_in_time now (held_all (issued ∷ bans) (settled count (ban_fates now issued.ban objects) objects)) ≡ ban_over issued (those_in_time now (held_all bans objects))
bans_over now count issued bans objects at_ tested = by_kind now count issued bans objects (object_only issued.ban) refl at_ tested
