-- What each change of the objects in memory leaves is what the law leaves.
use Rattle.std.proofs.Common.{◌≤◌, ◌≡◌, ℕ, Bool, true, false, List, ◌∷◌, ◌+◌, ◌<◌, length, map, filter, Option, inr, refl, arith, sym, ap, ◌∙◌}
use Rattle.std.proofs.lemmas.Bool.{cond-true, cond-false}
use Rattle.cache_law.specs.declared.object.Object.{Object}
use Rattle.cache_law.specs.declared.object.ObjectView.{ObjectView}
use Rattle.cache_law.specs.declared.ban.Ban.{Ban}
use Rattle.cache_law.specs.declared.ban.Issued.{Issued}
use Rattle.cache_law.specs.declared.call.Call.{Call}
use Rattle.cache_law.specs.declared.call.Call.TheVariants.{Insert, Ban as BanCall, Xkey}
use Rattle.cache_law.specs.declared.call.Reply.{Reply}
use Rattle.cache_law.specs.declared.call.Reply.TheVariants.{Stored, NotInTime, NoRoom, Refused, Banned, Purged}
use Rattle.cache_law.specs.declared.state.OpenFetch.{OpenFetch}
use Rattle.cache_law.specs.Object.{in_time, size_of}
use Rattle.cache_law.specs.Purges.{count_of, softening as softened_by_law}
use Rattle.cache_law.specs.BansAtOnce.{issued_behind, ban_over}
use Rattle.cache_law.specs.State.{State, Held, those_in_time, at_moment, has_fetch, without_fetch, is_gone, without_stale}
use Rattle.cache_law.specs.Room.{staying, has_no_room, stored_over}
use Rattle.cache_law.specs.Law.{Step, behind, refused, placed, inserted, banned, purged_by}
use Rattle.cache_law.proofs.Lawful.{asks_bans}
use Rattle.cache_law.specs.Bases.{AreFalling, AreNumberedApart}
use Rattle.cache_law.proofs.Held.{all-weaken}
use Rattle.cache_desk.specs.declared.answer.Answer.{Answer}
use Rattle.flat_core.specs.declared.stored_object.StoredObject.{StoredObject}
use Rattle.flat_core.specs.declared.stored_object.Fate.{Fate}
use Rattle.flat_core.specs.StoredObject.{held_of, held_all, AreTested, settled, settled_held, first_of, using_in}
use Rattle.flat_core.specs.Room.{stays_from, MakesRoom, HasNone}
use Rattle.flat_core.specs.Banning.{ban_fates}
use Rattle.flat_core.specs.Purging.{has_xkey, is_purged, is_spared, softening}
use Rattle.cache_desk.specs.Answers.{Answers}
use Rattle.cache_frame.specs.Shelves.{used_for}
use Rattle.cache_frame.specs.declared.seen.Use.{Use}
use Rattle.cache_frame.specs.declared.seen.Use.TheVariants.{Nothing, Hit, Marker}
use Rattle.cache_frame.proofs.Joins.{other_reply}
use Rattle.cache_desk.proofs.Replies.{by_law, by_parts, closes, once}
use Rattle.flat_core.proofs.Objects.{held_all-filter, held_all-settled, in_time-counted, in_time-touched, inherits}
use Rattle.flat_core.proofs.Uses.{apart_settled, counted_so, touched_so}
use Rattle.flat_core.proofs.MadeRoom.{stay_so, room_so, none_so}
use Rattle.flat_core.proofs.Bannings.{AreBefore, bans_over}
use Rattle.flat_core.proofs.Purges.{of_object, not_of_object, counts, spared, softened_so}

used_in_time : (now place : ℕ) (use_ : Use) (objects : List Held) → those_in_time now (used_for place use_ objects) ≡ used_for place use_ (those_in_time now objects)
used_in_time now place Nothing objects = refl
used_in_time now place (Hit number) objects = in_time-counted now place number objects
used_in_time now place (Marker number) objects = in_time-touched now place number objects

-- at one place in memory as by the law
used_so : (now place : ℕ) (bans : List Issued) (use_ : Use) (objects : List StoredObject) → AreNumberedApart (those_in_time now (held_all bans objects))
    → those_in_time now (held_all bans (using_in now place use_ objects)) ≡ used_for place use_ (those_in_time now (held_all bans objects))
used_so now place bans Nothing objects apart = refl
used_so now place bans (Hit number) objects apart = counted_so now place number bans objects apart
used_so now place bans (Marker number) objects apart = touched_so now place number bans objects apart

pub used_left : (now place issued : ℕ) (bans : List Issued) (fates : List Fate) (objects later : List StoredObject) (use_ : Use) → AreFalling (issued + 1) bans → AreNumberedApart (those_in_time now (held_all bans objects))
    → later ≡ using_in now place use_ (settled issued fates objects)
    → those_in_time now (held_all bans later) ≡ those_in_time now (used_for place use_ (those_in_time now (settled_held fates (held_all bans objects))))
used_left now place issued bans fates objects later use_ falling apart uses =
    let left : List Held = settled_held fates (held_all bans objects) in
    ap (λ (k : List StoredObject). those_in_time now (held_all bans k)) uses
    ∙ used_so now place bans use_ (settled issued fates objects) (apart_settled now issued bans fates objects falling apart)
    ∙ ap (λ (o : List Held). used_for place use_ (those_in_time now o)) (held_all-settled issued bans fates objects falling)
    ∙ ap (used_for place use_) (sym (once now left))
    ∙ sym (used_in_time now place use_ (those_in_time now left))

-- a ban is issued
pub bans_so : (old : State) (objects later : List StoredObject) (all : List Issued) (issued : Issued) (ban : Ban) (fates : List Fate) (count now : ℕ) (answer : Answer) → old.objects ≡ held_all old.bans objects → AreTested old.issued objects → issued ≡ issued_behind old.issued now ban → all ≡ issued ∷ old.bans → fates ≡ ban_fates now ban objects → count ≡ old.issued + 1 → later ≡ settled count fates objects → answer.told ≡ Banned → answer.kept ≡ Banned → Answers old (record old { moment = now; issued = count; bans = all; objects = held_all all later }) now (BanCall ban) (banned (at_moment now old) ban) answer
bans_so old objects later all issued ban fates count now answer kept_ tested is_ pushed are counts settles told kept =
    let one : Issued = issued_behind old.issued now ban in
    let pushes : all ≡ one ∷ old.bans = pushed ∙ ap (λ (i : Issued). i ∷ old.bans) is_ in
    let left : later ≡ settled count (ban_fates now ban objects) objects = settles ∙ ap (λ (f : List Fate). settled count f objects) are in
    let whole : held_all all later ≡ held_all (one ∷ old.bans) (settled count (ban_fates now ban objects) objects) =
    ap (λ (b : List Issued). held_all b later) pushes ∙ ap (held_all (one ∷ old.bans)) left in
    let before_ : AreBefore one objects = all-weaken (λ (k : StoredObject). k.tested ≤ old.issued) (λ (k : StoredObject). k.tested < one.number) (λ k less. omega (arith, less)) objects tested in
    let over = bans_over now count one old.bans objects refl before_ in
    by_law old (record old { moment = now; issued = count; bans = all; objects = held_all all later }) now (BanCall ban) _ Banned
    (record old { moment = now; issued = old.issued + 1; bans = one ∷ old.bans; objects = ban_over one (those_in_time now old.objects) }) answer refl refl refl refl
    (ap (λ (n : ℕ). record old { moment = now; issued = n; bans = all; objects = those_in_time now (held_all all later) }) counts
    ∙ ap (λ (b : List Issued). record old { moment = now; issued = old.issued + 1; bans = b; objects = those_in_time now (held_all all later) }) pushes
    ∙ ap (λ (o : List Held). record old { moment = now; issued = old.issued + 1; bans = one ∷ old.bans; objects = o })
    (ap (those_in_time now) whole
    ∙ sym (once now (held_all (one ∷ old.bans) (settled count (ban_fates now ban objects) objects)))
    ∙ ap (those_in_time now) (over ∙ ap (λ (o : List Held). ban_over one (those_in_time now o)) (sym kept_)))) told kept

-- the law's step of an insertion of an open fetch whose stale object isn't gone
by_fetch : (room : ℕ) (old : State) (now caller token : ℕ) (object : Object) (stale : Option ℕ) (step : Step) → has_fetch old.fetches caller token ≡ true → is_gone stale (those_in_time now old.objects) ≡ false → placed room (at_moment now old) token object stale ≡ step → inserted room (at_moment now old) caller token object stale ≡ step
by_fetch room old now caller token object stale step opened here e = cond-true _ _ _ opened ∙ cond-false _ _ _ here ∙ e

-- An insertion of an open fetch whose stale object isn't gone: what was kept before it, the objects in memory, and those
-- left of them once what isn't in time is gone; the fetch is closed.
pub record Insertion : Type 0 where
  pub room : ℕ
  pub old : State
  pub views : List StoredObject
  pub left : List StoredObject
  pub now : ℕ
  pub caller : ℕ
  pub token : ℕ
  pub object : Object
  pub stale : Option ℕ
  pub fetches : List OpenFetch
  pub falling : AreFalling (old.issued + 1) old.bans
  pub kept : old.objects ≡ held_all old.bans views
  pub opened : has_fetch old.fetches caller token ≡ true
  pub here : is_gone stale (those_in_time now old.objects) ≡ false
  pub thinned : left ≡ filter (λ (kept : StoredObject). in_time now kept.view.object) views
  pub closed : fetches ≡ without_fetch token old.fetches

abbrev pub law_of : Insertion → Step
law_of i = inserted i.room (at_moment i.now i.old) i.caller i.token i.object i.stale

-- these objects as the law has them
abbrev pub kept_all : Insertion → List StoredObject → List Held
kept_all i views = held_all i.old.bans views

-- what is kept with these objects
abbrev pub keeping : Insertion → List StoredObject → State
keeping i views = record i.old { moment = i.now; objects = kept_all i views; fetches = i.fetches }

-- the answer, with what is kept behind it
abbrev pub Gives : Insertion → List StoredObject → Answer → Type 0
Gives i views answer = Answers i.old (keeping i views) i.now (Insert i.token i.object i.stale) (law_of i) answer

-- what is left are those in time
left_in_time : (i : Insertion) → kept_all i i.left ≡ those_in_time i.now i.old.objects
left_in_time i = ap (kept_all i) i.thinned ∙ held_all-filter i.old.bans i.now i.views ∙ ap (those_in_time i.now) (sym i.kept)

same_left : (i : Insertion) → those_in_time i.now (kept_all i i.left) ≡ those_in_time i.now i.old.objects
same_left i = ap (those_in_time i.now) (left_in_time i) ∙ once i.now i.old.objects

pub too_late : (room : ℕ) (old : State) (now caller token : ℕ) (object : Object) (stale : Option ℕ) (fetches : List OpenFetch) (answer : Answer) → has_fetch old.fetches caller token ≡ true → is_gone stale (those_in_time now old.objects) ≡ false → in_time now object ≡ false → fetches ≡ without_fetch token old.fetches → answer.told ≡ NotInTime → answer.kept ≡ NotInTime → Answers old (record old { moment = now; fetches = fetches }) now (Insert token object stale) (inserted room (at_moment now old) caller token object stale) answer
too_late room old now caller token object stale fetches answer opened here late closed told kept =
    closes old now (Insert token object stale) token _ NotInTime old.objects fetches answer refl (by_fetch room old now caller token object stale _ opened here (cond-false _ _ _ late)) refl refl closed told kept

pub no_room : (i : Insertion) (answer : Answer) → in_time i.now i.object ≡ true → HasNone i.room (size_of i.object) i.stale i.left → answer.told ≡ NoRoom → answer.kept ≡ NoRoom → Gives i i.left answer
no_room i answer lives full told kept =
    let full_ : has_no_room i.room (size_of i.object) (without_stale i.stale (those_in_time i.now i.old.objects)) ≡ true =
    ap (λ (o : List Held). has_no_room i.room (size_of i.object) (without_stale i.stale o)) (sym (left_in_time i)) ∙ none_so i.old.bans i.room (size_of i.object) i.stale i.left full in
    closes i.old i.now (Insert i.token i.object i.stale) i.token _ NoRoom (kept_all i i.left) i.fetches answer refl
    (by_fetch i.room i.old i.now i.caller i.token i.object i.stale _ i.opened i.here (cond-true _ _ _ lives ∙ cond-true _ _ _ full_)) refl (same_left i) i.closed told kept

-- the new object before those that stay
put_first : (i : Insertion) (bound : ℕ) (later : List StoredObject) → MakesRoom i.room (size_of i.object) i.stale i.left bound → later ≡ first_of i.old.entries i.token i.object i.stale i.old.issued i.left ∷ filter (stays_from i.stale bound) i.left
    → kept_all i later ≡ stored_over i.room i.old.entries i.token i.object i.stale (those_in_time i.now i.old.objects)
put_first i bound later makes first =
    let view : ObjectView = record { number = i.token; hits = 0; object = i.object } in
    ap (kept_all i) first
    ∙ ap (λ (rest : List Held). held_of i.old.bans (first_of i.old.entries i.token i.object i.stale i.old.issued i.left) ∷ rest) (stay_so i.old.bans i.room (size_of i.object) i.stale i.left bound makes)
    ∙ ap (λ pending. record { view = view; used = i.old.entries; pending = pending } ∷ staying i.room (size_of i.object) (without_stale i.stale (kept_all i i.left))) (inherits i.old.issued i.old.bans i.stale i.left i.falling)
    ∙ ap (stored_over i.room i.old.entries i.token i.object i.stale) (left_in_time i)

pub stores : (i : Insertion) (bound : ℕ) (later : List StoredObject) (answer : Answer) → in_time i.now i.object ≡ true → MakesRoom i.room (size_of i.object) i.stale i.left bound
    → later ≡ first_of i.old.entries i.token i.object i.stale i.old.issued i.left ∷ filter (stays_from i.stale bound) i.left → answer.told ≡ Stored i.token → answer.kept ≡ Stored i.token → Gives i later answer
stores i bound later answer lives makes first told kept =
    let fits_ : has_no_room i.room (size_of i.object) (without_stale i.stale (those_in_time i.now i.old.objects)) ≡ false =
    ap (λ (o : List Held). has_no_room i.room (size_of i.object) (without_stale i.stale o)) (sym (left_in_time i)) ∙ room_so i.old.bans i.room (size_of i.object) i.stale i.left bound makes in
    by_parts i.old i.now (Insert i.token i.object i.stale) (law_of i) (Stored i.token) i.old.next (kept_all i later) (stored_over i.room i.old.entries i.token i.object i.stale (those_in_time i.now i.old.objects)) i.fetches _ i.old.rounds i.old.rounds answer refl
    (by_fetch i.room i.old i.now i.caller i.token i.object i.stale _ i.opened i.here (cond-true _ _ _ lives ∙ cond-false _ _ _ fits_)) refl
    (ap (those_in_time i.now) (put_first i bound later makes first)) i.closed refl told kept

-- memory was wanting: the fetch is closed and nothing is stored
pub refuses : (room : ℕ) (old : State) (now caller token : ℕ) (object : Object) (stale : Option ℕ) (objects : List Held) (fetches : List OpenFetch) (answer : Answer) → has_fetch old.fetches caller token ≡ true → those_in_time now objects ≡ those_in_time now old.objects → fetches ≡ without_fetch token old.fetches → answer.told ≡ Refused → answer.kept ≡ Refused → Answers old (record old { moment = now; objects = objects; fetches = fetches }) now (Insert token object stale) (inserted room (at_moment now old) caller token object stale) answer
refuses room old now caller token object stale objects fetches answer opened same closed told kept =
    record {
      twice = kept ∙ sym told;
      allows = inr (told, other_reply room (at_moment now old) caller token object stale opened);
      moment = refl;
      leaves = ap (λ (o : List Held). record old { moment = now; objects = o; fetches = fetches }) (same ∙ sym (once now old.objects))
          ∙ ap (λ (f : List OpenFetch). record old { moment = now; objects = those_in_time now (those_in_time now old.objects); fetches = f }) closed
          ∙ ap (λ (r : Reply). at_moment now (behind r (refused (at_moment now old) (Insert token object stale)) (inserted room (at_moment now old) caller token object stale).state)) (sym told);
    }

pub refuses_late : (i : Insertion) (answer : Answer) → answer.told ≡ Refused → answer.kept ≡ Refused → Gives i i.left answer
refuses_late i answer told kept = refuses i.room i.old i.now i.caller i.token i.object i.stale (kept_all i i.left) i.fetches answer i.opened (same_left i) i.closed told kept

-- objects are purged
pub purges : (old : State) (objects later : List StoredObject) (test : Object → Bool) (call : Call) (law : Step) (count now : ℕ) (answer : Answer) → asks_bans call ≡ false → law ≡ record { reply = Purged (count_of (of_object test) (those_in_time now old.objects)); state = record old { moment = now; objects = filter (not_of_object test) (those_in_time now old.objects) } } → old.objects ≡ held_all old.bans objects → later ≡ filter (is_spared now test) objects → count ≡ length (filter (is_purged now test) objects) → answer.told ≡ Purged count → answer.kept ≡ Purged count → Answers old (record old { moment = now; objects = held_all old.bans later }) now call law answer
purges old objects later test call law count now answer one is_ kept_ left counts_ told kept =
    let many : count ≡ count_of (of_object test) (those_in_time now old.objects) =
    counts_ ∙ counts old.bans now test objects ∙ ap (λ (o : List Held). count_of (of_object test) (those_in_time now o)) (sym kept_) in
    by_parts old now call law _ old.next (held_all old.bans later) (filter (not_of_object test) (those_in_time now old.objects)) old.fetches old.fetches old.rounds old.rounds answer one is_ refl
    (ap (λ (k : List StoredObject). those_in_time now (held_all old.bans k)) left
    ∙ sym (once now (held_all old.bans (filter (is_spared now test) objects)))
    ∙ ap (those_in_time now) (spared old.bans now test objects ∙ ap (λ (o : List Held). filter (not_of_object test) (those_in_time now o)) (sym kept_)))
    refl refl (told ∙ ap Purged many) (kept ∙ ap Purged many)

pub softens : (old : State) (objects later : List StoredObject) (keys : List (List ℕ)) (count now : ℕ) (answer : Answer) → old.objects ≡ held_all old.bans objects → later ≡ map (softening now keys) objects → count ≡ length (filter (is_purged now (has_xkey keys)) objects) → answer.told ≡ Purged count → answer.kept ≡ Purged count → Answers old (record old { moment = now; objects = held_all old.bans later }) now (Xkey keys true) (purged_by (at_moment now old) keys true) answer
softens old objects later keys count now answer kept_ left counts_ told kept =
    let many : count ≡ count_of (of_object (has_xkey keys)) (those_in_time now old.objects) =
    counts_ ∙ counts old.bans now (has_xkey keys) objects ∙ ap (λ (o : List Held). count_of (of_object (has_xkey keys)) (those_in_time now o)) (sym kept_) in
    by_parts old now (Xkey keys true) _ _ old.next (held_all old.bans later) (map (softened_by_law now keys) (those_in_time now old.objects)) old.fetches old.fetches old.rounds old.rounds answer refl refl refl
    (ap (λ (k : List StoredObject). those_in_time now (held_all old.bans k)) left
    ∙ softened_so old.bans now keys objects
    ∙ ap (λ (o : List Held). those_in_time now (map (softened_by_law now keys) (those_in_time now o))) (sym kept_))
    refl refl (told ∙ ap Purged many) (kept ∙ ap Purged many)
