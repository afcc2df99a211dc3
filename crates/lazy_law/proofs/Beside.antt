-- What stands for a history stands for it with one more entry where the entry leaves bans and objects so: as they were at its moment,
-- or as a lookup's scan and the use of an object leave them.
use Rattle.std.proofs.Common.{◌≡◌, ◌≤◌, ◌++◌, ℕ, Bool, true, List, [], ◌∷◌, Option, Some, None, refl, sym, ap, ◌∙◌, subst}
use Rattle.std.specs.List.{AllByRecursion}
use Rattle.std.proofs.lemmas.Bool.{false≢true}
use Rattle.cache_law.specs.declared.object.Object.{Object}
use Rattle.cache_law.specs.declared.ban.Issued.{Issued}
use Rattle.cache_law.specs.declared.call.Call.{Call}
use Rattle.cache_law.specs.declared.call.Call.TheVariants.{Insert, Lookup, Xkey}
use Rattle.cache_law.specs.declared.call.Entry.{Entry}
use Rattle.cache_law.specs.declared.call.Query.{Query}
use Rattle.cache_law.specs.declared.call.Reply.{Reply}
use Rattle.cache_law.specs.declared.call.Reply.TheVariants.{Stored}
use Rattle.cache_law.specs.declared.setting.Params.{Params}
use Rattle.cache_law.specs.Beginning.{Beginning}
use Rattle.cache_law.specs.History.{next_state, reached}
use Rattle.cache_law.specs.Lookup.{Scan, scanned}
use Rattle.cache_law.specs.State.{Held, State, at_moment, those_in_time}
use Rattle.cache_law.proofs.Growth.{after_grows}
use Rattle.cache_law.proofs.Held.{all-weaken}
use Rattle.ban_lurker.specs.Looks.{is_stopped, known_by, look_of}
use Rattle.lazy_law.specs.Placed.{Lazy, Placed, kept_bans, seen}
use Rattle.lazy_law.specs.Scan.{scanned_late}
use Rattle.lazy_law.specs.Stands.{Agrees, IsKept, IsWithin, Stands, StandsFor}
use Rattle.lazy_law.specs.Standing.{IsKnownBy, IsUnborn, StandsAt}
use Rattle.lazy_law.specs.Beside.{counted_for, counted_for_late, is_beside, looked_late, touched_for, touched_for_late}
use Rattle.lazy_law.proofs.Growing.{look_push, reached_push, unborn_before}
use Rattle.lazy_law.proofs.Keeping.{Stays, keep_counted, keep_scanned, keep_touched}
use Rattle.lazy_law.proofs.Looking.{IsKnown, all_known, stays_known}
use Rattle.lazy_law.proofs.Seen.{seen_counted, seen_touched}
use Rattle.lazy_law.proofs.Staying.{agreeing_stays, kept_with, standing, stands_by, stays_within}
use Rattle.lazy_law.proofs.Steps.{later_same, scan_same}

-- ---- an entry that stores nothing and softens nothing

-- what is known stays so
quiet : (number : ℕ) (stopped : Bool) (moment : ℕ) (call : Call) (reply : Reply) (known : Option Object) → is_beside call reply ≡ true → known_by number stopped moment call reply known ≡ known
quiet number stopped moment (Insert token object stale) (Stored stored) known e = absurd (false≢true e)
quiet number stopped moment (Xkey keys soft) reply known e = absurd (false≢true e)
quiet number stopped moment call reply known e = refl

quiet_look : (beginning : Beginning) (entries : List Entry) (entry : Entry) (number mark : ℕ) → is_beside entry.call entry.reply ≡ true → look_of beginning (entries ++ entry ∷ []) number mark ≡ look_of beginning entries number mark
quiet_look beginning entries entry number mark e =
    look_push beginning entries entry number mark ∙ quiet number (is_stopped mark (reached beginning entries)) entry.moment entry.call entry.reply (look_of beginning entries number mark) e

-- what stands for the next state stands behind the entry
grow_quiet : (beginning : Beginning) (entries : List Entry) (entry : Entry) (lazy behind : Lazy) → is_beside entry.call entry.reply ≡ true → StandsAt lazy beginning entries → Stands behind (next_state beginning.params (reached beginning entries) entry)
    → AllByRecursion (IsKnownBy (look_of beginning entries)) behind.objects → StandsAt behind beginning (entries ++ entry ∷ [])
grow_quiet beginning entries entry lazy behind e at stands looks =
    record {
      stands = subst (λ (s : State). Stands behind s) (sym (reached_push beginning entries entry)) stands;
      looks = all-weaken (IsKnownBy (look_of beginning entries)) (IsKnownBy (look_of beginning (entries ++ entry ∷ []))) (λ p look mark below. quiet_look beginning entries entry p.view.number mark e ∙ look mark below) behind.objects looks;
      unborn = λ number unborn mark.
          quiet_look beginning entries entry number mark e
          ∙ at.unborn number (unborn_before beginning.params (reached beginning entries) entry number (subst (λ (s : State). IsUnborn s number) (reached_push beginning entries entry) unborn)) mark;
    }

next_moment : (params : Params) (state : State) (entry : Entry) → (next_state params state entry).moment ≡ entry.moment
next_moment params state entry = (after_grows params state entry.caller entry.moment entry.call entry.reply).moment

-- the next state has these bans and objects
stands_there : (lazy : Lazy) (params : Params) (state : State) (entry : Entry) (bans : List Issued) (objects : List Held) → IsKept lazy bans → lazy.issued ≡ state.issued → objects ≡ seen entry.moment bans lazy.objects
    → (next_state params state entry).issued ≡ state.issued → (next_state params state entry).bans ≡ bans → (next_state params state entry).objects ≡ objects → Stands lazy (next_state params state entry)
stands_there lazy params state entry bans objects kept count exact issued those left =
    let next : State = next_state params state entry in
    subst (λ (m : ℕ). StandsFor lazy m next.issued next.bans next.objects) (sym (next_moment params state entry))
    (stands_by lazy entry.moment state.issued next.issued bans next.bans objects next.objects issued those left (standing lazy entry.moment state.issued bans objects count kept exact))

pub beside_grows : (beginning : Beginning) (entries : List Entry) (entry : Entry) (lazy : Lazy) → is_beside entry.call entry.reply ≡ true → (reached beginning entries).moment ≤ entry.moment → StandsAt lazy beginning entries
    → (next_state beginning.params (reached beginning entries) entry).issued ≡ (reached beginning entries).issued
    → (next_state beginning.params (reached beginning entries) entry).bans ≡ (reached beginning entries).bans
    → (next_state beginning.params (reached beginning entries) entry).objects ≡ those_in_time entry.moment (reached beginning entries).objects
    → StandsAt lazy beginning (entries ++ entry ∷ [])
beside_grows beginning entries entry lazy e less at issued those left =
    let state : State = reached beginning entries in
    grow_quiet beginning entries entry lazy lazy e at
    (stands_there lazy beginning.params state entry state.bans (those_in_time entry.moment state.objects) at.stands.kept at.stands.count
    (later_same lazy state.moment entry.moment state.issued state.bans state.objects less at.stands) issued those left) at.looks

-- ---- a lookup

counted_seen : (moment : ℕ) (bans : List Issued) (place : ℕ) (hit : Option ℕ) (objects : List Placed) → counted_for place hit (seen moment bans objects) ≡ seen moment bans (counted_for_late place hit objects)
counted_seen moment bans place None objects = refl
counted_seen moment bans place (Some number) objects = seen_counted moment bans place number objects

touched_seen : (moment : ℕ) (bans : List Issued) (place : ℕ) (marker : Option ℕ) (objects : List Placed) → touched_for place marker (seen moment bans objects) ≡ seen moment bans (touched_for_late place marker objects)
touched_seen moment bans place None objects = refl
touched_seen moment bans place (Some number) objects = seen_touched moment bans place number objects

keep_counted_for : (issued : ℕ) (P : Placed → Type 0) → Stays issued P → (place : ℕ) (hit : Option ℕ) (objects : List Placed) → AllByRecursion P objects → AllByRecursion P (counted_for_late place hit objects)
keep_counted_for issued P stays place None objects all = all
keep_counted_for issued P stays place (Some number) objects all = keep_counted issued P stays place number objects all

keep_touched_for : (issued : ℕ) (P : Placed → Type 0) → Stays issued P → (place : ℕ) (marker : Option ℕ) (objects : List Placed) → AllByRecursion P objects → AllByRecursion P (touched_for_late place marker objects)
keep_touched_for issued P stays place None objects all = all
keep_touched_for issued P stays place (Some number) objects all = keep_touched issued P stays place number objects all

keep_looked : (issued : ℕ) (P : Placed → Type 0) → Stays issued P → (moment : ℕ) (query : Query) (bans : List Issued) (place : ℕ) (hit marker : Option ℕ) (objects : List Placed) → AllByRecursion P objects
    → AllByRecursion P (touched_for_late place marker (counted_for_late place hit (scanned_late moment query bans issued objects).objects))
keep_looked issued P stays moment query bans place hit marker objects all =
    let scan : Scan Placed = scanned_late moment query bans issued objects in
    keep_touched_for issued P stays place marker (counted_for_late place hit scan.objects)
    (keep_counted_for issued P stays place hit scan.objects (keep_scanned issued P stays moment query bans objects all))

looked_kept : (lazy : Lazy) (bans : List Issued) (moment : ℕ) (query : Query) (place : ℕ) (hit marker : Option ℕ) → IsKept lazy bans → IsKept (looked_late moment query place hit marker lazy) bans
looked_kept lazy bans moment query place hit marker kept =
    kept_with lazy bans (looked_late moment query place hit marker lazy).objects kept
    (keep_looked lazy.issued (IsWithin lazy.issued) (stays_within lazy.issued) moment query (kept_bans lazy) place hit marker lazy.objects kept.within)
    (keep_looked lazy.issued (Agrees (kept_bans lazy) bans) (agreeing_stays lazy bans kept) moment query (kept_bans lazy) place hit marker lazy.objects kept.agrees)

looked_seen : (lazy : Lazy) (state : State) → IsKept lazy state.bans → (query : Query) (place : ℕ) (hit marker : Option ℕ)
    → touched_for place marker (counted_for place hit (scanned state.moment query (seen state.moment state.bans lazy.objects)).objects) ≡ seen state.moment state.bans (looked_late state.moment query place hit marker lazy).objects
looked_seen lazy state kept query place hit marker =
    let scan : Scan Placed = scanned_late state.moment query (kept_bans lazy) lazy.issued lazy.objects in
    ap (λ (s : Scan Held). touched_for place marker (counted_for place hit s.objects)) (scan_same lazy state kept query)
    ∙ ap (touched_for place marker) (counted_seen state.moment state.bans place hit scan.objects)
    ∙ touched_seen state.moment state.bans place marker (counted_for_late place hit scan.objects)

pub look_grows : (beginning : Beginning) (entries : List Entry) (entry : Entry) (lazy : Lazy) (query : Query) (place : ℕ) (hit marker : Option ℕ) → entry.call ≡ Lookup query → (reached beginning entries).moment ≤ entry.moment → StandsAt lazy beginning entries
    → (next_state beginning.params (reached beginning entries) entry).issued ≡ (reached beginning entries).issued
    → (next_state beginning.params (reached beginning entries) entry).bans ≡ (reached beginning entries).bans
    → (next_state beginning.params (reached beginning entries) entry).objects
    ≡ touched_for place marker (counted_for place hit (scanned entry.moment query (those_in_time entry.moment (reached beginning entries).objects)).objects)
    → StandsAt (looked_late entry.moment query place hit marker lazy) beginning (entries ++ entry ∷ [])
look_grows beginning entries entry lazy query place hit marker call less at issued those left =
    let state : State = reached beginning entries in
    let now : State = at_moment entry.moment state in
    let behind : Lazy = looked_late entry.moment query place hit marker lazy in
    let exact : those_in_time entry.moment state.objects ≡ seen entry.moment state.bans lazy.objects = later_same lazy state.moment entry.moment state.issued state.bans state.objects less at.stands in
    let objects : List Held = touched_for place marker (counted_for place hit (scanned entry.moment query (seen entry.moment state.bans lazy.objects)).objects) in
    let there : (next_state beginning.params state entry).objects ≡ objects = left ∙ ap (λ (os : List Held). touched_for place marker (counted_for place hit (scanned entry.moment query os).objects)) exact in
    grow_quiet beginning entries entry lazy behind (ap (λ (c : Call). is_beside c entry.reply) call) at
    (stands_there behind beginning.params state entry state.bans objects (looked_kept lazy state.bans entry.moment query place hit marker at.stands.kept) at.stands.count
    (looked_seen lazy now at.stands.kept query place hit marker) issued those there)
    (all-weaken (IsKnown lazy.issued (look_of beginning entries)) (IsKnownBy (look_of beginning entries)) (λ p is. is.looks) behind.objects
    (keep_looked lazy.issued (IsKnown lazy.issued (look_of beginning entries)) (stays_known lazy.issued (look_of beginning entries)) entry.moment query (kept_bans lazy) place hit marker lazy.objects
    (all_known lazy.issued (look_of beginning entries) lazy.objects at.stands.kept.within at.looks)))
