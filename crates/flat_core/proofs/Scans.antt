-- What a lookup's scan sees in memory is what it finds by the law, and what it leaves.
use Rattle.std.proofs.Common.{◌≡◌, ℕ, Bool, true, false, cond, List, [], ◌∷◌, ◌++◌, ◌+◌, ◌-◌, ◌<◌, ◌&&◌, ◌||◌, ◌==◌, length, take, drop, get_or, filter, Option, Some, None, refl, sym, ap, ◌∙◌, append_assoc}
use Rattle.std.proofs.lemmas.Bool.{eqb-true}
use Rattle.std.specs.List.{list_any}
use Rattle.std.specs.Option.{option_or}
use Rattle.cache_law.specs.declared.ban.Issued.{Issued}
use Rattle.cache_law.specs.declared.object.Object.{Object}
use Rattle.cache_law.specs.declared.object.ObjectView.{ObjectView}
use Rattle.cache_law.specs.declared.call.Query.{Query}
use Rattle.cache_law.specs.declared.call.RequestView.{RequestView}
use Rattle.cache_law.specs.Object.{in_time, key_of, same_texts, can_confirm}
use Rattle.cache_law.specs.Bans.{meets}
use Rattle.cache_law.specs.BansAtOnce.{cleared, is_met}
use Rattle.cache_law.specs.Bases.{AreFalling}
use Rattle.cache_law.specs.State.{Held, those_in_time}
use Rattle.cache_law.specs.Lookup.{Scan, scanned, is_chosen_by, is_fresh, is_in_grace, ending, passing, seeing as going_on}
use Rattle.flat_core.specs.declared.stored_object.StoredObject.{StoredObject}
use Rattle.flat_core.specs.declared.stored_object.Fate.{Fate}
use Rattle.flat_core.specs.declared.stored_object.Fate.TheVariants.{Stays, Tested}
use Rattle.flat_core.specs.declared.matching.LookupMatch.{LookupMatch}
use Rattle.flat_core.specs.declared.matching.LookupMatch.TheVariants.{Other, Banned, Unfit, Aged, Fresh}
use Rattle.flat_core.specs.declared.scan.Seen.{Seen}
use Rattle.flat_core.specs.StoredObject.{is_waiting, since, held_of, held_all, held_left, settled_held}
use Rattle.flat_core.specs.Scans.{is_struck, is_end, nothing_seen, seeing, seen_all, sight_of, joined}
use Rattle.flat_core.proofs.Objects.{none_waits}
use Rattle.cache_desk.proofs.Passes.{drop_one, drop_all}

any_one : (b later : Bool) (rest : List Issued) (test : Issued → Bool) (issued : Issued) → list_any test rest ≡ later → list_any test (cond b (issued ∷ rest) rest) ≡ ((b && test issued) || later)
any_one true later rest test issued e = rw e refl
any_one false later rest test issued e = e

-- a test of those that wait
pub any-waiting : (object : Object) (request : RequestView) (bans : List Issued) → list_any (meets object request) (filter is_waiting bans) ≡ list_any (is_struck object request) bans
any-waiting object request [] = refl
any-waiting object request (issued ∷ bans) = any_one (is_waiting issued) _ _ (meets object request) issued (any-waiting object request bans)

-- an object that was tested on all bans is left as it is once it was tested on all
all_tested : (issued : ℕ) (bans : List Issued) (done : Bool) (kept : StoredObject) (rest : List Held) → AreFalling (issued + 1) bans → (kept.tested == issued) ≡ done → held_left (cond done Stays Tested) (held_of bans kept) ++ rest ≡ cleared (held_of bans kept) ∷ rest
all_tested issued bans true kept rest falling e =
    let same : kept.tested ≡ issued = eqb-true _ _ e in
    rw (same, none_waits issued bans falling) refl
all_tested issued bans false kept rest falling e = refl

-- the law's scan, by what was seen
abbrev pub as_scan : ℕ → List Held → Seen → Scan Held
as_scan now objects seen =
    record { fresh = seen.fresh; grace = seen.grace; stale = seen.stale; objects = those_in_time now (settled_held seen.fates objects) }

-- the law's scan of one object before others, by five tests of it
abbrev law_one : ℕ → Query → Held → List Held → Scan Held → Bool → Bool → Bool → Bool → Bool → Scan Held
law_one now query held rest scan lives ours met chosen fresh =
    cond lives
    (cond ours
    (cond met scan
    (cond chosen (cond fresh (ending held.view (cleared held) rest) (going_on now query.options held.view (cleared held) scan)) (passing (cleared held) scan)))
    (passing held scan))
    scan

law_scan : (now : ℕ) (query : Query) (held : Held) (rest : List Held) (lives : Bool) → scanned now query (cond lives (held ∷ rest) rest) ≡ law_one now query held rest (scanned now query rest) lives (same_texts (key_of held.view.object) query.key) (is_met query.request held) (is_chosen_by query held.view.object) (is_fresh now query.options held.view.object)
law_scan now query held rest true = refl
law_scan now query held rest false = refl

-- what is seen in an object, by these tests
abbrev sight_by : Bool → Bool → Bool → Bool → Bool → LookupMatch
sight_by lives ours met chosen fresh = cond (lives && ours) (cond met Banned (cond chosen (cond fresh Fresh Aged) Unfit)) Other

one_seen : (now : ℕ) (query : Query) (issued : ℕ) (bans : List Issued) (kept : StoredObject) (hs : List Held) (scan : Scan Held) (later : Seen) (lives ours met chosen fresh : Bool) → AreFalling (issued + 1) bans
    → in_time now kept.view.object ≡ lives → scan ≡ as_scan now hs later
    → law_one now query (held_of bans kept) (those_in_time now hs) scan lives ours met chosen fresh ≡ as_scan now (held_of bans kept ∷ hs) (seeing now query issued (sight_by lives ours met chosen fresh) kept later)
one_seen now query issued bans kept hs scan later false ours met chosen fresh falling e ih = rw (e, ih) refl
one_seen now query issued bans kept hs scan later true false met chosen fresh falling e ih = rw (e, ih) refl
one_seen now query issued bans kept hs scan later true true true chosen fresh falling e ih = ih
one_seen now query issued bans kept hs scan later true true false false fresh falling e ih =
    rw (all_tested issued bans (kept.tested == issued) kept (settled_held later.fates hs) falling refl, e, ih) refl
one_seen now query issued bans kept hs scan later true true false true false falling e ih =
    rw (all_tested issued bans (kept.tested == issued) kept (settled_held later.fates hs) falling refl, e, ih) refl
one_seen now query issued bans kept hs scan later true true false true true falling e ih =
    rw (all_tested issued bans (kept.tested == issued) kept hs falling refl, e) refl

-- the scan of the objects that are in time finds what was seen in memory, and leaves what the fates leave
pub scans : (now : ℕ) (query : Query) (issued : ℕ) (bans : List Issued) (objects : List StoredObject) → AreFalling (issued + 1) bans → scanned now query (those_in_time now (held_all bans objects)) ≡ as_scan now (held_all bans objects) (seen_all now query issued bans objects)
scans now query issued bans [] falling = refl
scans now query issued bans (kept ∷ objects) falling =
    let object : Object = kept.view.object in
    let met = any-waiting object query.request (since kept.tested bans) in
    law_scan now query (held_of bans kept) (those_in_time now (held_all bans objects)) (in_time now object)
    ∙ one_seen now query issued bans kept (held_all bans objects) _ (seen_all now query issued bans objects) (in_time now object) (same_texts (key_of object) query.key) (is_met query.request (held_of bans kept)) (is_chosen_by query object) (is_fresh now query.options object) falling refl (scans now query issued bans objects falling)
    ∙ ap (λ (b : Bool). as_scan now (held_of bans kept ∷ held_all bans objects) (seeing now query issued (sight_by (in_time now object) (same_texts (key_of object) query.key) b (is_chosen_by query object) (is_fresh now query.options object)) kept (seen_all now query issued bans objects))) met

or_none : (o : Option ObjectView) → option_or o None ≡ o
or_none None = refl
or_none (Some view) = refl

or_or : (a b c : Option ObjectView) → option_or (option_or a b) c ≡ option_or a (option_or b c)
or_or None b c = refl
or_or (Some view) b c = refl

first_or : (passes : Bool) (view : ObjectView) (later : Option ObjectView) → cond passes (Some view) later ≡ option_or (cond passes (Some view) None) later
first_or true view later = refl
first_or false view later = refl

append_none : (fates : List Fate) → fates ++ [] ≡ fates
append_none [] = refl
append_none (fate ∷ fates) = ap (λ (rest : List Fate). fate ∷ rest) (append_none fates)

-- a scan that saw nothing more
pub joined_nothing : (seen : Seen) → joined seen nothing_seen ≡ seen
joined_nothing seen = rw (or_none seen.fresh, or_none seen.grace, or_none seen.stale, append_none seen.fates) refl

joined_joined : (a b c : Seen) → joined (joined a b) c ≡ joined a (joined b c)
joined_joined a b c = rw (or_or a.fresh b.fresh c.fresh, or_or a.grace b.grace c.grace, or_or a.stale b.stale c.stale, append_assoc a.fates b.fates c.fates) refl

-- what is seen before what comes later
goes_on : (now : ℕ) (query : Query) (count : ℕ) (sight : LookupMatch) (kept : StoredObject) (later : Seen) → is_end sight ≡ false → seeing now query count sight kept later ≡ joined (seeing now query count sight kept nothing_seen) later
goes_on now query count Other kept later e = refl
goes_on now query count Banned kept later e = refl
goes_on now query count Unfit kept later e = refl
goes_on now query count Aged kept later e =
    rw (first_or (is_in_grace now query.options kept.view.object) kept.view later.grace, first_or (can_confirm kept.view.object) kept.view later.stale) refl
goes_on now query count Fresh kept later e = cc

still_open : (now : ℕ) (query : Query) (count : ℕ) (sight : LookupMatch) (kept : StoredObject) → is_end sight ≡ false → (seeing now query count sight kept nothing_seen).fresh ≡ None
still_open now query count Other kept e = refl
still_open now query count Banned kept e = refl
still_open now query count Unfit kept e = refl
still_open now query count Aged kept e = refl
still_open now query count Fresh kept e = cc

-- the scan so far, and what it sees behind
pub record SeenSo (now : ℕ) (query : Query) (issued : ℕ) (bans : List Issued) (objects : List StoredObject) (place : ℕ) (seen : Seen) : Type 0 where
  pub whole : seen_all now query issued bans objects ≡ joined seen (seen_all now query issued bans (drop place objects))
  pub open_ : seen.fresh ≡ None

next_whole : (now : ℕ) (query : Query) (issued : ℕ) (bans : List Issued) (objects : List StoredObject) (place : ℕ) (seen : Seen) (kept : StoredObject) → place < length objects → SeenSo now query issued bans objects place seen → kept ≡ get_or objects place kept → seen_all now query issued bans objects ≡ joined seen (seeing now query issued (sight_of now query bans kept) kept (seen_all now query issued bans (drop (place + 1) objects)))
next_whole now query issued bans objects place seen kept below so at_ =
    so.whole
    ∙ ap (λ (rest : List StoredObject). joined seen (seen_all now query issued bans rest)) (drop_one objects place kept below at_)

pub see_more : (now : ℕ) (query : Query) (issued : ℕ) (bans : List Issued) (objects : List StoredObject) (place : ℕ) (seen new : Seen) (sight : LookupMatch) (kept : StoredObject) → place < length objects → SeenSo now query issued bans objects place seen → kept ≡ get_or objects place kept → sight ≡ sight_of now query bans kept → is_end sight ≡ false → new ≡ joined seen (seeing now query issued sight kept nothing_seen) → SeenSo now query issued bans objects (place + 1) new
see_more now query issued bans objects place seen new sight kept below so at_ sees goes is_ =
    let later : Seen = seen_all now query issued bans (drop (place + 1) objects) in
    record {
      whole = next_whole now query issued bans objects place seen kept below so at_
          ∙ ap (λ (s : LookupMatch). joined seen (seeing now query issued s kept later)) (sym sees)
          ∙ ap (joined seen) (goes_on now query issued sight kept later goes)
          ∙ sym (joined_joined seen (seeing now query issued sight kept nothing_seen) later)
          ∙ ap (λ (s : Seen). joined s later) (sym is_);
      open_ = ap (λ (s : Seen). s.fresh) is_ ∙ rw (so.open_) (still_open now query issued sight kept goes);
    }

ends_there : (now : ℕ) (query : Query) (count : ℕ) (sight : LookupMatch) (kept : StoredObject) (later : Seen) → is_end sight ≡ true → seeing now query count sight kept later ≡ seeing now query count sight kept nothing_seen
ends_there now query count Other kept later e = cc
ends_there now query count Banned kept later e = cc
ends_there now query count Unfit kept later e = cc
ends_there now query count Aged kept later e = cc
ends_there now query count Fresh kept later e = refl

pub see_end : (now : ℕ) (query : Query) (issued : ℕ) (bans : List Issued) (objects : List StoredObject) (place : ℕ) (seen new : Seen) (sight : LookupMatch) (kept : StoredObject) → place < length objects → SeenSo now query issued bans objects place seen → kept ≡ get_or objects place kept → sight ≡ sight_of now query bans kept → is_end sight ≡ true → new ≡ joined seen (seeing now query issued sight kept nothing_seen) → new ≡ seen_all now query issued bans objects
see_end now query issued bans objects place seen new sight kept below so at_ sees ends is_ =
    let later : Seen = seen_all now query issued bans (drop (place + 1) objects) in
    is_
    ∙ ap (joined seen) (sym (ends_there now query issued sight kept later ends))
    ∙ ap (λ (s : LookupMatch). joined seen (seeing now query issued s kept later)) sees
    ∙ sym (next_whole now query issued bans objects place seen kept below so at_)

pub seen_whole : (now : ℕ) (query : Query) (issued : ℕ) (bans : List Issued) (objects : List StoredObject) (place : ℕ) (seen : Seen) → place ≡ length objects → SeenSo now query issued bans objects place seen → seen ≡ seen_all now query issued bans objects
seen_whole now query issued bans objects place seen end_ so =
    sym (joined_nothing seen)
    ∙ ap (λ (rest : List StoredObject). joined seen (seen_all now query issued bans rest)) (sym (drop_all objects place end_))
    ∙ sym so.whole
