-- What is done with the objects in memory is done with those of the law.
use Rattle.std.proofs.Common.{◌≡◌, ℕ, Bool, true, false, not, cond, List, [], ◌∷◌, ◌++◌, ◌+◌, ◌≤◌, ◌<◌, zero, suc, ◌&&◌, ◌||◌, ◌==◌, length, take, drop, get_or, add-one, append_assoc, filter, map, Option, Some, None, refl, arith, sym, ap, ◌∙◌}
use Rattle.std.specs.List.{list_all, list_any}
use Rattle.std.proofs.lemmas.Bool.{and_parts, le-ltb}
use Rattle.std.specs.Option.{option_map_or}
use Rattle.cache_law.specs.declared.ban.Issued.{Issued}
use Rattle.cache_law.specs.Object.{in_time}
use Rattle.cache_law.specs.BansAtOnce.{cleared}
use Rattle.cache_law.specs.Bases.{AreFalling}
use Rattle.cache_law.specs.State.{Held, those_in_time, without_stale, inherited}
use Rattle.cache_law.specs.Lookup.{counting, counted, touching, touched}
use Rattle.flat_core.specs.declared.stored_object.StoredObject.{StoredObject}
use Rattle.flat_core.specs.declared.stored_object.Fate.{Fate}
use Rattle.flat_core.specs.declared.stored_object.Fate.TheVariants.{Stays, Tested, Goes}
use Rattle.flat_core.specs.StoredObject.{is_waiting, since, waiting, held_of, held_all, left_of, settled, held_left, settled_held, is_change, moved_on, stays, tested_for}
use Rattle.cache_desk.proofs.Passes.{at_next, drop_all, take_all}

-- no ban was issued behind so many where all have lesser numbers
pub since_low : (count bound : ℕ) (bans : List Issued) → bound ≤ count + 1 → AreFalling bound bans → since count bans ≡ []
since_low count bound [] low falling = refl
since_low count bound (ban ∷ bans) low falling = rw (le-ltb count ban.number (omega (arith, low, falling.0))) refl

-- nothing waits for an object that was tested on all bans
pub none_waits : (issued : ℕ) (bans : List Issued) → AreFalling (issued + 1) bans → waiting bans issued ≡ []
none_waits issued bans falling = ap (filter is_waiting) (since_low issued (issued + 1) bans (omega arith) falling)

kept_or_not : (bans : List Issued) (b : Bool) (kept : StoredObject) (objects : List StoredObject) → held_all bans (cond b (kept ∷ objects) objects) ≡ cond b (held_of bans kept ∷ held_all bans objects) (held_all bans objects)
kept_or_not bans true kept objects = refl
kept_or_not bans false kept objects = refl

-- those in time in memory are those in time by the law
pub held_all-filter : (bans : List Issued) (now : ℕ) (objects : List StoredObject) → held_all bans (filter (λ (kept : StoredObject). in_time now kept.view.object) objects) ≡ those_in_time now (held_all bans objects)
held_all-filter bans now [] = refl
held_all-filter bans now (kept ∷ objects) =
    kept_or_not bans (in_time now kept.view.object) kept (filter (λ (k : StoredObject). in_time now k.view.object) objects)
    ∙ ap (λ (rest : List Held). cond (in_time now kept.view.object) (held_of bans kept ∷ rest) rest) (held_all-filter bans now objects)

kept_whole : (b : Bool) (kept : StoredObject) (objects rest : List StoredObject) → b ≡ true → rest ≡ objects → kept ∷ objects ≡ cond b (kept ∷ rest) rest
kept_whole true kept objects rest e same = ap (λ (k : List StoredObject). kept ∷ k) (sym same)
kept_whole false kept objects rest e same = cc

-- where all are in time, none goes
pub filter-all : (now : ℕ) (objects : List StoredObject) → list_all (λ (kept : StoredObject). in_time now kept.view.object) objects ≡ true → objects ≡ filter (λ (kept : StoredObject). in_time now kept.view.object) objects
filter-all now [] e = refl
filter-all now (kept ∷ objects) e =
    let both = and_parts (in_time now kept.view.object) (list_all (λ (k : StoredObject). in_time now k.view.object) objects) e in
    kept_whole (in_time now kept.view.object) kept objects _ both.0 (sym (filter-all now objects both.1))

mapped_or_not : (f : Held → Held) (held : Held) (lives : Bool) (late early : List Held) → late ≡ map f early → cond lives (f held ∷ late) late ≡ map f (cond lives (held ∷ early) early)
mapped_or_not f held true late early e = ap (λ (rest : List Held). f held ∷ rest) e
mapped_or_not f held false late early e = e

-- what changes no object's time leaves in time what is in time
in_time-map : (now : ℕ) (f : Held → Held) → ((held : Held) → in_time now (f held).view.object ≡ in_time now held.view.object) → (objects : List Held) → those_in_time now (map f objects) ≡ map f (those_in_time now objects)
in_time-map now f same [] = refl
in_time-map now f same (held ∷ objects) =
    ap (λ (b : Bool). cond b (f held ∷ those_in_time now (map f objects)) (those_in_time now (map f objects))) (same held)
    ∙ mapped_or_not f held (in_time now held.view.object) _ _ (in_time-map now f same objects)

same_time : (now : ℕ) (b : Bool) (one two : Held) → one.view.object ≡ two.view.object → in_time now (cond b one two).view.object ≡ in_time now two.view.object
same_time now true one two e = ap (in_time now) e
same_time now false one two e = refl

-- a hit changes nothing of an object's time
pub in_time-counted : (now place number : ℕ) (objects : List Held) → those_in_time now (counted place number objects) ≡ counted place number (those_in_time now objects)
in_time-counted now place number objects = in_time-map now (counting place number) (λ held. same_time now (held.view.number == number) _ held refl) objects

pub in_time-touched : (now place number : ℕ) (objects : List Held) → those_in_time now (touched place number objects) ≡ touched place number (those_in_time now objects)
in_time-touched now place number objects = in_time-map now (touching place number) (λ held. same_time now (held.view.number == number) _ held refl) objects

or_same : (a later : Bool) → (a || later) ≡ ((a && true) || later)
or_same true later = refl
or_same false later = refl

or_none : (a later : Bool) → later ≡ ((a && false) || later)
or_none true later = refl
or_none false later = refl

any_or_not : (bans : List Issued) (now stale : ℕ) (kept : StoredObject) (lives : Bool) (rest : List Held) (later : Bool) → list_any (λ (held : Held). held.view.number == stale) rest ≡ later → list_any (λ (held : Held). held.view.number == stale) (cond lives (held_of bans kept ∷ rest) rest) ≡ (((kept.view.number == stale) && lives) || later)
any_or_not bans now stale kept true rest later e = rw e (or_same (kept.view.number == stale) later)
any_or_not bans now stale kept false rest later e = e ∙ or_none (kept.view.number == stale) later

-- an object in time of this number, in memory and by the law
pub any-in_time : (bans : List Issued) (now stale : ℕ) (objects : List StoredObject) → list_any (λ (held : Held). held.view.number == stale) (those_in_time now (held_all bans objects)) ≡ list_any (λ (kept : StoredObject). (kept.view.number == stale) && in_time now kept.view.object) objects
any-in_time bans now stale [] = refl
any-in_time bans now stale (kept ∷ objects) = any_or_not bans now stale kept (in_time now kept.view.object) _ _ (any-in_time bans now stale objects)

kept_one : (bans : List Issued) (b : Bool) (kept : StoredObject) (objects : List StoredObject) (rest : List Held) → held_all bans objects ≡ rest → held_all bans (cond b (kept ∷ objects) objects) ≡ cond b (held_of bans kept ∷ rest) rest
kept_one bans true kept objects rest e = ap (λ (hs : List Held). held_of bans kept ∷ hs) e
kept_one bans false kept objects rest e = e

-- the objects that stay, in memory and by the law
pub held_all-stays : (bans : List Issued) (stale : Option ℕ) (objects : List StoredObject) → held_all bans (filter (stays stale) objects) ≡ without_stale stale (held_all bans objects)
held_all-stays bans None [] = refl
held_all-stays bans None (kept ∷ objects) = ap (λ (hs : List Held). held_of bans kept ∷ hs) (held_all-stays bans None objects)
held_all-stays bans (Some stale) [] = refl
held_all-stays bans (Some stale) (kept ∷ objects) = kept_one bans (not (kept.view.number == stale)) kept _ _ (held_all-stays bans (Some stale) objects)

inherits_one : (issued : ℕ) (bans : List Issued) (b : Bool) (kept : StoredObject) (later : Option StoredObject) (held : Option Held) → waiting bans (option_map_or (λ (k : StoredObject). k.tested) later issued) ≡ option_map_or (λ (h : Held). h.pending) held []
    → waiting bans (option_map_or (λ (k : StoredObject). k.tested) (cond b (Some kept) later) issued) ≡ option_map_or (λ (h : Held). h.pending) (cond b (Some (held_of bans kept)) held) []
inherits_one issued bans true kept later held e = refl
inherits_one issued bans false kept later held e = e

-- what waits for the object in the stale one's place is what waited for that
pub inherits : (issued : ℕ) (bans : List Issued) (stale : Option ℕ) (objects : List StoredObject) → AreFalling (issued + 1) bans → waiting bans (tested_for issued stale objects) ≡ inherited stale (held_all bans objects)
inherits issued bans None objects falling = none_waits issued bans falling
inherits issued bans (Some stale) [] falling = none_waits issued bans falling
inherits issued bans (Some stale) (kept ∷ objects) falling = inherits_one issued bans (kept.view.number == stale) kept _ _ (inherits issued bans (Some stale) objects falling)

-- what is left of the objects, in memory and by the law
one_left : (issued : ℕ) (bans : List Issued) (fate : Fate) (kept : StoredObject) (objects : List StoredObject) (rest : List Held) → AreFalling (issued + 1) bans → held_all bans objects ≡ rest → held_all bans (left_of issued fate kept ++ objects) ≡ held_left fate (held_of bans kept) ++ rest
one_left issued bans Stays kept objects rest falling e = ap (λ (hs : List Held). held_of bans kept ∷ hs) e
one_left issued bans Tested kept objects rest falling e = rw (none_waits issued bans falling) (ap (λ (hs : List Held). cleared (held_of bans kept) ∷ hs) e)
one_left issued bans Goes kept objects rest falling e = e

pub held_all-settled : (issued : ℕ) (bans : List Issued) (fates : List Fate) (objects : List StoredObject) → AreFalling (issued + 1) bans → held_all bans (settled issued fates objects) ≡ settled_held fates (held_all bans objects)
held_all-settled issued bans [] objects falling = refl
held_all-settled issued bans (fate ∷ fates) [] falling = refl
held_all-settled issued bans (fate ∷ fates) (kept ∷ objects) falling = one_left issued bans fate kept _ _ falling (held_all-settled issued bans fates objects falling)

settled_none : (count : ℕ) (fates : List Fate) → settled count fates [] ≡ []
settled_none count [] = refl
settled_none count (fate ∷ fates) = refl

append_none : (objects : List StoredObject) → objects ++ [] ≡ objects
append_none [] = refl
append_none (kept ∷ objects) = ap (λ (rest : List StoredObject). kept ∷ rest) (append_none objects)

no_fate : (n : ℕ) → get_or [] n Stays ≡ Stays
no_fate zero = refl
no_fate (suc n) = refl

settled_next : (count : ℕ) (fates : List Fate) (n : ℕ) (objects : List StoredObject) (d : StoredObject) → n < length objects → settled count fates (take (suc n) objects) ≡ settled count fates (take n objects) ++ left_of count (get_or fates n Stays) (get_or objects n d)
settled_next count fates n [] d h = absurd (omega arith)
settled_next count [] zero (kept ∷ objects) d h = refl
settled_next count [] (suc n) (kept ∷ objects) d h = ap (λ (rest : List StoredObject). kept ∷ rest) (settled_next count [] n objects d (omega arith) ∙ ap (λ (fate : Fate). take n objects ++ left_of count fate (get_or objects n d)) (no_fate n))
settled_next count (fate ∷ fates) zero (kept ∷ objects) d h =
    ap (λ (rest : List StoredObject). left_of count fate kept ++ rest) (settled_none count fates) ∙ append_none (left_of count fate kept)
settled_next count (fate ∷ fates) (suc n) (kept ∷ objects) d h =
    ap (λ (rest : List StoredObject). left_of count fate kept ++ rest) (settled_next count fates n objects d (omega arith))
    ∙ sym (append_assoc (left_of count fate kept) (settled count fates (take n objects)) (left_of count (get_or fates n Stays) (get_or objects n d)))

-- the first object is passed on, as its fate leaves it
pub settle_more : (count : ℕ) (fates : List Fate) (n : ℕ) (objects now new : List StoredObject) → n < length objects → now ≡ drop n objects ++ settled count fates (take n objects) → new ≡ moved_on count (get_or fates n Stays) now → new ≡ drop (n + 1) objects ++ settled count fates (take (n + 1) objects)
settle_more count fates n [] now new below so_far moves = absurd (omega arith)
settle_more count fates n (d ∷ rest) now new below so_far moves =
    let objects : List StoredObject = d ∷ rest in
    let x : StoredObject = get_or objects n d in
    let left : List StoredObject = left_of count (get_or fates n Stays) x in
    moves
    ∙ ap (moved_on count (get_or fates n Stays)) (so_far ∙ ap (λ (rest : List StoredObject). rest ++ settled count fates (take n objects)) (at_next n objects d below))
    ∙ append_assoc (drop (suc n) objects) (settled count fates (take n objects)) left
    ∙ ap (λ (rest : List StoredObject). drop (suc n) objects ++ rest) (sym (settled_next count fates n objects d below))
    ∙ ap (λ (k : ℕ). drop k objects ++ settled count fates (take k objects)) (sym (add-one n))

pub settle_whole : (count : ℕ) (fates : List Fate) (n : ℕ) (objects now : List StoredObject) → n ≡ length objects → now ≡ drop n objects ++ settled count fates (take n objects) → now ≡ settled count fates objects
settle_whole count fates n objects now end_ so_far =
    so_far
    ∙ ap (λ (rest : List StoredObject). rest ++ settled count fates (take n objects)) (drop_all objects n end_)
    ∙ ap (settled count fates) (take_all objects n end_)

one_stays : (count : ℕ) (fate : Fate) (kept : StoredObject) (objects rest : List StoredObject) (later : Bool) → (is_change fate || later) ≡ false → (later ≡ false → objects ≡ rest) → kept ∷ objects ≡ left_of count fate kept ++ rest
one_stays count Stays kept objects rest later e same = ap (λ (o : List StoredObject). kept ∷ o) (same e)
one_stays count Tested kept objects rest later e same = cc
one_stays count Goes kept objects rest later e same = cc

-- where nothing changes, all stay
pub all_stay : (count : ℕ) (fates : List Fate) (objects : List StoredObject) → list_any is_change fates ≡ false → objects ≡ settled count fates objects
all_stay count [] objects e = refl
all_stay count (fate ∷ fates) [] e = refl
all_stay count (fate ∷ fates) (kept ∷ objects) e = one_stays count fate kept objects _ (list_any is_change fates) e (all_stay count fates objects)

pub settle_start : (count : ℕ) (fates : List Fate) (objects : List StoredObject) → objects ≡ drop 0 objects ++ settled count fates (take 0 objects)
settle_start count fates objects = sym (append_none objects) ∙ ap (λ (rest : List StoredObject). objects ++ rest) (sym (settled_none count fates))
