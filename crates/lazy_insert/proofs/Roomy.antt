-- Room is made among what is stored as the lazy cache's words have it.
use Rattle.std.proofs.Common.{◌≡◌, ◌≤◌, ◌<◌, ◌+◌, inl, inr, ℕ, Bool, true, false, not, cond, List, [], ◌∷◌, ◌++◌, ◌&&◌, ◌||◌, Option, Some, None, filter, find, length, map, nat_eq, refl, arith, sym, ap, ◌∙◌, subst}
use Rattle.std.specs.List.{list_any, AllByRecursion}
use Rattle.std.specs.Prelude.{nat_le, nat_lt}
use Rattle.std.proofs.lemmas.Bool.{and_parts, false≢true, lt-ltb}
use Rattle.std.proofs.lemmas.Bool.Decides.{nat_tests}
use Rattle.cache_law.specs.declared.ban.Issued.{Issued}
use Rattle.cache_law.specs.Bans.{matches}
use Rattle.cache_law.specs.Object.{size_of}
use Rattle.cache_law.specs.Room.{most_displaced}
use Rattle.cache_law.proofs.Held.{all-filter, all-map}
use Rattle.ban_lurker.specs.Looks.{is_above}
use Rattle.lazy_law.specs.Placed.{Lazy, Placed, above, is_alive, is_dead, is_unswept, kept_bans, marked_at, those_alive}
use Rattle.lazy_law.specs.Insertion.{displaced_late, fits_late, has_number, lacks_room, made_room, others_late, outweighs_late, sizes_late, staying_late, tended}
use Rattle.lazy_law.specs.Sweeping.{swept, sweeping}
use Rattle.lazy_law.proofs.Filters.{any_more, any_of_filter, each, filter_both, filter_of_map, filter_on, filters_swap}
use Rattle.lazy_store.specs.Displaced.{AreDisplaced}
use Rattle.lazy_store.specs.Lurking.{AreSwept, swept_each}
use Rattle.lazy_store.specs.Members.{number_in}
use Rattle.lazy_store.specs.Numbered.{is_one_of}
use Rattle.lazy_store.specs.Tidying.{is_timely, swept_whole, with_timely}
use Rattle.lazy_store.specs.Tied.{AreApart}
use Rattle.lazy_store.proofs.Fewer.{gone_rest}
use Rattle.lazy_store.proofs.Numbers.{none_gone}
use Rattle.lazy_store.proofs.Splits.{IsFound, all_weaken, filter_all, found, none_found, sum_among}
use Rattle.lazy_store.proofs.Sweeps.{others_of}
use Rattle.lazy_insert.specs.Inserted.{IsRoomy, IsTidied, is_full}

-- ---- sizes without the stale one

pub sizes_without : (number : ℕ) (p : Placed) (objects : List Placed) → AreApart number_in objects → find (has_number number) objects ≡ Some p
    → sizes_late objects ≡ size_of p.view.object + sizes_late (others_late (Some number) objects)
sizes_without number p objects apart is =
    let f : IsFound (has_number number) objects p = found (has_number number) objects p is in
    let others : AllByRecursion (λ q. has_number number q ≡ false) (f.split.before ++ f.split.behind) =
    others_of number f.split.before p f.split.behind (subst (AreApart number_in) f.split.is apart) f.passes in
    let weight : Placed → ℕ = λ (q : Placed). size_of q.view.object in
    ap sizes_late f.split.is ∙ sum_among weight f.split.before p f.split.behind
    ∙ ap (λ (n : ℕ). size_of p.view.object + n) (ap sizes_late (sym (ap (others_late (Some number)) f.split.is ∙ gone_rest number f.split.before p f.split.behind others f.passes)))

pub sizes_all : (number : ℕ) (objects : List Placed) → find (has_number number) objects ≡ None → sizes_late objects ≡ sizes_late (others_late (Some number) objects)
sizes_all number objects is =
    ap sizes_late (sym (filter_all (λ (p : Placed). not (has_number number p)) objects
    (all_weaken (λ (p : Placed). has_number number p ≡ false) (λ (p : Placed). not (has_number number p) ≡ true) (λ p e. ap not e) objects (none_found (has_number number) objects is))))

-- ---- those that are in time, once all that wait were tested

and_implied : (u d : Bool) → (d ≡ true → u ≡ true) → (u && d) ≡ d
and_implied true d on = refl
and_implied false true on = absurd (false≢true (on refl))
and_implied false false on = refl

pub dead_waits : (bans : List Issued) (p : Placed) → is_dead bans p ≡ true → is_unswept bans p ≡ true
dead_waits bans p dead =
    any_more (λ (i : Issued). is_above p.mark i && matches p.view.object i) (is_above p.mark) (λ i both. (and_parts (is_above p.mark i) (matches p.view.object i) both).0) bans
    (sym (any_of_filter (matches p.view.object) (is_above p.mark) bans) ∙ dead)

swept_tended : (moment : ℕ) (bans : List Issued) (issued : ℕ) (objects : List Placed) → swept (is_unswept bans) bans issued (filter (is_timely moment) objects) ≡ tended moment bans issued objects
swept_tended moment bans issued objects =
    ap (map (sweeping (is_unswept bans) issued))
    (filter_both (λ (p : Placed). not (is_unswept bans p && is_dead bans p)) (is_timely moment) objects
    ∙ filter_on (λ (p : Placed). is_timely moment p && not (is_unswept bans p && is_dead bans p)) (is_alive moment bans) objects
    (each _ (λ (p : Placed). ap (λ (b : Bool). is_timely moment p && not b) (and_implied (is_unswept bans p) (is_dead bans p) (dead_waits bans p))) objects))

numbered_case : (number issued : ℕ) (p : Placed) (b : Bool) → not (has_number number (cond b (marked_at issued p) p)) ≡ not (has_number number p)
numbered_case number issued p true = refl
numbered_case number issued p false = refl

tended_others : (moment : ℕ) (bans : List Issued) (issued : ℕ) (stale : Option ℕ) (objects : List Placed) → others_late stale (tended moment bans issued objects) ≡ tended moment bans issued (others_late stale objects)
tended_others moment bans issued None objects = refl
tended_others moment bans issued (Some number) objects =
    filter_of_map (λ (p : Placed). not (has_number number p)) (sweeping (is_unswept bans) issued) (those_alive moment bans objects)
    ∙ ap (map (sweeping (is_unswept bans) issued))
    (filter_on (λ (p : Placed). not (has_number number (sweeping (is_unswept bans) issued p))) (λ (p : Placed). not (has_number number p)) (those_alive moment bans objects)
    (each _ (λ (p : Placed). numbered_case number issued p (is_unswept bans p)) (those_alive moment bans objects))
    ∙ filters_swap (λ (p : Placed). not (has_number number p)) (is_alive moment bans) objects)

tidy_others : (moment : ℕ) (stale : Option ℕ) (lazy : Lazy) → others_late stale (swept_whole (with_timely moment lazy)).objects ≡ tended moment (kept_bans lazy) lazy.issued (others_late stale lazy.objects)
tidy_others moment stale lazy =
    ap (others_late stale) (swept_tended moment (kept_bans lazy) lazy.issued lazy.objects) ∙ tended_others moment (kept_bans lazy) lazy.issued stale lazy.objects

-- ---- where it fits

pub roomy_there : (room size moment : ℕ) (stale : Option ℕ) (lazy : Lazy) → fits_late room size (others_late stale lazy.objects) ≡ true → IsRoomy room size moment stale lazy lazy []
roomy_there room size moment stale lazy fits =
    let others : List Placed = others_late stale lazy.objects in
    record {
      free = ap (λ (b : Bool). cond b false (lacks_room room size (tended moment (kept_bans lazy) lazy.issued others))) fits;
      left = sym (none_gone others) ∙ sym (ap (λ (b : Bool). cond b others (staying_late room size (tended moment (kept_bans lazy) lazy.issued others))) fits);
      stored = λ number none_. refl;
    }

-- ---- where it doesn't

full_is : (room size moment : ℕ) (stale : Option ℕ) (lazy : Lazy) → fits_late room size (others_late stale lazy.objects) ≡ false
    → is_full room size moment stale lazy ≡ lacks_room room size (others_late stale (swept_whole (with_timely moment lazy)).objects)
full_is room size moment stale lazy fits =
    ap (λ (b : Bool). cond b false (lacks_room room size (tended moment (kept_bans lazy) lazy.issued (others_late stale lazy.objects)))) fits
    ∙ ap (lacks_room room size) (sym (tidy_others moment stale lazy))

pub full_then : (room size moment : ℕ) (stale : Option ℕ) (old new : Lazy) → fits_late room size (others_late stale old.objects) ≡ false → new ≡ swept_whole (with_timely moment old)
    → lacks_room room size (others_late stale new.objects) ≡ true → is_full room size moment stale old ≡ true
full_then room size moment stale old new fits is lacks =
    full_is room size moment stale old fits ∙ ap (λ (lazy : Lazy). lacks_room room size (others_late stale lazy.objects)) (sym is) ∙ lacks

pub roomy_then : (room size moment : ℕ) (stale : Option ℕ) (old new : Lazy) (numbers : List ℕ) → fits_late room size (others_late stale old.objects) ≡ false → new ≡ swept_whole (with_timely moment old)
    → AreDisplaced room size stale new.objects numbers → IsRoomy room size moment stale old new numbers
roomy_then room size moment stale old new numbers fits is out =
    let others : List Placed = others_late stale new.objects in
    let tidy : List Placed = tended moment (kept_bans old) old.issued (others_late stale old.objects) in
    record {
      free = full_is room size moment stale old fits ∙ ap (λ (lazy : Lazy). lacks_room room size (others_late stale lazy.objects)) (sym is) ∙ out.made;
      left =
          filter_on (λ (p : Placed). not (is_one_of numbers p)) (λ (p : Placed). not (outweighs_late room size others p)) others
          (all_weaken (λ (p : Placed). is_one_of numbers p ≡ outweighs_late room size others p) (λ (p : Placed). not (is_one_of numbers p) ≡ not (outweighs_late room size others p)) (λ p e. ap not e) others out.those)
          ∙ ap (staying_late room size) (ap (λ (lazy : Lazy). others_late stale lazy.objects) is ∙ tidy_others moment stale old)
          ∙ sym (ap (λ (b : Bool). cond b (others_late stale old.objects) (staying_late room size tidy)) fits);
      stored = out.stored;
    }

-- ---- the size alone is too great

no_fit : (room all : ℕ) → room < all → nat_le all room ≡ false
no_fit room all less = grind (arith, nat_tests)

size_case : (room size : ℕ) (others : List Placed) (count : Bool) → room < size → (nat_lt room size || count) ≡ true
size_case room size others count less = ap (λ (b : Bool). b || count) (lt-ltb room size less)

pub too_great : (room size moment : ℕ) (stale : Option ℕ) (lazy : Lazy) → room < size → is_full room size moment stale lazy ≡ true
too_great room size moment stale lazy less =
    let others : List Placed = others_late stale lazy.objects in
    let tidy : List Placed = tended moment (kept_bans lazy) lazy.issued others in
    ap (λ (b : Bool). cond b false (lacks_room room size tidy)) (no_fit room (sizes_late others + size) (omega (arith, less)))
    ∙ size_case room size others (nat_lt most_displaced (length (displaced_late room size tidy))) less

-- ---- what stays so as objects are tested

module _ (P : Placed → Type 0) (marks : (issued : ℕ) (p : Placed) → P p → P (marked_at issued p)) where
  mark_case : (b : Bool) (issued : ℕ) (p : Placed) → P p → P (cond b (marked_at issued p) p)
  mark_case true issued p here = marks issued p here
  mark_case false issued p here = here

  pub each_keeps : (numbers : List ℕ) (lazy : Lazy) → AllByRecursion P lazy.objects → AllByRecursion P (swept_each numbers lazy).objects
  each_keeps [] lazy all = all
  each_keeps (number ∷ numbers) lazy all =
      let before : Lazy = swept_each numbers lazy in
      all-map P P (sweeping (has_number number) before.issued) (λ p here. mark_case (has_number number p) before.issued p here)
      (filter (λ (p : Placed). not (has_number number p && is_dead (kept_bans before) p)) before.objects)
      (all-filter P (λ (p : Placed). not (has_number number p && is_dead (kept_bans before) p)) before.objects (each_keeps numbers lazy all))

  pub tidied_keeps : (moment : ℕ) (old new : Lazy) → IsTidied moment old new → AllByRecursion P old.objects → AllByRecursion P new.objects
  tidied_keeps moment old new (inl same) all = subst (λ (lazy : Lazy). AllByRecursion P lazy.objects) (sym same) all
  tidied_keeps moment old new (inr swept_) all =
      subst (λ (lazy : Lazy). AllByRecursion P lazy.objects) (sym swept_.is)
      (each_keeps swept_.numbers (with_timely moment old) (all-filter P (is_timely moment) old.objects all))

each_frame : (objects : List Placed) (numbers : List ℕ) (lazy : Lazy) → record (swept_each numbers lazy) { objects = objects } ≡ record lazy { objects = objects }
each_frame objects [] lazy = refl
each_frame objects (number ∷ numbers) lazy = each_frame objects numbers lazy

-- nothing but the objects changes
pub tidied_frame : (objects : List Placed) (moment : ℕ) (old new : Lazy) → IsTidied moment old new → record new { objects = objects } ≡ record old { objects = objects }
tidied_frame objects moment old new (inl same) = ap (λ (lazy : Lazy). record lazy { objects = objects }) same
tidied_frame objects moment old new (inr swept_) = ap (λ (lazy : Lazy). record lazy { objects = objects }) swept_.is ∙ each_frame objects swept_.numbers (with_timely moment old)

pub tidied_swept : (moment : ℕ) (old now new : Lazy) → now ≡ with_timely moment old → AreSwept now new → IsTidied moment old new
tidied_swept moment old now new is swept_ = inr (subst (λ (lazy : Lazy). AreSwept lazy new) is swept_)
