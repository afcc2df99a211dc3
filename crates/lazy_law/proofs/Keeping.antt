-- What holds of each object holds of each that is left, where it stays so as marks move up and uses change.
use Rattle.std.proofs.Common.{◌≡◌, ℕ, Bool, true, false, not, cond, List, [], ◌∷◌, ◌&&◌, Option, Some, None, filter, refl}
use Rattle.std.specs.List.{AllByRecursion}
use Rattle.cache_law.specs.declared.object.Object.{Object}
use Rattle.cache_law.specs.declared.object.ObjectView.{ObjectView}
use Rattle.cache_law.specs.declared.ban.Issued.{Issued}
use Rattle.cache_law.specs.declared.call.Query.{Query}
use Rattle.cache_law.specs.Object.{in_time, is_marker, key_of, same_texts}
use Rattle.cache_law.specs.Lookup.{Scan, ending, is_chosen_by, is_fresh, passing, raised, seeing}
use Rattle.cache_law.proofs.Held.{all-filter, all-map}
use Rattle.lazy_law.specs.Placed.{Placed, is_alive, is_dead, is_unswept, marked_at, tested_at, those_alive, tidied}
use Rattle.lazy_law.specs.Scan.{counted_late, counting_late, is_struck, scanned_late, touched_late, touching_late, used_by}
use Rattle.lazy_law.specs.Purging.{is_softened, soft_of, softened_late, softening_late}
use Rattle.lazy_law.specs.Insertion.{fits_late, has_number, made_room, others_late, outweighs_late, staying_late, tended}
use Rattle.lazy_law.specs.Sweeping.{swept, sweeping}

-- It stays so as the object is used, and once it was tested on all bans, of which so many were issued.
pub record Stays (issued : ℕ) (P : Placed → Type 0) : Type 0 where
  pub counts : (place : ℕ) (p : Placed) → P p → P (record p { view = raised p.view; used = place })
  pub touches : (place : ℕ) (p : Placed) → P p → P (record p { used = place })
  pub tests : (p : Placed) → P p → P (tested_at issued p)
  pub marks : (p : Placed) → P p → P (marked_at issued p)

chosen : (P : Placed → Type 0) (b : Bool) (one other : Placed) → P one → P other → P (cond b one other)
chosen P true one other here there = here
chosen P false one other here there = there

chosen_scan : (P : Placed → Type 0) (b : Bool) (one other : Scan Placed) → AllByRecursion P one.objects → AllByRecursion P other.objects → AllByRecursion P (cond b one other).objects
chosen_scan P true one other here there = here
chosen_scan P false one other here there = there

chosen_all : (P : Placed → Type 0) (b : Bool) (one other : List Placed) → AllByRecursion P one → AllByRecursion P other → AllByRecursion P (cond b one other)
chosen_all P true one other here there = here
chosen_all P false one other here there = there

pub keep_left : (P : Placed → Type 0) (stale : Option ℕ) (objects : List Placed) → AllByRecursion P objects → AllByRecursion P (others_late stale objects)
keep_left P None objects all = all
keep_left P (Some stale) objects all = all-filter P (λ p. not (has_number stale p)) objects all

module _ (issued : ℕ) (P : Placed → Type 0) (stays : Stays issued P) where
  pub keep_scanned : (moment : ℕ) (query : Query) (bans : List Issued) (objects : List Placed) → AllByRecursion P objects → AllByRecursion P (scanned_late moment query bans issued objects).objects
  keep_scanned moment query bans [] all = tt
  keep_scanned moment query bans (p ∷ objects) all =
      let late : Scan Placed = scanned_late moment query bans issued objects in
      let rest : AllByRecursion P late.objects = keep_scanned moment query bans objects all.1 in
      let o : Object = p.view.object in
      let t : Placed = tested_at issued p in
      let seen_ : Scan Placed = seeing moment query.options p.view t late in
      let fresh : Scan Placed = ending p.view t objects in
      let suited : Scan Placed = cond (is_fresh moment query.options o) fresh seen_ in
      let tested_ : Scan Placed = cond (is_chosen_by query o) suited (passing t late) in
      let timely : Scan Placed = cond (is_struck bans query p) late tested_ in
      chosen_scan P (same_texts (key_of o) query.key) (cond (in_time moment o) timely (passing p late)) (passing p late)
      (chosen_scan P (in_time moment o) timely (passing p late)
      (chosen_scan P (is_struck bans query p) late tested_ rest
      (chosen_scan P (is_chosen_by query o) suited (passing t late)
      (chosen_scan P (is_fresh moment query.options o) fresh seen_ (stays.tests p all.0, all.1) (stays.tests p all.0, rest))
      (stays.tests p all.0, rest)))
      (all.0, rest))
      (all.0, rest)

  pub keep_counted : (place number : ℕ) (objects : List Placed) → AllByRecursion P objects → AllByRecursion P (counted_late place number objects)
  keep_counted place number objects all = all-map P P (counting_late place number) (λ p here. chosen P _ (record p { view = raised p.view; used = place }) p (stays.counts place p here) here) objects all

  pub keep_touched : (place number : ℕ) (objects : List Placed) → AllByRecursion P objects → AllByRecursion P (touched_late place number objects)
  keep_touched place number objects all = all-map P P (touching_late place number) (λ p here. chosen P _ (record p { used = place }) p (stays.touches place p here) here) objects all

  pub keep_used : (place : ℕ) (fresh grace : Option ObjectView) (objects : List Placed) → AllByRecursion P objects → AllByRecursion P (used_by place fresh grace objects)
  keep_used place None None objects all = all
  keep_used place None (Some view) objects all = keep_counted place view.number objects all
  keep_used place (Some view) grace objects all =
      chosen_all P (is_marker view.object) (touched_late place view.number objects) (counted_late place view.number objects) (keep_touched place view.number objects all) (keep_counted place view.number objects all)

  pub keep_tidied : (moment : ℕ) (bans : List Issued) (objects : List Placed) → AllByRecursion P objects → AllByRecursion P (tidied moment bans issued objects)
  keep_tidied moment bans objects all = all-map P P (marked_at issued) stays.marks (those_alive moment bans objects) (all-filter P (is_alive moment bans) objects all)

  keep_tended : (moment : ℕ) (bans : List Issued) (objects : List Placed) → AllByRecursion P objects → AllByRecursion P (tended moment bans issued objects)
  keep_tended moment bans objects all =
      all-map P P (sweeping (is_unswept bans) issued) (λ p here. chosen P (is_unswept bans p) (marked_at issued p) p (stays.marks p here) here) (those_alive moment bans objects)
      (all-filter P (is_alive moment bans) objects all)

  pub keep_made : (room size moment : ℕ) (bans : List Issued) (others : List Placed) → AllByRecursion P others → AllByRecursion P (made_room room size moment bans issued others)
  keep_made room size moment bans others all =
      let tidy : List Placed = tended moment bans issued others in
      chosen_all P (fits_late room size others) others (staying_late room size tidy) all
      (all-filter P (λ p. not (outweighs_late room size tidy p)) tidy (keep_tended moment bans others all))

  pub keep_swept : (chosen_ : Placed → Bool) (bans : List Issued) (objects : List Placed) → AllByRecursion P objects → AllByRecursion P (swept chosen_ bans issued objects)
  keep_swept chosen_ bans objects all =
      all-map P P (sweeping chosen_ issued) (λ p here. chosen P (chosen_ p) (marked_at issued p) p (stays.marks p here) here) (filter (λ p. not (chosen_ p && is_dead bans p)) objects)
      (all-filter P (λ p. not (chosen_ p && is_dead bans p)) objects all)

-- Of a soft purge: of each that it comes to, and of each other, as the premises say.
soften_case : (P Q : Placed → Type 0) (moment issued : ℕ) (p : Placed) (b : Bool) → (b ≡ true → P p → Q (soft_of moment issued p)) → (b ≡ false → P p → Q p) → P p → Q (cond b (soft_of moment issued p) p)
soften_case P Q moment issued p true on off here = on refl here
soften_case P Q moment issued p false on off here = off refl here

pub keep_softened : (P Q : Placed → Type 0) (moment : ℕ) (keys : List (List ℕ)) (bans : List Issued) (issued : ℕ) → ((p : Placed) → is_softened moment keys p ≡ true → P p → Q (soft_of moment issued p)) → ((p : Placed) → is_softened moment keys p ≡ false → P p → Q p)
    → (objects : List Placed) → AllByRecursion P objects → AllByRecursion Q (softened_late moment keys bans issued objects)
keep_softened P Q moment keys bans issued on off objects all =
    all-map P Q (softening_late moment keys issued) (λ p here. soften_case P Q moment issued p (is_softened moment keys p) (on p) (off p) here) (filter (λ p. not (is_softened moment keys p && is_dead bans p)) objects)
    (all-filter P (λ p. not (is_softened moment keys p && is_dead bans p)) objects all)
