-- The use of an object, and what a lookup's marks leave: one comes before the other, whichever.
use Rattle.std.proofs.Common.{◌≡◌, ℕ, Bool, true, false, not, cond, List, [], ◌∷◌, filter, map, nat_eq, refl, sym, ap, ◌∙◌}
use Rattle.std.specs.List.{list_any}
use Rattle.cache_law.specs.Lookup.{raised}
use Rattle.cache_frame.specs.declared.seen.Use.{Use}
use Rattle.cache_frame.specs.declared.seen.Use.TheVariants.{Nothing, Hit, Marker}
use Rattle.lazy_law.specs.Placed.{Lazy, Placed, tested_at}
use Rattle.lazy_law.specs.Insertion.{has_number}
use Rattle.lazy_law.specs.Scan.{counted_late, counting_late, touched_late, touching_late}
use Rattle.lazy_law.proofs.Filters.{each, filter_of_map, map_of_map, passes_on}
use Rattle.lazy_store.specs.Members.{number_in}
use Rattle.lazy_store.specs.Numbered.{is_one_of}
use Rattle.lazy_store.specs.Uses.{hitting, used_at, with_hit}
use Rattle.lazy_lookup.specs.declared.marks.Marks.{Marks}
use Rattle.lazy_lookup.specs.Marks.{marked_by, marking, used_in}

-- ---- a hit

hit_case : (place : ℕ) (number : ℕ) (p : Placed) (b : Bool) → has_number number p ≡ b → hitting number (cond b (record p { used = place }) p) ≡ cond b (record p { view = raised p.view; used = place }) p
hit_case place number p true e = rw e refl
hit_case place number p false e = rw e refl

hits_all : (place number : ℕ) (objects : List Placed) → map (hitting number) (touched_late place number objects) ≡ counted_late place number objects
hits_all place number [] = refl
hits_all place number (p ∷ objects) = rw (hit_case place number p (has_number number p) refl, hits_all place number objects) refl

pub hit_is : (place number : ℕ) (lazy : Lazy) → with_hit number (used_at place number lazy) ≡ record lazy { objects = counted_late place number lazy.objects }
hit_is place number lazy = ap (λ (objects : List Placed). record lazy { objects = objects }) (hits_all place number lazy.objects)

-- ---- what keeps the numbers, and leaves the tests

record Leaves (f : Placed → Placed) (p : Placed) : Type 0 where
  number : number_in (f p) ≡ number_in p
  tested : (issued : ℕ) → tested_at issued (f p) ≡ f (tested_at issued p)

marking_case : (f : Placed → Placed) (issued : ℕ) (p : Placed) (b : Bool) → Leaves f p → cond b (tested_at issued (f p)) (f p) ≡ f (cond b (tested_at issued p) p)
marking_case f issued p true leaves = leaves.tested issued
marking_case f issued p false leaves = refl

among_same : (f : Placed → Placed) (numbers : List ℕ) (p : Placed) → Leaves f p → is_one_of numbers (f p) ≡ is_one_of numbers p
among_same f numbers p leaves = ap (λ (own : ℕ). list_any (λ (number : ℕ). nat_eq own number) numbers) leaves.number

marking_same : (f : Placed → Placed) (marks : Marks) (issued : ℕ) (p : Placed) → Leaves f p → marking marks issued (f p) ≡ f (marking marks issued p)
marking_same f marks issued p leaves =
    ap (λ (b : Bool). cond b (tested_at issued (f p)) (f p)) (among_same f marks.tested p leaves) ∙ marking_case f issued p (is_one_of marks.tested p) leaves

marked_map : (f : Placed → Placed) (marks : Marks) (issued : ℕ) (objects : List Placed) → ((p : Placed) → Leaves f p) → marked_by marks issued (map f objects) ≡ map f (marked_by marks issued objects)
marked_map f marks issued objects leaves =
    ap (map (marking marks issued)) (filter_of_map (λ (p : Placed). not (is_one_of marks.gone p)) f objects)
    ∙ map_of_map (marking marks issued) f (filter (λ (p : Placed). not (is_one_of marks.gone (f p))) objects)
    ∙ passes_on (λ (p : Placed). not (is_one_of marks.gone (f p))) (λ (p : Placed). not (is_one_of marks.gone p)) (λ (p : Placed). marking marks issued (f p)) (λ (p : Placed). f (marking marks issued p)) objects
    (each (λ (p : Placed). (not (is_one_of marks.gone (f p)) ≡ not (is_one_of marks.gone p)) × (marking marks issued (f p) ≡ f (marking marks issued p)))
    (λ p. (ap not (among_same f marks.gone p (leaves p)), marking_same f marks issued p (leaves p))) objects)
    ∙ sym (map_of_map f (marking marks issued) (filter (λ (p : Placed). not (is_one_of marks.gone p)) objects))

count_number : (place : ℕ) (p : Placed) (b : Bool) → number_in (cond b (record p { view = raised p.view; used = place }) p) ≡ number_in p
count_number place p true = refl
count_number place p false = refl

count_tested : (place issued : ℕ) (p : Placed) (b : Bool)
    → tested_at issued (cond b (record p { view = raised p.view; used = place }) p) ≡ cond b (record (tested_at issued p) { view = raised p.view; used = place }) (tested_at issued p)
count_tested place issued p true = refl
count_tested place issued p false = refl

touch_number : (place : ℕ) (p : Placed) (b : Bool) → number_in (cond b (record p { used = place }) p) ≡ number_in p
touch_number place p true = refl
touch_number place p false = refl

touch_tested : (place issued : ℕ) (p : Placed) (b : Bool)
    → tested_at issued (cond b (record p { used = place }) p) ≡ cond b (record (tested_at issued p) { used = place }) (tested_at issued p)
touch_tested place issued p true = refl
touch_tested place issued p false = refl

counting_leaves : (place number : ℕ) (p : Placed) → Leaves (counting_late place number) p
counting_leaves place number p =
    record { number = count_number place p (has_number number p); tested = λ issued. count_tested place issued p (has_number number p) }

touching_leaves : (place number : ℕ) (p : Placed) → Leaves (touching_late place number) p
touching_leaves place number p =
    record { number = touch_number place p (has_number number p); tested = λ issued. touch_tested place issued p (has_number number p) }

pub marked_used : (place : ℕ) (use_ : Use) (marks : Marks) (issued : ℕ) (objects : List Placed) → marked_by marks issued (used_in place use_ objects) ≡ used_in place use_ (marked_by marks issued objects)
marked_used place Nothing marks issued objects = refl
marked_used place (Hit number) marks issued objects = marked_map (counting_late place number) marks issued objects (counting_leaves place number)
marked_used place (Marker number) marks issued objects = marked_map (touching_late place number) marks issued objects (touching_leaves place number)
