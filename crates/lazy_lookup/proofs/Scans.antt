-- What a walk over the objects of a key sees is what the scan finds, and its marks leave what the scan leaves.
use Rattle.std.proofs.Common.{◌≡◌, ℕ, Bool, true, false, not, cond, List, [], ◌∷◌, Some, filter, find, map, nat_eq, refl, sym, ap, ◌∙◌, subst}
use Rattle.std.specs.List.{AllByRecursion}
use Rattle.cache_law.specs.declared.call.Query.{Query}
use Rattle.cache_law.specs.Object.{can_confirm, in_time, key_of, same_texts}
use Rattle.cache_law.specs.Lookup.{Scan, ending, first_of, is_chosen_by, is_fresh, is_in_grace, passing, seeing as going_on}
use Rattle.cache_frame.specs.declared.seen.Seen.{Seen}
use Rattle.lazy_law.specs.Placed.{Lazy, Placed, kept_bans, tested_at}
use Rattle.lazy_law.specs.Insertion.{has_number}
use Rattle.lazy_law.specs.Purging.{is_of_key}
use Rattle.lazy_law.specs.Scan.{is_struck, scanned_late}
use Rattle.lazy_law.proofs.Filters.{passes_on}
use Rattle.lazy_store.specs.Members.{number_in}
use Rattle.lazy_store.specs.Numbered.{is_one_of, numbers_where}
use Rattle.lazy_store.specs.Tied.{AreApart}
use Rattle.lazy_store.proofs.Found.{own_eq}
use Rattle.lazy_store.proofs.Numbers.{all_left, found_own}
use Rattle.lazy_store.proofs.Splits.{all_weaken, eq_turned}
use Rattle.lazy_lookup.specs.declared.marks.Marks.{Marks}
use Rattle.lazy_lookup.specs.declared.sight.Sight.{Sight}
use Rattle.lazy_lookup.specs.declared.sight.Sight.TheVariants.{Past, Struck, Unfit, Aged, Fresh}
use Rattle.lazy_lookup.specs.Marks.{AreMarksOf, marked_by, marking, scan_of}
use Rattle.lazy_lookup.specs.Sights.{no_marks, nothing_seen, seeing, seen_all, sight_of, with_tested}

-- ---- by the objects themselves

abbrev seen_own : ℕ → Query → Lazy → List Placed → Seen Marks
seen_own moment query lazy [] = nothing_seen
seen_own moment query lazy (p ∷ some) = seeing moment query (sight_of moment query lazy p) p.view (seen_own moment query lazy some)

own_seen : (moment : ℕ) (query : Query) (lazy : Lazy) (some : List Placed) → AllByRecursion (λ (p : Placed). find (has_number (number_in p)) lazy.objects ≡ Some p) some
    → seen_all moment query lazy (map number_in some) ≡ seen_own moment query lazy some
own_seen moment query lazy [] all = refl
own_seen moment query lazy (p ∷ some) all = rw (all.0) (ap (seeing moment query (sight_of moment query lazy p) p.view) (own_seen moment query lazy some all.1))

-- ---- an object with another number has no marks

record IsOther (marks : Marks) (p : Placed) : Type 0 where
  gone : is_one_of marks.gone p ≡ false
  tested : is_one_of marks.tested p ≡ false

other_case : (moment : ℕ) (query : Query) (sight : Sight) (p q : Placed) (later : Seen Marks) → nat_eq (number_in p) (number_in q) ≡ false → IsOther later.marks p
    → IsOther (seeing moment query sight q.view later).marks p
other_case moment query Past p q later e other = other
other_case moment query Struck p q later e other = record { gone = rw e other.gone; tested = other.tested }
other_case moment query Unfit p q later e other = record { gone = other.gone; tested = rw e other.tested }
other_case moment query Aged p q later e other = record { gone = other.gone; tested = rw e other.tested }
other_case moment query Fresh p q later e other = record { gone = refl; tested = rw e refl }

other_all : (moment : ℕ) (query : Query) (lazy : Lazy) (p : Placed) (some : List Placed) → AllByRecursion (λ (q : Placed). nat_eq (number_in p) (number_in q) ≡ false) some
    → IsOther (seen_own moment query lazy some).marks p
other_all moment query lazy p [] all = record { gone = refl; tested = refl }
other_all moment query lazy p (q ∷ some) all =
    other_case moment query (sight_of moment query lazy q) p q (seen_own moment query lazy some) all.0 (other_all moment query lazy p some all.1)

-- ---- marks of an object do nothing to the others

gone_other : (issued number : ℕ) (marks : Marks) (objects : List Placed) → AllByRecursion (λ (q : Placed). nat_eq number (number_in q) ≡ false) objects
    → marked_by (record marks { gone = number ∷ marks.gone }) issued objects ≡ marked_by marks issued objects
gone_other issued number marks objects all =
    passes_on (λ (q : Placed). not (is_one_of (number ∷ marks.gone) q)) (λ (q : Placed). not (is_one_of marks.gone q)) (marking marks issued) (marking marks issued) objects
    (all_weaken (λ (q : Placed). nat_eq number (number_in q) ≡ false)
    (λ (q : Placed). (not (is_one_of (number ∷ marks.gone) q) ≡ not (is_one_of marks.gone q)) × (marking marks issued q ≡ marking marks issued q))
    (λ q e. (rw (eq_turned (number_in q) number ∙ e) refl, refl)) objects all)

tested_other : (issued number : ℕ) (marks : Marks) (objects : List Placed) → AllByRecursion (λ (q : Placed). nat_eq number (number_in q) ≡ false) objects
    → marked_by (with_tested number marks) issued objects ≡ marked_by marks issued objects
tested_other issued number marks objects all =
    passes_on (λ (q : Placed). not (is_one_of marks.gone q)) (λ (q : Placed). not (is_one_of marks.gone q)) (marking (with_tested number marks) issued) (marking marks issued) objects
    (all_weaken (λ (q : Placed). nat_eq number (number_in q) ≡ false)
    (λ (q : Placed). (not (is_one_of marks.gone q) ≡ not (is_one_of marks.gone q)) × (marking (with_tested number marks) issued q ≡ marking marks issued q))
    (λ q e. (refl, rw (eq_turned (number_in q) number ∙ e) refl)) objects all)

marked_none : (issued : ℕ) (objects : List Placed) → marked_by no_marks issued objects ≡ objects
marked_none issued [] = refl
marked_none issued (p ∷ objects) = ap (λ (rest : List Placed). p ∷ rest) (marked_none issued objects)

stays_so : (issued : ℕ) (marks : Marks) (p : Placed) (objects : List Placed) → IsOther marks p → marked_by marks issued (p ∷ objects) ≡ p ∷ marked_by marks issued objects
stays_so issued marks p objects other = rw (other.gone, other.tested) refl

goes_so : (issued : ℕ) (marks : Marks) (p : Placed) (objects : List Placed)
    → marked_by (record marks { gone = number_in p ∷ marks.gone }) issued (p ∷ objects) ≡ marked_by (record marks { gone = number_in p ∷ marks.gone }) issued objects
goes_so issued marks p objects = rw (own_eq (number_in p)) refl

tested_so : (issued : ℕ) (marks : Marks) (p : Placed) (objects : List Placed) → is_one_of marks.gone p ≡ false
    → marked_by (with_tested (number_in p) marks) issued (p ∷ objects) ≡ tested_at issued p ∷ marked_by (with_tested (number_in p) marks) issued objects
tested_so issued marks p objects other = rw (other, own_eq (number_in p)) refl

-- ---- one object before others

record IsSeenSo (issued : ℕ) (objects : List Placed) (scan : Scan Placed) (seen : Seen Marks) : Type 0 where
  fresh : seen.fresh ≡ scan.fresh
  grace : seen.grace ≡ scan.grace
  stale : seen.stale ≡ scan.stale
  left : marked_by seen.marks issued objects ≡ scan.objects

-- the scan, by five tests of the object
abbrev scan_one : ℕ → Query → ℕ → Placed → List Placed → Scan Placed → Bool → Bool → Bool → Bool → Bool → Scan Placed
scan_one moment query issued p objects scan ours lives struck chosen fresh =
    cond ours
    (cond lives
    (cond struck scan
    (cond chosen (cond fresh (ending p.view (tested_at issued p) objects) (going_on moment query.options p.view (tested_at issued p) scan)) (passing (tested_at issued p) scan)))
    (passing p scan))
    (passing p scan)

abbrev sight_by : Bool → Bool → Bool → Bool → Sight
sight_by lives struck chosen fresh = cond lives (cond struck Struck (cond chosen (cond fresh Fresh Aged) Unfit)) Past

module _ (moment : ℕ) (query : Query) (issued : ℕ) (p : Placed) (objects : List Placed) (scan : Scan Placed) (later : Seen Marks) where
  passed : IsOther later.marks p → IsSeenSo issued objects scan later → IsSeenSo issued (p ∷ objects) (passing p scan) later
  passed other so =
      record {
        fresh = so.fresh;
        grace = so.grace;
        stale = so.stale;
        left = stays_so issued later.marks p objects other ∙ ap (λ (rest : List Placed). p ∷ rest) so.left;
      }

  one_seen : (ours lives struck chosen fresh : Bool) → AllByRecursion (λ (q : Placed). nat_eq (number_in p) (number_in q) ≡ false) objects → IsOther later.marks p
      → IsSeenSo issued objects scan later
      → IsSeenSo issued (p ∷ objects) (scan_one moment query issued p objects scan ours lives struck chosen fresh) (cond ours (seeing moment query (sight_by lives struck chosen fresh) p.view later) later)
  one_seen false lives struck chosen fresh apart other so = passed other so
  one_seen true false struck chosen fresh apart other so = passed other so
  one_seen true true true chosen fresh apart other so =
      record {
        fresh = so.fresh;
        grace = so.grace;
        stale = so.stale;
        left = goes_so issued later.marks p objects ∙ gone_other issued (number_in p) later.marks objects apart ∙ so.left;
      }
  one_seen true true false false fresh apart other so =
      record {
        fresh = so.fresh;
        grace = so.grace;
        stale = so.stale;
        left =
            tested_so issued later.marks p objects other.gone
            ∙ ap (λ (rest : List Placed). tested_at issued p ∷ rest) (tested_other issued (number_in p) later.marks objects apart ∙ so.left);
      }
  one_seen true true false true false apart other so =
      record {
        fresh = so.fresh;
        grace = ap (first_of (is_in_grace moment query.options p.view.object) p.view) so.grace;
        stale = ap (first_of (can_confirm p.view.object) p.view) so.stale;
        left =
            tested_so issued later.marks p objects other.gone
            ∙ ap (λ (rest : List Placed). tested_at issued p ∷ rest) (tested_other issued (number_in p) later.marks objects apart ∙ so.left);
      }
  one_seen true true false true true apart other so =
      record {
        fresh = refl;
        grace = refl;
        stale = refl;
        left =
            tested_so issued no_marks p objects refl
            ∙ ap (λ (rest : List Placed). tested_at issued p ∷ rest) (tested_other issued (number_in p) no_marks objects apart ∙ marked_none issued objects);
      }

-- ---- all

own_step : (moment : ℕ) (query : Query) (lazy : Lazy) (p : Placed) (some : List Placed) (ours : Bool)
    → cond ours (seeing moment query (sight_of moment query lazy p) p.view (seen_own moment query lazy some)) (seen_own moment query lazy some) ≡ seen_own moment query lazy (cond ours (p ∷ some) some)
own_step moment query lazy p some true = refl
own_step moment query lazy p some false = refl

all_seen : (moment : ℕ) (query : Query) (lazy : Lazy) (objects : List Placed) → AreApart number_in objects
    → IsSeenSo lazy.issued objects (scanned_late moment query (kept_bans lazy) lazy.issued objects) (seen_own moment query lazy (filter (is_of_key query.key) objects))
all_seen moment query lazy [] apart = record { fresh = refl; grace = refl; stale = refl; left = refl }
all_seen moment query lazy (p ∷ objects) apart =
    let own : List Placed = filter (is_of_key query.key) objects in
    let scan : Scan Placed = scanned_late moment query (kept_bans lazy) lazy.issued objects in
    let later : Seen Marks = seen_own moment query lazy own in
    let object = p.view.object in
    let whole : Scan Placed = scanned_late moment query (kept_bans lazy) lazy.issued (p ∷ objects) in
    subst (λ (seen : Seen Marks). IsSeenSo lazy.issued (p ∷ objects) whole seen) (own_step moment query lazy p own (same_texts (key_of object) query.key))
    (one_seen moment query lazy.issued p objects scan later (same_texts (key_of object) query.key) (in_time moment object) (is_struck (kept_bans lazy) query p) (is_chosen_by query object)
    (is_fresh moment query.options object) apart.0
    (other_all moment query lazy p own (all_left (λ (q : Placed). nat_eq (number_in p) (number_in q) ≡ false) (is_of_key query.key) objects apart.0))
    (all_seen moment query lazy objects apart.1))

-- what is seen in the objects of the key is what the lookup's scan finds and leaves
pub record IsSeen (moment : ℕ) (query : Query) (lazy : Lazy) (seen : Seen Marks) : Type 0 where
  pub fresh : seen.fresh ≡ (scan_of moment query lazy).fresh
  pub grace : seen.grace ≡ (scan_of moment query lazy).grace
  pub stale : seen.stale ≡ (scan_of moment query lazy).stale
  pub marks : AreMarksOf moment query lazy seen.marks

pub seen_is : (moment : ℕ) (query : Query) (lazy : Lazy) (numbers : List ℕ) (seen : Seen Marks) → AreApart number_in lazy.objects → numbers ≡ numbers_where (is_of_key query.key) lazy.objects
    → seen ≡ seen_all moment query lazy numbers → IsSeen moment query lazy seen
seen_is moment query lazy numbers seen apart are is =
    let own : List Placed = filter (is_of_key query.key) lazy.objects in
    let same : seen ≡ seen_own moment query lazy own =
    is ∙ ap (seen_all moment query lazy) are
    ∙ own_seen moment query lazy own
    (all_left (λ (p : Placed). find (has_number (number_in p)) lazy.objects ≡ Some p) (is_of_key query.key) lazy.objects (found_own number_in lazy.objects apart)) in
    let so : IsSeenSo lazy.issued lazy.objects (scan_of moment query lazy) seen =
    subst (λ (s : Seen Marks). IsSeenSo lazy.issued lazy.objects (scan_of moment query lazy) s) (sym same) (all_seen moment query lazy lazy.objects apart) in
    record { fresh = so.fresh; grace = so.grace; stale = so.stale; marks = so.left }
