-- What a soft purge leaves, by the numbers of the objects that it comes to.
use Rattle.std.proofs.Common.{◌≡◌, ◌<◌, ◌+◌, ℕ, Bool, true, false, not, cond, List, [], ◌∷◌, ◌&&◌, ◌||◌, Option, Some, filter, find, map, length, take, get_or, refl, sym, ap, ◌∙◌, subst}
use Rattle.std.specs.List.{AllByRecursion}
use Rattle.std.specs.Prelude.{nat_eq}
use Rattle.std.specs.Option.{option_map_or}
use Rattle.std.proofs.lemmas.List.Folds.{list_any_more}
use Rattle.cache_law.specs.declared.ban.Issued.{Issued}
use Rattle.cache_law.specs.Object.{in_time}
use Rattle.lazy_law.specs.Placed.{Lazy, Placed, is_alive, is_dead, kept_bans, marked_at}
use Rattle.lazy_law.specs.Insertion.{has_number}
use Rattle.lazy_law.specs.Purging.{is_of_xkeys, soft_of, softened_late}
use Rattle.lazy_law.specs.Sweeping.{sweeping}
use Rattle.lazy_law.proofs.Filters.{each, filter_both, filter_of_map, filter_on, map_of_map}
use Rattle.lazy_store.specs.Members.{number_in}
use Rattle.lazy_store.specs.Numbered.{is_alive_at, is_one_of, numbers_where, without_all}
use Rattle.lazy_store.specs.Softening.{is_dead_at, marked_all, softened_all, softened_in, softening_all, softly_purged}
use Rattle.lazy_store.specs.Tied.{AreApart}
use Rattle.lazy_store.proofs.Numbers.{all_left, all_two, found_own, one_of_those}
use Rattle.lazy_store.proofs.Softens.{all_onto, map_alike}
use Rattle.lazy_store.proofs.Splits.{all_weaken}

-- ---- numbers that are apart

left_step : (b : Bool) (p : Placed) (objects : List Placed) → AllByRecursion (λ (q : Placed). nat_eq (number_in p) (number_in q) ≡ false) objects → AreApart number_in objects → AreApart number_in (cond b (p ∷ objects) objects)
left_step true p objects others apart = (others, apart)
left_step false p objects others apart = apart

apart_left : (test : Placed → Bool) (objects : List Placed) → AreApart number_in objects → AreApart number_in (filter test objects)
apart_left test [] apart = tt
apart_left test (p ∷ objects) apart =
    left_step (test p) p (filter test objects) (all_left (λ (q : Placed). nat_eq (number_in p) (number_in q) ≡ false) test objects apart.0) (apart_left test objects apart.1)

apart_numbers : (objects : List Placed) → AreApart number_in objects → AreApart (λ (n : ℕ). n) (map number_in objects)
apart_numbers [] apart = tt
apart_numbers (p ∷ objects) apart = (
  all_onto (λ (q : Placed). nat_eq (number_in p) (number_in q) ≡ false) (λ (n : ℕ). nat_eq (number_in p) n ≡ false) number_in (λ q e. e) objects apart.0,
  apart_numbers objects apart.1,
)

-- ---- of the numbers of those that pass one test, those whose objects pass another

those_at : (test other : Placed → Bool) (objects : List Placed) → AreApart number_in objects
    → filter (λ (n : ℕ). option_map_or other (find (has_number n) objects) false) (numbers_where test objects) ≡ numbers_where (λ (p : Placed). test p && other p) objects
those_at test other objects apart =
    filter_of_map (λ (n : ℕ). option_map_or other (find (has_number n) objects) false) number_in (filter test objects)
    ∙ ap (map number_in)
    (filter_on (λ (p : Placed). option_map_or other (find (has_number (number_in p)) objects) false) other (filter test objects)
    (all_left (λ (p : Placed). option_map_or other (find (has_number (number_in p)) objects) false ≡ other p) test objects
    (all_weaken (λ (p : Placed). find (has_number (number_in p)) objects ≡ Some p) (λ (p : Placed). option_map_or other (find (has_number (number_in p)) objects) false ≡ other p)
    (λ p is. ap (λ (o : Option Placed). option_map_or other o false) is) objects (found_own number_in objects apart)))
    ∙ filter_both other test objects)

-- ---- which objects the numbers are of

abbrev alive_of : ℕ → List (List ℕ) → List Issued → Placed → Bool
alive_of moment keys bans p = is_of_xkeys keys p && is_alive moment bans p

abbrev dead_of : ℕ → List (List ℕ) → List Issued → Placed → Bool
dead_of moment keys bans p = is_of_xkeys keys p && (in_time moment p.view.object && is_dead bans p)

-- what comes of one object, where the first numbers are of those alive and the others of those dead
record AreFor (moment : ℕ) (keys : List (List ℕ)) (bans : List Issued) (alive dead : List ℕ) (p : Placed) : Type 0 where
  alive_ : is_one_of alive p ≡ alive_of moment keys bans p
  dead_ : is_one_of dead p ≡ dead_of moment keys bans p

module _ (moment : ℕ) (keys : List (List ℕ)) (bans : List Issued) (issued : ℕ) (alive dead : List ℕ) where
  abbrev one_left : Placed → Placed
  one_left p = cond (is_one_of alive p) (soft_of moment issued p) p

  one_case : (p : Placed) (b : Bool) → is_one_of alive p ≡ b
      → sweeping (is_one_of alive) issued (cond b (softened_in moment p) p) ≡ cond b (soft_of moment issued p) p
  one_case p true e = rw e refl
  one_case p false e = rw e refl

  kept_case : (p : Placed) (b : Bool) → is_one_of dead (cond b (soft_of moment issued p) p) ≡ is_one_of dead p
  kept_case p true = refl
  kept_case p false = refl

  last_step : (p : Placed) (objects : List Placed) (xkey time gone one that : Bool) → is_of_xkeys keys p ≡ xkey → in_time moment p.view.object ≡ time → is_dead bans p ≡ gone
      → is_one_of alive p ≡ one → is_one_of dead p ≡ that → one ≡ (xkey && (time && not gone)) → that ≡ (xkey && (time && gone))
      → map one_left (filter (λ (q : Placed). not (is_one_of dead q)) objects) ≡ softened_late moment keys bans issued objects
      → map one_left (cond (not that) (p ∷ filter (λ (q : Placed). not (is_one_of dead q)) objects) (filter (λ (q : Placed). not (is_one_of dead q)) objects)) ≡ softened_late moment keys bans issued (p ∷ objects)
  last_step p objects true true true one that x t g a d f h rest = rw (h, t, x, g) rest
  last_step p objects true true false one that x t g a d f h rest = rw (h, t, x, g, a, f, t, x) (ap (λ (ps : List Placed). soft_of moment issued p ∷ ps) rest)
  last_step p objects true false gone one that x t g a d f h rest = rw (h, t, a, f, t) (ap (λ (ps : List Placed). p ∷ ps) rest)
  last_step p objects false true gone one that x t g a d f h rest = rw (h, t, x, a, f, t, x) (ap (λ (ps : List Placed). p ∷ ps) rest)
  last_step p objects false false gone one that x t g a d f h rest = rw (h, t, a, f, t) (ap (λ (ps : List Placed). p ∷ ps) rest)

  last : (objects : List Placed) → AllByRecursion (AreFor moment keys bans alive dead) objects
      → map one_left (filter (λ (q : Placed). not (is_one_of dead q)) objects) ≡ softened_late moment keys bans issued objects
  last [] are = refl
  last (p ∷ objects) are =
      last_step p objects (is_of_xkeys keys p) (in_time moment p.view.object) (is_dead bans p) (is_one_of alive p) (is_one_of dead p) refl refl refl refl refl are.0.alive_ are.0.dead_ (last objects are.1)

  left_so : (objects : List Placed) → AllByRecursion (AreFor moment keys bans alive dead) objects
      → filter (λ (p : Placed). not (is_one_of dead p)) (map (sweeping (is_one_of alive) issued) (map (softening_all moment alive) objects)) ≡ softened_late moment keys bans issued objects
  left_so objects are =
      ap (filter (λ (p : Placed). not (is_one_of dead p)))
      (map_of_map (sweeping (is_one_of alive) issued) (softening_all moment alive) objects
      ∙ map_alike (λ (p : Placed). sweeping (is_one_of alive) issued (softening_all moment alive p)) one_left objects
      (each (λ (p : Placed). sweeping (is_one_of alive) issued (softening_all moment alive p) ≡ one_left p) (λ p. one_case p (is_one_of alive p) refl) objects))
      ∙ filter_of_map (λ (p : Placed). not (is_one_of dead p)) one_left objects
      ∙ ap (map one_left)
      (filter_on (λ (p : Placed). not (is_one_of dead (one_left p))) (λ (p : Placed). not (is_one_of dead p)) objects
      (each (λ (p : Placed). not (is_one_of dead (one_left p)) ≡ not (is_one_of dead p)) (λ p. ap not (kept_case p (is_one_of alive p))) objects))
      ∙ last objects are

-- ---- the whole purge

module _ (moment : ℕ) (keys : List (List ℕ)) (lazy : Lazy) (apart : AreApart number_in lazy.objects) where
  abbrev struck : List ℕ
  struck = numbers_where (is_of_xkeys keys) lazy.objects

  pub alive_apart : AreApart (λ (n : ℕ). n) (filter (is_alive_at moment lazy) struck)
  alive_apart =
      let alive : Placed → Bool = alive_of moment keys (kept_bans lazy) in
      subst (AreApart (λ (n : ℕ). n)) (sym (those_at (is_of_xkeys keys) (is_alive moment (kept_bans lazy)) lazy.objects apart)) (apart_numbers (filter alive lazy.objects) (apart_left alive lazy.objects apart))

  pub purged_softly : without_all (filter (is_dead_at moment lazy) struck) (marked_all (filter (is_alive_at moment lazy) struck) (softened_all moment (filter (is_alive_at moment lazy) struck) lazy)) ≡ softly_purged moment keys lazy
  purged_softly =
      let bans : List Issued = kept_bans lazy in
      let alive : List ℕ = numbers_where (alive_of moment keys bans) lazy.objects in
      let dead : List ℕ = numbers_where (dead_of moment keys bans) lazy.objects in
      let first : filter (is_alive_at moment lazy) struck ≡ alive = those_at (is_of_xkeys keys) (is_alive moment bans) lazy.objects apart in
      let second : filter (is_dead_at moment lazy) struck ≡ dead = those_at (is_of_xkeys keys) (λ (p : Placed). in_time moment p.view.object && is_dead bans p) lazy.objects apart in
      ap (λ (ns : List ℕ). without_all (filter (is_dead_at moment lazy) struck) (marked_all ns (softened_all moment ns lazy))) first
      ∙ ap (λ (ns : List ℕ). without_all ns (marked_all alive (softened_all moment alive lazy))) second
      ∙ ap (λ (objects : List Placed). record lazy { objects = objects })
      (left_so moment keys bans lazy.issued alive dead lazy.objects
      (all_two (λ (p : Placed). is_one_of alive p ≡ alive_of moment keys bans p) (λ (p : Placed). is_one_of dead p ≡ dead_of moment keys bans p) (AreFor moment keys bans alive dead)
      (λ p a d. record { alive_ = a; dead_ = d }) lazy.objects (one_of_those (alive_of moment keys bans) lazy.objects apart) (one_of_those (dead_of moment keys bans) lazy.objects apart)))

-- ---- marks, one after another

marked_case : (number issued : ℕ) (p : Placed) (before one : Bool) → has_number number p ≡ one
    → sweeping (has_number number) issued (cond before (marked_at issued p) p) ≡ cond (before || one) (marked_at issued p) p
marked_case number issued p true true e = rw e refl
marked_case number issued p true false e = rw e refl
marked_case number issued p false true e = rw e refl
marked_case number issued p false false e = rw e refl

pub marked_more : (some : List ℕ) (i d issued : ℕ) (objects : List Placed) → i < length some
    → map (sweeping (has_number (get_or some i d)) issued) (map (sweeping (is_one_of (take i some)) issued) objects) ≡ map (sweeping (is_one_of (take (i + 1) some)) issued) objects
marked_more some i d issued objects within =
    map_of_map (sweeping (has_number (get_or some i d)) issued) (sweeping (is_one_of (take i some)) issued) objects
    ∙ map_alike (λ (p : Placed). sweeping (has_number (get_or some i d)) issued (sweeping (is_one_of (take i some)) issued p)) (sweeping (is_one_of (take (i + 1) some)) issued) objects
    (each (λ (p : Placed). sweeping (has_number (get_or some i d)) issued (sweeping (is_one_of (take i some)) issued p) ≡ sweeping (is_one_of (take (i + 1) some)) issued p)
    (λ p.
    marked_case (get_or some i d) issued p (is_one_of (take i some) p) (has_number (get_or some i d) p) refl
    ∙ ap (λ (b : Bool). cond b (marked_at issued p) p) (sym (list_any_more (λ (number : ℕ). has_number number p) some i d within))) objects)

pub none_marked : (issued : ℕ) (objects : List Placed) → objects ≡ map (sweeping (is_one_of []) issued) objects
none_marked issued [] = refl
none_marked issued (p ∷ objects) = ap (λ (rest : List Placed). p ∷ rest) (none_marked issued objects)
