-- What is kept stays right as objects are used, tested and stored.
use Rattle.std.proofs.Common.{◌≡◌, ◌≤◌, ◌+◌, ℕ, Bool, List, [], ◌∷◌, Option, Some, None, arith, sym, ap, ◌∙◌, subst}
use Rattle.std.specs.List.{list_any, AllByRecursion}
use Rattle.std.specs.Option.{option_map_or}
use Rattle.cache_law.specs.declared.object.Object.{Object}
use Rattle.cache_law.specs.declared.ban.Issued.{Issued}
use Rattle.cache_law.specs.State.{Held, those_in_time}
use Rattle.cache_law.proofs.Held.{all-filter}
use Rattle.lazy_law.specs.Placed.{Lazy, Placed, above, is_alive, kept_bans, seen, since, those_alive}
use Rattle.lazy_law.specs.Purging.{soft_of}
use Rattle.lazy_law.specs.Insertion.{has_number, new_placed, place_for}
use Rattle.lazy_law.specs.Stands.{Agrees, IsKept, IsWithin, PassesAlike, StandsFor}
use Rattle.lazy_law.proofs.Filters.{found_on}
use Rattle.lazy_law.proofs.Keeping.{Stays}
use Rattle.lazy_law.proofs.Lines.{lines_up_to, open_up_to}
use Rattle.lazy_law.proofs.Numbers.{AreUpTo, above_none, since_none, up_to}
use Rattle.lazy_law.proofs.Seen.{seen_again}

pub stays_within : (issued : ℕ) → Stays issued (IsWithin issued)
stays_within issued =
    record {
      counts = λ place p is. record { place = is.place; mark = is.mark };
      touches = λ place p is. record { place = is.place; mark = is.mark };
      tests = λ p is. record { place = omega arith; mark = omega arith };
      marks = λ p is. record { place = is.place; mark = omega arith };
    }

-- behind the newest ban no list finds one
none_above : (issued mark : ℕ) (kept bans : List Issued) (test : Issued → Bool) → AreUpTo issued kept → AreUpTo issued bans → issued ≤ mark → list_any test (above mark kept) ≡ list_any test (above mark bans)
none_above issued mark kept bans test up all less = ap (list_any test) (above_none issued mark kept up less) ∙ sym (ap (list_any test) (above_none issued mark bans all less))

none_since : (issued place : ℕ) (kept bans : List Issued) (test : Issued → Bool) → AreUpTo issued kept → AreUpTo issued bans → issued ≤ place → list_any test (since place kept) ≡ list_any test (since place bans)
none_since issued place kept bans test up all less = ap (list_any test) (since_none issued place kept up less) ∙ sym (ap (list_any test) (since_none issued place bans all less))

pub stays_agree : (issued : ℕ) (kept bans : List Issued) → AreUpTo issued kept → AreUpTo issued bans → Stays issued (Agrees kept bans)
stays_agree issued kept bans up all =
    record {
      counts = λ place p is. record { on_objects = is.on_objects; on_requests = is.on_requests };
      touches = λ place p is. record { on_objects = is.on_objects; on_requests = is.on_requests };
      tests = λ p is. record {
        on_objects = λ test alike mark less. none_above issued mark kept bans test up all less;
        on_requests = λ test alike place less. none_since issued place kept bans test up all less;
      };
      marks = λ p is. record {
        on_objects = λ test alike mark less. none_above issued mark kept bans test up all less;
        on_requests = is.on_requests;
      };
    }

-- ---- of all that is kept

pub all_up_to : (lazy : Lazy) (bans : List Issued) → IsKept lazy bans → AreUpTo lazy.issued bans
all_up_to lazy bans kept = up_to (lazy.issued + 1) lazy.issued bans (omega arith) kept.falling

pub kept_up_to : (lazy : Lazy) (bans : List Issued) → IsKept lazy bans → AreUpTo lazy.issued (kept_bans lazy)
kept_up_to lazy bans kept = open_up_to lazy.issued lazy.lines (lines_up_to lazy.issued lazy.lines bans kept.listed kept.falling)

pub nothing_above : (lazy : Lazy) (bans : List Issued) → IsKept lazy bans → above lazy.issued bans ≡ []
nothing_above lazy bans kept = above_none lazy.issued lazy.issued bans (all_up_to lazy bans kept) (omega arith)

pub nothing_since : (lazy : Lazy) (bans : List Issued) → IsKept lazy bans → since lazy.issued bans ≡ []
nothing_since lazy bans kept = since_none lazy.issued lazy.issued bans (all_up_to lazy bans kept) (omega arith)

pub agreeing_stays : (lazy : Lazy) (bans : List Issued) → IsKept lazy bans → Stays lazy.issued (Agrees (kept_bans lazy) bans)
agreeing_stays lazy bans kept = stays_agree lazy.issued (kept_bans lazy) bans (kept_up_to lazy bans kept) (all_up_to lazy bans kept)

-- with other objects, each of which is within and agrees
pub kept_with : (lazy : Lazy) (bans : List Issued) (objects : List Placed) → IsKept lazy bans → AllByRecursion (IsWithin lazy.issued) objects → AllByRecursion (Agrees (kept_bans lazy) bans) objects → IsKept (record lazy { objects = objects }) bans
kept_with lazy bans objects kept within agrees = record { falling = kept.falling; listed = kept.listed; within = within; agrees = agrees }

-- ---- a softened object, and a new one

pub soft_within : (moment issued : ℕ) (p : Placed) → IsWithin issued p → IsWithin issued (soft_of moment issued p)
soft_within moment issued p is = record { place = is.place; mark = omega arith }

pub soft_agrees : (moment issued : ℕ) (kept bans : List Issued) (p : Placed) → AreUpTo issued kept → AreUpTo issued bans → Agrees kept bans p → Agrees kept bans (soft_of moment issued p)
soft_agrees moment issued kept bans p up all is = record { on_objects = λ test alike mark less. none_above issued mark kept bans test up all less; on_requests = is.on_requests }

abbrev place_of : ℕ → Option Placed → ℕ
place_of issued found = option_map_or (λ (p : Placed). p.place) found issued

pub new_within : (place token : ℕ) (object : Object) (moment : ℕ) (bans : List Issued) (issued : ℕ) (stale : Option ℕ) (objects : List Placed) → AllByRecursion (IsWithin issued) objects
    → IsWithin issued (new_placed place token object (place_for moment bans issued stale objects) issued)
new_within place token object moment bans issued None objects all = record { place = omega arith; mark = omega arith }
new_within place token object moment bans issued (Some stale) objects all =
    record {
      place = found_on (λ (found : Option Placed). place_of issued found ≤ issued) (has_number stale) (those_alive moment bans objects) (omega arith)
          (all-filter (λ (p : Placed). p.place ≤ issued) (is_alive moment bans) objects (weak objects all));
      mark = omega arith;
    }
  where
    weak : (ps : List Placed) → AllByRecursion (IsWithin issued) ps → AllByRecursion (λ (p : Placed). p.place ≤ issued) ps
    weak [] every = tt
    weak (p ∷ ps) every = (every.0.place, weak ps every.1)

pub new_agrees : (place token : ℕ) (object : Object) (moment : ℕ) (kept bans : List Issued) (issued : ℕ) (stale : Option ℕ) (objects : List Placed) → AreUpTo issued kept → AreUpTo issued bans
    → AllByRecursion (Agrees kept bans) objects → Agrees kept bans (new_placed place token object (place_for moment kept issued stale objects) issued)
new_agrees place token object moment kept bans issued None objects up all agrees =
    record {
      on_objects = λ test alike mark less. none_above issued mark kept bans test up all less;
      on_requests = λ test alike at less. none_since issued at kept bans test up all less;
    }
new_agrees place token object moment kept bans issued (Some stale) objects up all agrees =
    record {
      on_objects = λ test alike mark less. none_above issued mark kept bans test up all less;
      on_requests = λ test alike at less. found_on
          (λ (found : Option Placed). place_of issued found ≤ at → list_any test (since at kept) ≡ list_any test (since at bans)) (has_number stale) (those_alive moment kept objects)
          (λ later. none_since issued at kept bans test up all later)
          (all-filter (λ (p : Placed). p.place ≤ at → list_any test (since at kept) ≡ list_any test (since at bans)) (is_alive moment kept) objects (weak test alike at objects agrees)) less;
    }
  where
    weak : (test : Issued → Bool) → PassesAlike test → (at : ℕ) (ps : List Placed) → AllByRecursion (Agrees kept bans) ps → AllByRecursion (λ (p : Placed). p.place ≤ at → list_any test (since at kept) ≡ list_any test (since at bans)) ps
    weak test alike at [] every = tt
    weak test alike at (p ∷ ps) every = (every.0.on_requests test alike at, weak test alike at ps every.1)

-- ---- standing

pub standing : (lazy : Lazy) (moment issued : ℕ) (bans : List Issued) (objects : List Held) → lazy.issued ≡ issued → IsKept lazy bans → objects ≡ seen moment bans lazy.objects → StandsFor lazy moment issued bans objects
standing lazy moment issued bans objects count kept exact = record { count = count; kept = kept; same = ap (those_in_time moment) exact ∙ seen_again moment bans lazy.objects }

pub stands_by : (lazy : Lazy) (moment : ℕ) (issued other : ℕ) (bans those : List Issued) (objects left : List Held) → other ≡ issued → those ≡ bans → left ≡ objects → StandsFor lazy moment issued bans objects → StandsFor lazy moment other those left
stands_by lazy moment issued other bans those objects left count same exact stands =
    subst (λ (n : ℕ). StandsFor lazy moment n those left) (sym count)
    (subst (λ (bs : List Issued). StandsFor lazy moment issued bs left) (sym same) (subst (λ (os : List Held). StandsFor lazy moment issued bans os) (sym exact) stands))
