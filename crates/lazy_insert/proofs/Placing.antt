-- The place of the stale object, where it is alive.
use Rattle.std.proofs.Common.{◌≡◌, ℕ, Bool, true, false, not, cond, List, [], ◌∷◌, ◌||◌, Option, Some, None, filter, find, nat_eq, refl, sym, ap, ◌∙◌}
use Rattle.std.specs.List.{list_any, AllByRecursion}
use Rattle.std.specs.Option.{option_map_or}
use Rattle.std.proofs.lemmas.Bool.{false≢true}
use Rattle.lazy_law.specs.Placed.{Lazy, Placed, is_alive, kept_bans, those_alive}
use Rattle.lazy_law.specs.Insertion.{has_number, is_gone_late, place_for}
use Rattle.lazy_law.proofs.Filters.{any_none}
use Rattle.lazy_store.specs.Members.{number_in}
use Rattle.lazy_store.specs.Tied.{AreApart}
use Rattle.lazy_store.proofs.Numbers.{all_left}
use Rattle.lazy_store.proofs.Splits.{all_fail, all_weaken}
use Rattle.lazy_store.proofs.Sweeps.{other_number}
use Rattle.lazy_insert.specs.Putting.{place_at}

find_fail : (test : Placed → Bool) (objects : List Placed) → AllByRecursion (λ (p : Placed). test p ≡ false) objects → find test objects ≡ None
find_fail test [] all = refl
find_fail test (p ∷ objects) all = rw (all.0) (find_fail test objects all.1)

later_any : (b c : Bool) → b ≡ false → (b || c) ≡ true → c ≡ true
later_any true c e f = absurd (false≢true (sym e))
later_any false c e f = f

module _ (number : ℕ) (alive : Placed → Bool) where
  alive_case : (p : Placed) (objects : List Placed) (own live : Bool) → has_number number p ≡ own → AllByRecursion (λ (q : Placed). nat_eq (number_in p) (number_in q) ≡ false) objects
      → (list_any (has_number number) (filter alive objects) ≡ true → find (has_number number) (filter alive objects) ≡ find (has_number number) objects)
      → list_any (has_number number) (cond live (p ∷ filter alive objects) (filter alive objects)) ≡ true
      → find (has_number number) (cond live (p ∷ filter alive objects) (filter alive objects)) ≡ cond own (Some p) (find (has_number number) objects)
  alive_case p objects true true e others rest is = ap (λ (b : Bool). cond b (Some p) (find (has_number number) (filter alive objects))) e
  alive_case p objects true false e others rest is =
      absurd (false≢true (sym (any_none (has_number number) (filter alive objects)
      (all_left (λ (q : Placed). has_number number q ≡ false) alive objects
      (all_weaken (λ (q : Placed). nat_eq (number_in p) (number_in q) ≡ false) (λ (q : Placed). has_number number q ≡ false) (λ q other. other_number (number_in p) number (number_in q) e other) objects others))) ∙ is))
  alive_case p objects false true e others rest is =
      ap (λ (b : Bool). cond b (Some p) (find (has_number number) (filter alive objects))) e ∙ rest (later_any (has_number number p) (list_any (has_number number) (filter alive objects)) e is)
  alive_case p objects false false e others rest is = rest is

  find_alive : (objects : List Placed) → AreApart number_in objects → list_any (has_number number) (filter alive objects) ≡ true → find (has_number number) (filter alive objects) ≡ find (has_number number) objects
  find_alive [] apart is = refl
  find_alive (p ∷ objects) apart is = alive_case p objects (has_number number p) (alive p) refl apart.0 (find_alive objects apart.1) is

not_true : (b : Bool) → not b ≡ true → b ≡ false
not_true true e = absurd (false≢true e)
not_true false e = refl

not_false : (b : Bool) → not b ≡ false → b ≡ true
not_false true e = refl
not_false false e = absurd (false≢true (sym e))

-- where it is gone, the new one takes no place over
pub place_gone : (moment : ℕ) (stale : Option ℕ) (lazy : Lazy) → is_gone_late moment (kept_bans lazy) stale lazy.objects ≡ true → lazy.issued ≡ place_for moment (kept_bans lazy) lazy.issued stale lazy.objects
place_gone moment None lazy gone = refl
place_gone moment (Some number) lazy gone =
    let alive : List Placed = those_alive moment (kept_bans lazy) lazy.objects in
    ap (λ (one : Option Placed). option_map_or (λ (p : Placed). p.place) one lazy.issued) (sym (find_fail (has_number number) alive (all_fail (has_number number) alive (not_true (list_any (has_number number) alive) gone))))

pub place_there : (moment number : ℕ) (lazy : Lazy) → AreApart number_in lazy.objects → is_gone_late moment (kept_bans lazy) (Some number) lazy.objects ≡ false
    → place_at number lazy ≡ place_for moment (kept_bans lazy) lazy.issued (Some number) lazy.objects
place_there moment number lazy apart there =
    ap (λ (one : Option Placed). option_map_or (λ (p : Placed). p.place) one lazy.issued)
    (sym (find_alive number (is_alive moment (kept_bans lazy)) lazy.objects apart (not_false (list_any (has_number number) (those_alive moment (kept_bans lazy) lazy.objects)) there)))
