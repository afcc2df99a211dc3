-- A walk over the members for one that waits.
use Rattle.std.proofs.Common.{◌≡◌, ◌≤◌, ◌<◌, ◌+◌, ◌-◌, ◌^◌, ◌⊎◌, inl, inr, ℕ, true, false, List, ◌&&◌, Some, None, arith, sym, ap}
use Rattle.std.specs.Prelude.{nat_eq, nat_lt}
use Rattle.std.specs.List.{list_any, AllByRecursion}
use Rattle.std.specs.Map.{lookup}
use Rattle.std.proofs.lemmas.Bool.{and_from, cases_lt, eq-eqb, lt-ltb}
use Rattle.object_heads.specs.declared.item.Item.{Item}
use Rattle.object_heads.specs.Members as heads
use Rattle.lazy_law.proofs.Filters.{each}
use Rattle.lazy_store.specs.declared.placement.Placement.{Placement}
use Rattle.lazy_store.specs.Found.{is_marked_below}
use Rattle.lazy_store.specs.Members.{Member, handle_of, stand_of}
use Rattle.lazy_store.specs.Tied.{AreApart, IsAhead}
use Rattle.lazy_store.proofs.Found.{own_eq}
use Rattle.lazy_store.proofs.Lurks.{all_by, any_looked, lowest_from, none_from, none_looked, only_looked, true_false}
use Rattle.lazy_store.proofs.Splits.{all_weaken}

-- ---- at one handle

abbrev pub IsPast : ℕ → ℕ → Member → Type 0
IsPast handle newest m = nat_eq handle (handle_of m) ≡ true → newest ≤ (stand_of m).mark

past_of : (newest : ℕ) (item : Item Placement) (m : Member) → newest ≤ item.payload.stand.mark → m.1 ≡ item → newest ≤ (stand_of m).mark
past_of newest item m past is = let same : (stand_of m).mark ≡ item.payload.stand.mark = ap (λ (it : Item Placement). it.payload.stand.mark) is in omega arith

pub past_there : (handle newest : ℕ) (item : Item Placement) (members : List Member) → AreApart handle_of members → Some item ≡ lookup (nat_eq handle) members → newest ≤ item.payload.stand.mark
    → AllByRecursion (IsPast handle newest) members
past_there handle newest item members apart is past =
    all_weaken (λ (m : Member). nat_eq handle m.0 ≡ true → m.1 ≡ item) (IsPast handle newest) (λ m only. λ e. past_of newest item m past (only e)) members
    (only_looked handle members item apart (sym is))

pub past_none : (handle newest : ℕ) (members : List Member) → None ≡ lookup (nat_eq handle) members → AllByRecursion (IsPast handle newest) members
past_none handle newest members is =
    all_weaken (λ (m : Member). nat_eq handle m.0 ≡ false) (IsPast handle newest) (λ m other. λ e. absurd (true_false (nat_eq handle (handle_of m)) e other)) members
    (none_looked handle members (sym is))

pub waits_at : (handle newest : ℕ) (item : Item Placement) (members : List Member) → Some item ≡ lookup (nat_eq handle) members → item.payload.stand.mark < newest
    → list_any (is_marked_below item.view.number newest) members ≡ true
waits_at handle newest item members is below =
    any_looked (λ (it : Item Placement). heads.has_number item.view.number it && nat_lt it.payload.stand.mark newest) handle members item (sym is)
    (and_from (nat_eq item.view.number item.view.number) (nat_lt item.payload.stand.mark newest) (own_eq item.view.number) (lt-ltb item.payload.stand.mark newest below))

-- ---- from a handle on

abbrev pub IsPastTo : ℕ → ℕ → ℕ → Member → Type 0
IsPastTo handle newest from m = handle ≤ handle_of m → handle_of m < from → newest ≤ (stand_of m).mark

pub past_start : (handle newest : ℕ) (members : List Member) → AllByRecursion (IsPastTo handle newest handle) members
past_start handle newest members = each (IsPastTo handle newest handle) (λ m. λ above below. absurd (omega arith)) members

own_handle : (handle next : ℕ) → handle < next + 1 → next ≤ handle → nat_eq next handle ≡ true
own_handle handle next less above = eq-eqb next handle (omega arith)

step_case : (handle newest from next : ℕ) (m : Member) → IsPastTo handle newest from m → (from ≤ handle_of m → next ≤ handle_of m) → IsPast next newest m
    → (handle_of m < from) ⊎ (from ≤ handle_of m) → handle ≤ handle_of m → handle_of m < next + 1 → newest ≤ (stand_of m).mark
step_case handle newest from next m past low here (inl before) above below = past above before
step_case handle newest from next m past low here (inr behind) above below = here (own_handle (handle_of m) next below (low behind))

step_one : (handle newest from next : ℕ) (m : Member) → IsPastTo handle newest from m → (from ≤ handle_of m → next ≤ handle_of m) → IsPast next newest m → IsPastTo handle newest (next + 1) m
step_one handle newest from next m past low here = λ above below. step_case handle newest from next m past low here (cases_lt (handle_of m) from) above below

-- one more is past
pub past_step : (handle newest from next : ℕ) (members : List Member) → heads.AreInOrder members → Some next ≡ heads.first_from from members
    → AllByRecursion (IsPastTo handle newest from) members → AllByRecursion (IsPast next newest) members → AllByRecursion (IsPastTo handle newest (next + 1)) members
past_step handle newest from next members order is past here =
    all_by (IsPastTo handle newest from) (λ (m : Member). from ≤ handle_of m → next ≤ handle_of m) (IsPast next newest) (IsPastTo handle newest (next + 1))
    (step_one handle newest from next) members past (lowest_from from next members order (sym is)) here

abbrev pub IsPastFrom : ℕ → ℕ → Member → Type 0
IsPastFrom handle newest m = handle ≤ handle_of m → newest ≤ (stand_of m).mark

-- all are
pub past_end : (handle newest from : ℕ) (members : List Member) → None ≡ heads.first_from from members → AllByRecursion (IsPastTo handle newest from) members
    → AllByRecursion (IsPastFrom handle newest) members
past_end handle newest from members is past =
    all_by (IsPastTo handle newest from) (λ (m : Member). handle_of m < from) (λ (m : Member). handle_of m < from) (IsPastFrom handle newest)
    (λ m to below again. λ above. to above below) members past (none_from from members (sym is)) (none_from from members (sym is))

-- also where there is no greater handle
pub past_last : (handle newest next : ℕ) (members : List Member) → next ≡ 2 ^ 64 - 1 → AllByRecursion IsAhead members → AllByRecursion (IsPastTo handle newest (next + 1)) members
    → AllByRecursion (IsPastFrom handle newest) members
past_last handle newest next members is ahead past =
    all_by (IsPastTo handle newest (next + 1)) IsAhead IsAhead (IsPastFrom handle newest)
    (λ m to low again. λ above. to above (omega (arith, low.fits))) members past ahead ahead

pub past_all : (newest : ℕ) (members : List Member) → AllByRecursion (IsPastFrom 0 newest) members → AllByRecursion (λ (m : Member). newest ≤ (stand_of m).mark) members
past_all newest members past = all_weaken (IsPastFrom 0 newest) (λ (m : Member). newest ≤ (stand_of m).mark) (λ m to. to (omega arith)) members past
