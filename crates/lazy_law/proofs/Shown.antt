-- The lines that are kept show each ban that an object has still to be tested on.
use Rattle.std.proofs.Common.{◌≡◌, ◌-◌, ◌==◌, ◌⊎◌, ℕ, Bool, true, false, not, cond, List, [], ◌∷◌, ◌&&◌, nat_le, nat_lt, filter, map, inl, inr, refl, arith, sym, ap, ◌∙◌}
use Rattle.std.specs.List.{list_any, AllByRecursion}
use Rattle.std.specs.Cmp.Lexicographic.{pointwise}
use Rattle.std.proofs.lemmas.Bool.{false≢true, and_from, and_parts, le-leb, lt-ltb, ltb-true, or_cases, or_left, or_right}
use Rattle.cache_law.specs.declared.ban.Issued.{Issued}
use Rattle.cache_law.specs.Bans.{is_equal, is_on_time, is_shown, lasting, same_condition, stands_for}
use Rattle.cache_law.specs.Bases.{IsIn}
use Rattle.cache_law.specs.ShownBans.{AllShown, ShowsBans}
use Rattle.cache_law.proofs.BanLemmas.{one_list, shown_by_all}
use Rattle.cache_law.proofs.Held.{all-filter}
use Rattle.ban_lurker.specs.Looks.{is_alone}
use Rattle.lazy_law.specs.Placed.{Lazy, Placed, held_of, is_alive, is_since, kept_bans, seen, since, those_alive}
use Rattle.lazy_law.specs.Stands.{Agrees, IsKept, PassesAlike}
use Rattle.lazy_law.proofs.Filters.{any_more, any_of_filter}

-- ---- a line stands for equal bans alike

alike_case : (b one two first second equal other : Bool) → one ≡ false → two ≡ false → equal ≡ other → cond b (one && first) equal ≡ cond b (two && second) other
alike_case true one two first second equal other o t e = rw (o, t) refl
alike_case false one two first second equal other o t e = e

pub stands_alike : (x : Issued) → PassesAlike (stands_for x)
unfolding stands_for lasting is_equal
stands_alike x ban later e =
    let one = one_list later.ban.conditions ban.ban.conditions e in
    alike_case (list_any is_on_time x.ban.conditions) (list_any is_on_time later.ban.conditions) (list_any is_on_time ban.ban.conditions) (later.number == x.number) (ban.number == x.number)
    (pointwise same_condition later.ban.conditions x.ban.conditions) (pointwise same_condition ban.ban.conditions x.ban.conditions)
    one.1 (sym (ap (list_any is_on_time) one.0) ∙ one.1) (ap (λ cs. pointwise same_condition cs x.ban.conditions) one.0)

-- a ban's own line stands for it
pub for_itself : (x : Issued) → stands_for x x ≡ true
for_itself x = by_case (or_cases (nat_le x.number x.number && stands_for x x) false (shown_by_all (x ∷ [])).0)
  where
    by_case : ((nat_le x.number x.number && stands_for x x) ≡ true) ⊎ (false ≡ true) → stands_for x x ≡ true
    by_case (inl e) = (and_parts (nat_le x.number x.number) (stands_for x x) e).1
    by_case (inr e) = absurd (false≢true e)

-- ---- a ban among others

pub all_in : (P : Issued → Type 0) (bans : List Issued) → ((x : Issued) → IsIn x bans → P x) → AllByRecursion P bans
all_in P [] on = tt
all_in P (ban ∷ bans) on = (on ban (inl refl), all_in P bans (λ x among. on x (inr among)))

in_step : (keep : Issued → Bool) (b : Bool) (x ban : Issued) (rest bans : List Issued) → keep ban ≡ b → (IsIn x rest → IsIn x bans × (keep x ≡ true)) → IsIn x (cond b (ban ∷ rest) rest) → ((x ≡ ban) ⊎ IsIn x bans) × (keep x ≡ true)
in_step keep true x ban rest bans e behind (inl same) = (inl same, ap keep same ∙ e)
in_step keep true x ban rest bans e behind (inr among) = let both = behind among in (inr both.0, both.1)
in_step keep false x ban rest bans e behind among = let both = behind among in (inr both.0, both.1)

-- what passes a filter was there, and passes
pub in_filter : (keep : Issued → Bool) (x : Issued) (bans : List Issued) → IsIn x (filter keep bans) → IsIn x bans × (keep x ≡ true)
in_filter keep x [] among = absurd among
in_filter keep x (ban ∷ bans) among = in_step keep (keep ban) x ban (filter keep bans) bans refl (in_filter keep x bans) among

pub any_in : (test : Issued → Bool) (x : Issued) (bans : List Issued) → IsIn x bans → test x ≡ true → list_any test bans ≡ true
any_in test x [] among e = absurd among
any_in test x (ban ∷ bans) (inl same) e = or_left (test ban) (list_any test bans) (ap test (sym same) ∙ e)
any_in test x (ban ∷ bans) (inr among) e = or_right (test ban) (list_any test bans) (any_in test x bans among e)

-- ---- it is shown

-- the ban is newer than the one before it
pub since_own : (x : Issued) (place : ℕ) → is_since place x ≡ true → is_since (x.number - 1) x ≡ true
since_own x place e =
    let parts = and_parts (nat_lt place x.number) (not (is_alone x)) e in
    let less = ltb-true place x.number parts.0 in
    and_from (nat_lt (x.number - 1) x.number) (not (is_alone x)) (lt-ltb (x.number - 1) x.number (omega (arith, less))) parts.1

shown_by : (x other : Issued) → (is_since (x.number - 1) other && stands_for x other) ≡ true → (nat_le x.number other.number && stands_for x other) ≡ true
shown_by x other e =
    let parts = and_parts (is_since (x.number - 1) other) (stands_for x other) e in
    let inner = and_parts (nat_lt (x.number - 1) other.number) (not (is_alone other)) parts.0 in
    let newer = ltb-true (x.number - 1) other.number inner.0 in
    and_from (nat_le x.number other.number) (stands_for x other) (le-leb x.number other.number (omega (arith, newer))) parts.1

one_shown : (own bans : List Issued) (p : Placed) (x : Issued) → Agrees own bans p → IsIn x (since p.place bans) → is_shown own x ≡ true
one_shown own bans p x agrees among =
    let both = in_filter (is_since p.place) x bans among in
    let less = ltb-true p.place x.number (and_parts (nat_lt p.place x.number) (not (is_alone x)) both.1).0 in
    let there : list_any (stands_for x) (since (x.number - 1) bans) ≡ true =
    any_of_filter (stands_for x) (is_since (x.number - 1)) bans
    ∙ any_in (λ (i : Issued). is_since (x.number - 1) i && stands_for x i) x bans both.0 (and_from (is_since (x.number - 1) x) (stands_for x x) (since_own x p.place both.1) (for_itself x)) in
    let here : list_any (stands_for x) (since (x.number - 1) own) ≡ true = agrees.on_requests (stands_for x) (stands_alike x) (x.number - 1) (omega (arith, less)) ∙ there in
    any_more (λ (i : Issued). is_since (x.number - 1) i && stands_for x i) (λ (i : Issued). nat_le x.number i.number && stands_for x i) (shown_by x) own
    (sym (any_of_filter (stands_for x) (is_since (x.number - 1)) own) ∙ here)

all_held : (own bans : List Issued) (objects : List Placed) → AllByRecursion (Agrees own bans) objects → AllShown own (map (held_of bans) objects)
all_held own bans [] all = tt
all_held own bans (p ∷ objects) all = (all_in (λ x. is_shown own x ≡ true) (since p.place bans) (λ x among. one_shown own bans p x all.0 among), all_held own bans objects all.1)

pub lines_show : (lazy : Lazy) (moment : ℕ) (bans : List Issued) → IsKept lazy bans → ShowsBans bans (seen moment bans lazy.objects) lazy.lines
lines_show lazy moment bans kept =
    record {
      part = kept.listed.part;
      shown = all_held (kept_bans lazy) bans (those_alive moment bans lazy.objects) (all-filter (Agrees (kept_bans lazy) bans) (is_alive moment bans) lazy.objects kept.agrees);
      completed = kept.listed.completed;
    }
