-- A store without what isn't in time, and without the bans that wait for nothing, holds a base that is alike.
use Rattle.std.proofs.Common.{◌≡◌, ℕ, Bool, true, false, cond, List, [], ◌∷◌, ◌+◌, ◌<◌, ◌≤◌, ◌&&◌, ◌||◌, ◌⊎◌, nat_lt, filter, inl, inr, refl, arith, sym, ap, ◌∙◌, subst}
use Rattle.std.specs.List.{AllByRecursion, list_any}
use Rattle.std.proofs.lemmas.Bool.{true≢false, false≢true, and_parts, and_from, or_cases, le-ltb, ltb-true, ltb-false}
use Rattle.cache_law.specs.declared.ban.Issued.{Issued}
use Rattle.cache_law.specs.ShownBans.{IsPartOf}
use Rattle.cache_law.specs.State.{State, Held, as_seen, those_in_time}
use Rattle.cache_law.specs.BansAtOnce.{AwaitIssued}
use Rattle.cache_law.specs.Object.{in_time}
use Rattle.cache_law.specs.Bases.{AreAlike, AreFalling, IsAwaited, IsBase, IsClosed, IsIn, IsSound}
use Rattle.cache_law.proofs.Cut.{alike_over, base_over, falling_more, part_falling}
use Rattle.flat_core.specs.declared.stored_object.StoredObject.{StoredObject}
use Rattle.flat_core.specs.StoredObject.{is_waiting, since, waiting, held_of, held_all}
use Rattle.flat_core.specs.Banning.{is_needed}
use Rattle.flat_core.proofs.Objects.{held_all-filter, since_low}
use Rattle.flat_core.proofs.Bannings.{waiting_part}

kept_part : (b : Bool) (ban : Issued) (kept bans : List Issued) → IsPartOf kept bans → IsPartOf (cond b (ban ∷ kept) kept) (ban ∷ bans)
kept_part true ban kept bans p = inl (refl, p)
kept_part false ban [] bans p = tt
kept_part false ban (x ∷ kept) bans p = inr p

filter_part : (test : Issued → Bool) (bans : List Issued) → IsPartOf (filter test bans) bans
filter_part test [] = tt
filter_part test (ban ∷ bans) = kept_part (test ban) ban (filter test bans) bans (filter_part test bans)

-- what waits, where bans go that don't

waits_step : (test : Issued → Bool) (count : ℕ) (ban : Issued) (bans : List Issued) (later kept waits : Bool) → nat_lt count ban.number ≡ later → test ban ≡ kept → is_waiting ban ≡ waits → (waits ≡ true → later ≡ true → kept ≡ true)
    → waiting (filter test bans) count ≡ waiting bans count → (later ≡ false → since count (filter test bans) ≡ [])
    → filter is_waiting (since count (cond kept (ban ∷ filter test bans) (filter test bans))) ≡ filter is_waiting (cond later (ban ∷ since count bans) [])
waits_step test count ban bans true true true l k w needs same low = rw (l, w) (ap (λ (rest : List Issued). ban ∷ rest) same)
waits_step test count ban bans true true false l k w needs same low = rw (l, w) same
waits_step test count ban bans true false true l k w needs same low = absurd (false≢true (needs refl refl))
waits_step test count ban bans true false false l k w needs same low = rw (w) same
waits_step test count ban bans false true waits l k w needs same low = rw (l) refl
waits_step test count ban bans false false waits l k w needs same low = ap (filter is_waiting) (low refl)

waits_same : (test : Issued → Bool) (count bound : ℕ) (bans : List Issued) → AreFalling bound bans → ((ban : Issued) → is_waiting ban ≡ true → nat_lt count ban.number ≡ true → test ban ≡ true)
    → waiting (filter test bans) count ≡ waiting bans count
waits_same test count bound [] falling needs = refl
waits_same test count bound (ban ∷ bans) falling needs =
    waits_step test count ban bans (nat_lt count ban.number) (test ban) (is_waiting ban) refl refl refl (needs ban) (waits_same test count ban.number bans falling.1 needs)
    (λ early. since_low count ban.number (filter test bans) (omega (arith, ltb-false count ban.number early)) (part_falling ban.number (filter test bans) bans (filter_part test bans) falling.1))

needed_of : (ban : Issued) (objects : List StoredObject) → is_waiting ban ≡ true → list_any (λ (kept : StoredObject). nat_lt kept.tested ban.number) objects ≡ true → is_needed objects ban ≡ true
needed_of ban objects waits some = and_from (is_waiting ban) (list_any (λ (kept : StoredObject). nat_lt kept.tested ban.number) objects) waits some

or_behind : (a b : Bool) → b ≡ true → (a || b) ≡ true
or_behind true b e = refl
or_behind false b e = e

or_before : (a b : Bool) → a ≡ true → (a || b) ≡ true
or_before true b e = refl
or_before false b e = absurd (false≢true e)

-- the objects are as they were, where bans go that wait for none of them
held_same : (bound : ℕ) (bans : List Issued) (test : Issued → Bool) (objects : List StoredObject) → AreFalling bound bans
    → ((ban : Issued) → is_waiting ban ≡ true → list_any (λ (kept : StoredObject). nat_lt kept.tested ban.number) objects ≡ true → test ban ≡ true)
    → held_all (filter test bans) objects ≡ held_all bans objects
held_same bound bans test [] falling needs = refl
held_same bound bans test (kept ∷ objects) falling needs =
    let first = waits_same test kept.tested bound bans falling (λ ban waits later. needs ban waits (or_before (nat_lt kept.tested ban.number) (list_any (λ (k : StoredObject). nat_lt k.tested ban.number) objects) later)) in
    let rest = held_same bound bans test objects falling (λ ban waits some. needs ban waits (or_behind (nat_lt kept.tested ban.number) (list_any (λ (k : StoredObject). nat_lt k.tested ban.number) objects) some)) in
    ap (λ (pending : List Issued). record { view = kept.view; used = kept.used; pending = pending } ∷ held_all (filter test bans) objects) first ∙ ap (λ (hs : List Held). held_of bans kept ∷ hs) rest

-- the bans that wait are among those that wait for an object

in_filter : (b : Bool) (ban own : Issued) (rest : List Issued) → ban ≡ own → b ≡ true → IsIn ban (cond b (own ∷ rest) rest)
in_filter true ban own rest same e = inl same
in_filter false ban own rest same e = absurd (false≢true e)

behind_filter : (b : Bool) (ban own : Issued) (rest : List Issued) → IsIn ban rest → IsIn ban (cond b (own ∷ rest) rest)
behind_filter true ban own rest p = inr p
behind_filter false ban own rest p = p

below_bound : (bound : ℕ) (ban : Issued) (bans : List Issued) → AreFalling bound bans → IsIn ban bans → ban.number < bound
below_bound bound ban [] falling p = absurd p
below_bound bound ban (own ∷ bans) falling (inl same) = omega (arith, falling.0, ap (λ (b : Issued). b.number) same)
below_bound bound ban (own ∷ bans) falling (inr p) = omega (arith, falling.0, below_bound own.number ban bans falling.1 p)

in_step : (count : ℕ) (ban own : Issued) (bans : List Issued) (b : Bool) → nat_lt count own.number ≡ b → (ban ≡ own) ⊎ (ban.number < own.number) → nat_lt count ban.number ≡ true → is_waiting ban ≡ true
    → (ban ≡ own) ⊎ IsIn ban (waiting bans count) → IsIn ban (filter is_waiting (cond b (own ∷ since count bans) []))
in_step count ban own bans true e order later waits (inl same) = in_filter (is_waiting own) ban own (waiting bans count) same (ap is_waiting (sym same) ∙ waits)
in_step count ban own bans true e order later waits (inr p) = behind_filter (is_waiting own) ban own (waiting bans count) p
in_step count ban own bans false e (inl same) later waits p = absurd (true≢false (sym later ∙ ap (λ (b : Issued). nat_lt count b.number) same ∙ e))
in_step count ban own bans false e (inr less) later waits p = absurd (omega (arith, less, ltb-true count ban.number later, ltb-false count own.number e))

in_waiting : (count bound : ℕ) (ban : Issued) (bans : List Issued) → AreFalling bound bans → IsIn ban bans → is_waiting ban ≡ true → nat_lt count ban.number ≡ true → IsIn ban (waiting bans count)
in_waiting count bound ban [] falling p waits later = absurd p
in_waiting count bound ban (own ∷ bans) falling (inl same) waits later = in_step count ban own bans (nat_lt count own.number) refl (inl same) later waits (inl same)
in_waiting count bound ban (own ∷ bans) falling (inr p) waits later =
    in_step count ban own bans (nat_lt count own.number) refl (inr (below_bound own.number ban bans falling.1 p)) later waits (inr (in_waiting count own.number ban bans falling.1 p waits later))

awaited : (bound : ℕ) (ban : Issued) (bans : List Issued) (objects : List StoredObject) → AreFalling bound bans → IsIn ban bans → is_waiting ban ≡ true → list_any (λ (kept : StoredObject). nat_lt kept.tested ban.number) objects ≡ true → IsAwaited ban (held_all bans objects)
awaited bound ban bans [] falling p waits some = absurd (false≢true some)
awaited bound ban bans (kept ∷ objects) falling p waits some =
    by_first (awaited bound ban bans objects falling p waits) (or_cases (nat_lt kept.tested ban.number) (list_any (λ (k : StoredObject). nat_lt k.tested ban.number) objects) some)
  where
    by_first : (list_any (λ (k : StoredObject). nat_lt k.tested ban.number) objects ≡ true → IsAwaited ban (held_all bans objects))
        → (nat_lt kept.tested ban.number ≡ true) ⊎ (list_any (λ (k : StoredObject). nat_lt k.tested ban.number) objects ≡ true) → IsIn ban (waiting bans kept.tested) ⊎ IsAwaited ban (held_all bans objects)
    by_first behind_ (inl here) = inl (in_waiting kept.tested bound ban bans falling p waits here)
    by_first behind_ (inr later) = inr (behind_ later)

passed_step : (test : Issued → Bool) (own ban : Issued) (rest : List Issued) (b : Bool) → test own ≡ b → (IsIn ban rest → test ban ≡ true) → IsIn ban (cond b (own ∷ rest) rest) → test ban ≡ true
passed_step test own ban rest true e behind (inl same) = ap test same ∙ e
passed_step test own ban rest true e behind (inr p) = behind p
passed_step test own ban rest false e behind p = behind p

in_passes : (test : Issued → Bool) (ban : Issued) (bans : List Issued) → IsIn ban (filter test bans) → test ban ≡ true
in_passes test ban [] p = absurd p
in_passes test ban (own ∷ bans) p = passed_step test own ban (filter test bans) (test own) refl (in_passes test ban bans) p

all_bans : (P : Issued → Type 0) (bans : List Issued) → ((ban : Issued) → IsIn ban bans → P ban) → AllByRecursion P bans
all_bans P [] each = tt
all_bans P (ban ∷ bans) each = (each ban (inl refl), all_bans P bans (λ other p. each other (inr p)))

all_await : (bans : List Issued) (objects : List StoredObject) → AwaitIssued bans (held_all bans objects)
all_await bans [] = tt
all_await bans (kept ∷ objects) = (waiting_part bans kept.tested, all_await bans objects)

-- ---- the store

module _ (old : State) (objects left : List StoredObject) (bans : List Issued) (kept : old.objects ≡ held_all old.bans objects) (falling : AreFalling (old.issued + 1) old.bans)
    (thinned : left ≡ filter (λ (k : StoredObject). in_time old.moment k.view.object) objects) (needed : bans ≡ filter (is_needed left) old.bans) where
  same_objects : held_all bans left ≡ (as_seen old).objects
  same_objects =
      ap (λ (b : List Issued). held_all b left) needed
      ∙ held_same (old.issued + 1) old.bans (is_needed left) left falling (λ ban waits some. needed_of ban left waits some)
      ∙ ap (held_all old.bans) thinned ∙ held_all-filter old.bans old.moment objects ∙ ap (those_in_time old.moment) (sym kept)

  part : IsPartOf bans old.bans
  part = subst (λ (b : List Issued). IsPartOf b old.bans) (sym needed) (filter_part (is_needed left) old.bans)

  lower : AreFalling (old.issued + 1) bans
  lower = part_falling (old.issued + 1) bans old.bans part falling

  wanted : AllByRecursion (λ (ban : Issued). IsAwaited ban (held_all bans left)) bans
  wanted =
      all_bans (λ (ban : Issued). IsAwaited ban (held_all bans left)) bans
      (λ ban p. let passes = and_parts (is_waiting ban) (list_any (λ (k : StoredObject). nat_lt k.tested ban.number) left) (in_passes (is_needed left) ban old.bans (subst (IsIn ban) needed p)) in
      awaited (old.issued + 1) ban bans left lower p passes.0 passes.1)

  pub cut_base : IsSound (as_seen old) → IsClosed old → IsBase (record old { bans = bans; objects = held_all bans left })
  cut_base sound closed =
      subst (λ (os : List Held). IsBase (record old { bans = bans; objects = os })) (sym same_objects)
      (base_over old bans sound closed part (subst (AwaitIssued bans) same_objects (all_await bans left)) (subst (λ (os : List Held). AllByRecursion (λ (ban : Issued). IsAwaited ban os) bans) same_objects wanted))

  pub cut_alike : AreAlike (record old { bans = bans; objects = held_all bans left }) old
  cut_alike = subst (λ (os : List Held). AreAlike (record old { bans = bans; objects = os }) old) (sym same_objects) (alike_over old bans part)

  pub cut_falls : AreFalling (old.issued + 1) bans
  cut_falls = lower
