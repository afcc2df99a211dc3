-- What is done with objects is done alike with those for which fewer bans wait.
use Rattle.std.proofs.Common.{◌≡◌, ◌⊎◌, ℕ, Bool, true, false, not, cond, List, [], ◌∷◌, ◌+◌, ◌==◌, ◌&&◌, ◌||◌, nat_le, nat_lt, Option, Some, None, filter, map, find, length, inl, inr, refl, arith, sym, ap, ◌∙◌, subst}
use Rattle.std.specs.List.{list_any, AllByRecursion}
use Rattle.std.specs.Option.{option_map_or}
use Rattle.std.proofs.lemmas.Bool.{false≢true, and_parts, or_cases, or_left, or_right}
use Rattle.std.proofs.lemmas.List.Sums.{sum_by-cons}
use Rattle.cache_law.specs.declared.object.Object.{Object}
use Rattle.cache_law.specs.declared.ban.Issued.{Issued}
use Rattle.cache_law.specs.declared.call.Query.{Query}
use Rattle.cache_law.specs.declared.call.RequestView.{RequestView}
use Rattle.cache_law.specs.Object.{size_of, key_of, same_texts}
use Rattle.cache_law.specs.Bans.{is_equal, meets}
use Rattle.cache_law.specs.ShownBans.{IsPartOf}
use Rattle.cache_law.specs.BansAtOnce.{is_met, cleared}
use Rattle.cache_law.specs.State.{Held, sizes_of, inherited, without_stale, is_gone}
use Rattle.cache_law.specs.Room.{is_used_from, outweighs, staying, has_no_room, most_displaced}
use Rattle.cache_law.specs.Lookup.{Scan, scanned, is_chosen_by, is_fresh, ending, seeing, passing, tested}
use Rattle.cache_law.specs.Bases.{IsIn, is_completed, IsThinned, IsHeldAlike, AreHeldAlike}
use Rattle.cache_law.proofs.BanLemmas.{equal_bans_alike}

-- Thinned lists of bans.

pub thin_none : IsThinned [] []
thin_none = record { part = tt; covers = tt }

covered_more : (issued : Issued) (kept whole : List Issued) → AllByRecursion (λ (ban : Issued). IsIn ban kept ⊎ (is_completed kept ban ≡ true)) whole
    → AllByRecursion (λ (ban : Issued). IsIn ban (issued ∷ kept) ⊎ (is_completed (issued ∷ kept) ban ≡ true)) whole
covered_more issued kept [] all = tt
covered_more issued kept (ban ∷ whole) all = (one all.0, covered_more issued kept whole all.1)
  where
    one : IsIn ban kept ⊎ (is_completed kept ban ≡ true) → IsIn ban (issued ∷ kept) ⊎ (is_completed (issued ∷ kept) ban ≡ true)
    one (inl p) = inl (inr p)
    one (inr e) = inr (or_right (nat_le ban.number issued.number && is_equal issued.ban ban.ban) (is_completed kept ban) e)

pub one_more_thinned : (issued : Issued) (kept whole : List Issued) → IsThinned kept whole → IsThinned (issued ∷ kept) (issued ∷ whole)
one_more_thinned issued kept whole thin = record { part = inl (refl, thin.part); covers = (inl (inl refl), covered_more issued kept whole thin.covers) }

-- a test passes one of a part, so it passes one of the whole
any_first : (test : Issued → Bool) (ban other : Issued) (part whole : List Issued) → ban ≡ other → (list_any test part ≡ true → list_any test whole ≡ true)
    → (b : Bool) → test ban ≡ b → (b || list_any test part) ≡ true → (test other || list_any test whole) ≡ true
any_first test ban other part whole same later true f e = or_left (test other) (list_any test whole) (ap test (sym same) ∙ f)
any_first test ban other part whole same later false f e = or_right (test other) (list_any test whole) (later e)

pub any_part : (test : Issued → Bool) (part whole : List Issued) → IsPartOf part whole → list_any test part ≡ true → list_any test whole ≡ true
any_part test [] whole p e = absurd (false≢true e)
any_part test (ban ∷ part) [] p e = absurd p
any_part test (ban ∷ part) (other ∷ whole) (inl both) e = any_first test ban other part whole both.0 (any_part test part whole both.1) (test ban) refl e
any_part test (ban ∷ part) (other ∷ whole) (inr p) e = or_right (test other) (list_any test whole) (any_part test (ban ∷ part) whole p e)

-- the test passes a ban that is among these
any_in : (test : Issued → Bool) (ban : Issued) (bans : List Issued) → IsIn ban bans → test ban ≡ true → list_any test bans ≡ true
any_in test ban [] p e = absurd p
any_in test ban (other ∷ bans) (inl same) e = or_left (test other) (list_any test bans) (ap test (sym same) ∙ e)
any_in test ban (other ∷ bans) (inr p) e = or_right (test other) (list_any test bans) (any_in test ban bans p e)

-- a test that passes equal bans alike
abbrev pub PassesAlike : (Issued → Bool) → Type 0
PassesAlike test = (ban later : Issued) → is_equal later.ban ban.ban ≡ true → test later ≡ test ban

any_completed : (test : Issued → Bool) → PassesAlike test → (ban : Issued) (bans : List Issued) → is_completed bans ban ≡ true → test ban ≡ true → list_any test bans ≡ true
any_completed test alike ban [] e passes = absurd (false≢true e)
any_completed test alike ban (later ∷ bans) e passes = by_first (any_completed test alike ban bans) (or_cases _ _ e)
  where
    by_first : (is_completed bans ban ≡ true → test ban ≡ true → list_any test bans ≡ true)
        → ((nat_le ban.number later.number && is_equal later.ban ban.ban) ≡ true) ⊎ (is_completed bans ban ≡ true) → (test later || list_any test bans) ≡ true
    by_first behind (inl here) = or_left (test later) (list_any test bans) (alike ban later (and_parts (nat_le ban.number later.number) (is_equal later.ban ban.ban) here).1 ∙ passes)
    by_first behind (inr there) = or_right (test later) (list_any test bans) (behind there passes)

any_whole : (test : Issued → Bool) → PassesAlike test → (kept whole : List Issued) → AllByRecursion (λ (ban : Issued). IsIn ban kept ⊎ (is_completed kept ban ≡ true)) whole → list_any test whole ≡ true → list_any test kept ≡ true
any_whole test alike kept [] covers e = absurd (false≢true e)
any_whole test alike kept (ban ∷ whole) covers e = by_first (any_whole test alike kept whole covers.1) (or_cases _ _ e) covers.0
  where
    by_first : (list_any test whole ≡ true → list_any test kept ≡ true) → (test ban ≡ true) ⊎ (list_any test whole ≡ true) → IsIn ban kept ⊎ (is_completed kept ban ≡ true) → list_any test kept ≡ true
    by_first behind (inl here) (inl p) = any_in test ban kept p here
    by_first behind (inl here) (inr c) = any_completed test alike ban kept c here
    by_first behind (inr there) cover = behind there

-- such a test passes one of thinned bans where it passes one of all
pub any_thinned : (test : Issued → Bool) → PassesAlike test → (kept whole : List Issued) → IsThinned kept whole → list_any test kept ≡ list_any test whole
any_thinned test alike kept whole thin = same_truth (list_any test kept) (list_any test whole) (any_part test kept whole thin.part) (any_whole test alike kept whole thin.covers)
  where
    same_truth : (a b : Bool) → (a ≡ true → b ≡ true) → (b ≡ true → a ≡ true) → a ≡ b
    same_truth true b f g = sym (f refl)
    same_truth false true f g = g refl
    same_truth false false f g = refl

-- Objects alike.

-- What holds of no objects, and of one object more before others, holds of alike ones.
pub alike_by : (P : List Held → List Held → Type 0) → P [] [] → ((held : Held) (pending : List Issued) (less more : List Held) → IsThinned held.pending pending → AreHeldAlike less more → P less more → P (held ∷ less) (record held { pending = pending } ∷ more))
    → (less more : List Held) → AreHeldAlike less more → P less more
alike_by P none_ one [] [] all = none_
alike_by P none_ one [] (other ∷ more) all = absurd all
alike_by P none_ one (held ∷ less) [] all = absurd all
alike_by P none_ one (held ∷ less) (other ∷ more) all =
    subst (λ (h : Held). P (held ∷ less) (h ∷ more)) all.0.rest (one held other.pending less more all.0.pending all.1 (alike_by P none_ one less more all.1))

pub held_alike : (held : Held) (pending : List Issued) → IsThinned held.pending pending → IsHeldAlike held (record held { pending = pending })
held_alike held pending thin = record { rest = refl; pending = thin }

-- a test that looks at no bans
abbrev pub LooksElsewhere : (Held → Bool) → Type 0
LooksElsewhere test = (held : Held) (pending : List Issued) → test (record held { pending = pending }) ≡ test held

kept_alike : (b : Bool) (held other : Held) (less more : List Held) → IsHeldAlike held other → AreHeldAlike less more → AreHeldAlike (cond b (held ∷ less) less) (cond b (other ∷ more) more)
kept_alike true held other less more here rest = (here, rest)
kept_alike false held other less more here rest = rest

pub alike-filters : (test other : Held → Bool) → ((held : Held) (pending : List Issued) → other (record held { pending = pending }) ≡ test held) → (less more : List Held) → AreHeldAlike less more → AreHeldAlike (filter test less) (filter other more)
alike-filters test other same less more all =
    alike_by (λ (l m : List Held). AreHeldAlike (filter test l) (filter other m)) tt
    (λ held pending l m thin rest ih.
    subst (λ (b : Bool). AreHeldAlike (cond (test held) (held ∷ filter test l) (filter test l)) (cond b (record held { pending = pending } ∷ filter other m) (filter other m))) (sym (same held pending))
    (kept_alike (test held) held (record held { pending = pending }) _ _ (held_alike held pending thin) ih))
    less more all

pub alike-filter : (test : Held → Bool) → LooksElsewhere test → (less more : List Held) → AreHeldAlike less more → AreHeldAlike (filter test less) (filter test more)
alike-filter test same less more all = alike-filters test test same less more all

pub alike-map : (f : Held → Held) → ((held : Held) (pending : List Issued) → IsThinned held.pending pending → IsHeldAlike (f held) (f (record held { pending = pending }))) → (less more : List Held) → AreHeldAlike less more → AreHeldAlike (map f less) (map f more)
alike-map f same less more all =
    alike_by (λ (l m : List Held). AreHeldAlike (map f l) (map f m)) tt (λ held pending l m thin rest ih. (same held pending thin, ih)) less more all

pub alike-length : (less more : List Held) → AreHeldAlike less more → length less ≡ length more
alike-length less more all = alike_by (λ (l m : List Held). length l ≡ length m) refl (λ held pending l m thin rest ih. omega (arith, ih)) less more all

pub alike-any : (test : Held → Bool) → LooksElsewhere test → (less more : List Held) → AreHeldAlike less more → list_any test less ≡ list_any test more
alike-any test same less more all =
    alike_by (λ (l m : List Held). list_any test l ≡ list_any test m) refl (λ held pending l m thin rest ih. rw (same held pending, ih) refl) less more all

pub alike-sizes : (less more : List Held) → AreHeldAlike less more → sizes_of less ≡ sizes_of more
alike-sizes less more all =
    alike_by (λ (l m : List Held). sizes_of l ≡ sizes_of m) refl
    (λ held pending l m thin rest ih. omega (arith, ih, sum_by-cons (λ (h : Held). size_of h.view.object) held l, sum_by-cons (λ (h : Held). size_of h.view.object) (record held { pending = pending }) m)) less more all

pub alike-outweighs : (room size : ℕ) (less more : List Held) → AreHeldAlike less more → (held : Held) (pending : List Issued) → outweighs room size more (record held { pending = pending }) ≡ outweighs room size less held
alike-outweighs room size less more all held pending =
    ap (λ (n : ℕ). nat_lt room (n + size)) (sym (alike-sizes _ _ (alike-filter (is_used_from held.used) (λ h p. refl) less more all)))

pub alike-staying : (room size : ℕ) (less more : List Held) → AreHeldAlike less more → AreHeldAlike (staying room size less) (staying room size more)
alike-staying room size less more all =
    alike-filters (λ (h : Held). not (outweighs room size less h)) (λ (h : Held). not (outweighs room size more h)) (λ h p. ap not (alike-outweighs room size less more all h p)) less more all

pub alike-no_room : (room size : ℕ) (less more : List Held) → AreHeldAlike less more → has_no_room room size less ≡ has_no_room room size more
alike-no_room room size less more all =
    ap (λ (n : ℕ). nat_lt room size || nat_lt most_displaced n) (alike-length _ _ (alike-filters (outweighs room size less) (outweighs room size more) (alike-outweighs room size less more all) less more all))

pub alike-without : (stale : Option ℕ) (less more : List Held) → AreHeldAlike less more → AreHeldAlike (without_stale stale less) (without_stale stale more)
alike-without None less more all = all
alike-without (Some stale) less more all = alike-filter (λ (h : Held). not (h.view.number == stale)) (λ h p. refl) less more all

pub alike-gone : (stale : Option ℕ) (less more : List Held) → AreHeldAlike less more → is_gone stale less ≡ is_gone stale more
alike-gone None less more all = refl
alike-gone (Some stale) less more all = ap not (alike-any (λ (h : Held). h.view.number == stale) (λ h p. refl) less more all)

abbrev pending_of : Option Held → List Issued
pending_of found = option_map_or (λ (h : Held). h.pending) found []

found_thinned : (b : Bool) (held other : Held) (one two : Option Held) → IsThinned held.pending other.pending → IsThinned (pending_of one) (pending_of two) → IsThinned (pending_of (cond b (Some held) one)) (pending_of (cond b (Some other) two))
found_thinned true held other one two here there = here
found_thinned false held other one two here there = there

pub alike-inherited : (stale : Option ℕ) (less more : List Held) → AreHeldAlike less more → IsThinned (inherited stale less) (inherited stale more)
alike-inherited None less more all = thin_none
alike-inherited (Some stale) less more all =
    alike_by (λ (l m : List Held). IsThinned (inherited (Some stale) l) (inherited (Some stale) m)) thin_none
    (λ held pending l m thin rest ih. found_thinned (held.view.number == stale) held (record held { pending = pending }) (find (λ (h : Held). h.view.number == stale) l) (find (λ (h : Held). h.view.number == stale) m) thin ih) less more all

-- Scans alike.

meets_alike : (object : Object) (request : RequestView) → PassesAlike (meets object request)
meets_alike object request ban later e = equal_bans_alike later.ban ban.ban later.moment ban.moment object (Some request) e

pub record AreScansAlike (one two : Scan Held) : Type 0 where
  pub fresh : one.fresh ≡ two.fresh
  pub grace : one.grace ≡ two.grace
  pub stale : one.stale ≡ two.stale
  pub objects : AreHeldAlike one.objects two.objects

cleared_alike : (held : Held) (pending : List Issued) → IsHeldAlike (cleared held) (cleared (record held { pending = pending }))
cleared_alike held pending = record { rest = refl; pending = thin_none }

scan_step : (moment : ℕ) (query : Query) (held : Held) (pending : List Issued) (less more : List Held) (one two : Scan Held) (ours met suits fresh : Bool) → IsThinned held.pending pending → AreHeldAlike less more → AreScansAlike one two
    → AreScansAlike
    (cond ours (cond met one (cond suits (cond fresh (ending held.view (cleared held) less) (seeing moment query.options held.view (cleared held) one)) (passing (cleared held) one))) (passing held one))
    (cond ours (cond met two (cond suits (cond fresh (ending held.view (cleared held) more) (seeing moment query.options held.view (cleared held) two)) (passing (cleared held) two))) (passing (record held { pending = pending }) two))
scan_step moment query held pending less more one two false met suits fresh thin all scans =
    record { fresh = scans.fresh; grace = scans.grace; stale = scans.stale; objects = (held_alike held pending thin, scans.objects) }
scan_step moment query held pending less more one two true true suits fresh thin all scans = scans
scan_step moment query held pending less more one two true false false fresh thin all scans =
    record { fresh = scans.fresh; grace = scans.grace; stale = scans.stale; objects = (cleared_alike held pending, scans.objects) }
scan_step moment query held pending less more one two true false true false thin all scans =
    record { fresh = scans.fresh; grace = rw (scans.grace) refl; stale = rw (scans.stale) refl; objects = (cleared_alike held pending, scans.objects) }
scan_step moment query held pending less more one two true false true true thin all scans =
    record { fresh = refl; grace = refl; stale = refl; objects = (cleared_alike held pending, all) }

pub scans_alike : (moment : ℕ) (query : Query) (less more : List Held) → AreHeldAlike less more → AreScansAlike (scanned moment query less) (scanned moment query more)
scans_alike moment query less more all =
    alike_by (λ (l m : List Held). AreScansAlike (scanned moment query l) (scanned moment query m)) (record { fresh = refl; grace = refl; stale = refl; objects = tt })
    (λ held pending l m thin rest ih.
    subst (λ (met : Bool). AreScansAlike (scanned moment query (held ∷ l))
    (cond (same_texts (key_of held.view.object) query.key) (cond met (scanned moment query m) (tested moment query (record held { pending = pending }) m (scanned moment query m))) (passing (record held { pending = pending }) (scanned moment query m))))
    (any_thinned (meets held.view.object query.request) (meets_alike held.view.object query.request) held.pending pending thin)
    (scan_step moment query held pending l m (scanned moment query l) (scanned moment query m) (same_texts (key_of held.view.object) query.key) (is_met query.request held) (is_chosen_by query held.view.object) (is_fresh moment query.options held.view.object) thin rest ih))
    less more all
