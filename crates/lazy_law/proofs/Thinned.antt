-- Bans that agree with all are thinned ones of these, for each object.
use Rattle.std.proofs.Common.{◌≡◌, ◌≤◌, ◌<◌, ◌-◌, ◌==◌, ◌⊎◌, ℕ, Bool, true, false, not, cond, List, [], ◌∷◌, ◌&&◌, nat_le, nat_lt, filter, map, inl, inr, refl, arith, sym, ap, ◌∙◌, subst}
use Rattle.std.specs.List.{list_any, AllByRecursion}
use Rattle.std.proofs.lemmas.Bool.{false≢true, true≢false, and_from, and_parts, eqb-true, le-leb, lt-ltb, ltb-true, or_cases}
use Rattle.cache_law.specs.declared.ban.BanLine.{BanLine}
use Rattle.cache_law.specs.declared.ban.Issued.{Issued}
use Rattle.cache_law.specs.Bans.{is_equal, lasting, stands_for}
use Rattle.cache_law.specs.Bases.{AreFalling, AreHeldAlike, IsIn, IsThinned, is_completed}
use Rattle.cache_law.specs.ShownBans.{IsPartOf, those_open}
use Rattle.ban_lurker.specs.Looks.{is_alone}
use Rattle.lazy_law.specs.Placed.{Placed, held_of, is_since, since}
use Rattle.lazy_law.specs.Stands.{Agrees}
use Rattle.lazy_law.proofs.Filters.{any_of_filter}
use Rattle.lazy_law.proofs.Lines.{bans_of}
use Rattle.lazy_law.proofs.Shown.{all_in, any_in, for_itself, in_filter, since_own, stands_alike}

-- ---- parts

skip_one : (part bans : List Issued) (i : Issued) → IsPartOf part bans → IsPartOf part (i ∷ bans)
skip_one [] bans i p = tt
skip_one (x ∷ part) bans i p = inr p

one_part : (b : Bool) (part bans : List Issued) (i : Issued) → IsPartOf part bans → IsPartOf (cond b (i ∷ part) part) (i ∷ bans)
one_part true part bans i p = inl (refl, p)
one_part false part bans i p = skip_one part bans i p

pub filter_part : (keep : Issued → Bool) (bans : List Issued) → IsPartOf (filter keep bans) bans
filter_part keep [] = tt
filter_part keep (i ∷ bans) = one_part (keep i) (filter keep bans) bans i (filter_part keep bans)

both_step : (b c : Bool) (i other : Issued) (part bans : List Issued) → i ≡ other → b ≡ c → IsPartOf part bans → IsPartOf (cond b (i ∷ part) part) (cond c (other ∷ bans) bans)
both_step true true i other part bans e same p = inl (e, p)
both_step false false i other part bans e same p = p
both_step true false i other part bans e same p = absurd (true≢false same)
both_step false true i other part bans e same p = absurd (false≢true same)

skip_step : (c : Bool) (i : Issued) (part bans : List Issued) → IsPartOf part bans → IsPartOf part (cond c (i ∷ bans) bans)
skip_step true i part bans p = skip_one part bans i p
skip_step false i part bans p = p

part_of_filters : (keep : Issued → Bool) (part bans : List Issued) → IsPartOf part bans → IsPartOf (filter keep part) (filter keep bans)
part_of_filters keep [] bans p = tt
part_of_filters keep (x ∷ part) [] p = absurd p
part_of_filters keep (x ∷ part) (i ∷ bans) (inl both) = both_step (keep x) (keep i) x i (filter keep part) (filter keep bans) both.0 (ap keep both.0) (part_of_filters keep part bans both.1)
part_of_filters keep (x ∷ part) (i ∷ bans) (inr p) = skip_step (keep i) i (filter keep (x ∷ part)) (filter keep bans) (part_of_filters keep (x ∷ part) bans p)

open_step : (b : Bool) (line : BanLine) (rest lines : List BanLine) → IsPartOf (bans_of rest) (bans_of lines) → IsPartOf (bans_of (cond b (line ∷ rest) rest)) (line.issued ∷ bans_of lines)
open_step true line rest lines p = inl (refl, p)
open_step false line rest lines p = skip_one (bans_of rest) (bans_of lines) line.issued p

pub open_part : (lines : List BanLine) → IsPartOf (those_open lines) (bans_of lines)
open_part [] = tt
open_part (line ∷ lines) = open_step (not line.completed) line (filter (λ (l : BanLine). not l.completed) lines) lines (open_part lines)

-- ---- members

in_part : (x : Issued) (part bans : List Issued) → IsPartOf part bans → IsIn x part → IsIn x bans
in_part x [] bans p among = absurd among
in_part x (i ∷ part) [] p among = absurd p
in_part x (i ∷ part) (other ∷ bans) (inl both) (inl same) = inl (same ∙ both.0)
in_part x (i ∷ part) (other ∷ bans) (inl both) (inr among) = inr (in_part x part bans both.1 among)
in_part x (i ∷ part) (other ∷ bans) (inr p) among = inr (in_part x (i ∷ part) bans p among)

below_bound : (bound : ℕ) (x : Issued) (bans : List Issued) → AreFalling bound bans → IsIn x bans → x.number < bound
below_bound bound x [] falling among = absurd among
below_bound bound x (i ∷ bans) falling (inl same) = omega (arith, falling.0, ap (λ (b : Issued). b.number) same)
below_bound bound x (i ∷ bans) falling (inr among) = omega (arith, falling.0, below_bound i.number x bans falling.1 among)

-- falling bans have numbers of their own
own_number : (bound : ℕ) (x y : Issued) (bans : List Issued) → AreFalling bound bans → IsIn x bans → IsIn y bans → x.number ≡ y.number → x ≡ y
own_number bound x y [] falling one other e = absurd one
own_number bound x y (i ∷ bans) falling (inl same) (inl also) e = same ∙ sym also
own_number bound x y (i ∷ bans) falling (inl same) (inr other) e = let less = below_bound i.number y bans falling.1 other in absurd (omega (arith, less, e, ap (λ (b : Issued). b.number) same))
own_number bound x y (i ∷ bans) falling (inr one) (inl also) e = let less = below_bound i.number x bans falling.1 one in absurd (omega (arith, less, e, ap (λ (b : Issued). b.number) also))
own_number bound x y (i ∷ bans) falling (inr one) (inr other) e = own_number i.number x y bans falling.1 one other e

in_kept : (keep : Issued → Bool) (b : Bool) (x i : Issued) (rest : List Issued) → (x ≡ i) ⊎ IsIn x rest → keep i ≡ b → keep x ≡ true → IsIn x (cond b (i ∷ rest) rest)
in_kept keep true x i rest (inl same) e passes = inl same
in_kept keep true x i rest (inr among) e passes = inr among
in_kept keep false x i rest (inl same) e passes = absurd (false≢true (sym e ∙ (sym (ap keep same) ∙ passes)))
in_kept keep false x i rest (inr among) e passes = among

pub in_filtered : (keep : Issued → Bool) (x : Issued) (bans : List Issued) → IsIn x bans → keep x ≡ true → IsIn x (filter keep bans)
in_filtered keep x [] among passes = absurd among
in_filtered keep x (i ∷ bans) (inl same) passes = in_kept keep (keep i) x i (filter keep bans) (inl same) refl passes
in_filtered keep x (i ∷ bans) (inr among) passes = in_kept keep (keep i) x i (filter keep bans) (inr (in_filtered keep x bans among passes)) refl passes

-- one that passes the test
record Passer (test : Issued → Bool) (bans : List Issued) : Type 0 where
  ban : Issued
  among : IsIn ban bans
  passes : test ban ≡ true

passer_step : (test : Issued → Bool) (i : Issued) (bans : List Issued) → (test i ≡ true) ⊎ (list_any test bans ≡ true) → (list_any test bans ≡ true → Passer test bans) → Passer test (i ∷ bans)
passer_step test i bans (inl here) behind = record { ban = i; among = inl refl; passes = here }
passer_step test i bans (inr there) behind = let found = behind there in record { ban = found.ban; among = inr found.among; passes = found.passes }

passer : (test : Issued → Bool) (bans : List Issued) → list_any test bans ≡ true → Passer test bans
passer test [] e = absurd (false≢true e)
passer test (i ∷ bans) e = passer_step test i bans (or_cases (test i) (list_any test bans) e) (passer test bans)

-- ---- completed or there

completes : (x y : Issued) (bans : List Issued) → IsIn y bans → x.number ≤ y.number → is_equal y.ban x.ban ≡ true → is_completed bans x ≡ true
completes x y bans among order e =
    any_in (λ later. nat_le x.number later.number && is_equal later.ban x.ban) y bans among (and_from (nat_le x.number y.number) (is_equal y.ban x.ban) (le-leb x.number y.number order) e)

by_line : (x y : Issued) (b : Bool) → (cond b (lasting y.ban && (y.number == x.number)) (is_equal y.ban x.ban)) ≡ true → (y.number ≡ x.number) ⊎ (is_equal y.ban x.ban ≡ true)
by_line x y true e = inl (eqb-true y.number x.number (and_parts (lasting y.ban) (y.number == x.number) e).1)
by_line x y false e = inr e

line_says : (x y : Issued) → stands_for x y ≡ true → (y.number ≡ x.number) ⊎ (is_equal y.ban x.ban ≡ true)
unfolding stands_for
line_says x y e = by_line x y (lasting x.ban) e

one_covered : (bound : ℕ) (own bans : List Issued) (p : Placed) (x : Issued) → IsPartOf own bans → AreFalling bound bans → Agrees own bans p → IsIn x (since p.place bans)
    → IsIn x (since p.place own) ⊎ (is_completed (since p.place own) x ≡ true)
one_covered bound own bans p x part falling agrees among =
    let both = in_filter (is_since p.place) x bans among in
    let less = ltb-true p.place x.number (and_parts (nat_lt p.place x.number) (not (is_alone x)) both.1).0 in
    let there : list_any (stands_for x) (since (x.number - 1) bans) ≡ true =
    any_of_filter (stands_for x) (is_since (x.number - 1)) bans
    ∙ any_in (λ (i : Issued). is_since (x.number - 1) i && stands_for x i) x bans both.0 (and_from (is_since (x.number - 1) x) (stands_for x x) (since_own x p.place both.1) (for_itself x)) in
    let here : list_any (stands_for x) (since (x.number - 1) own) ≡ true = agrees.on_requests (stands_for x) (stands_alike x) (x.number - 1) (omega (arith, less)) ∙ there in
    let found : Passer (stands_for x) (since (x.number - 1) own) = passer (stands_for x) (since (x.number - 1) own) here in
    let kept = in_filter (is_since (x.number - 1)) found.ban own found.among in
    let newer = ltb-true (x.number - 1) found.ban.number (and_parts (nat_lt (x.number - 1) found.ban.number) (not (is_alone found.ban)) kept.1).0 in
    let alone = (and_parts (nat_lt (x.number - 1) found.ban.number) (not (is_alone found.ban)) kept.1).1 in
    let late : IsIn found.ban (since p.place own) =
    in_filtered (is_since p.place) found.ban own kept.0 (and_from (nat_lt p.place found.ban.number) (not (is_alone found.ban)) (lt-ltb p.place found.ban.number (omega (arith, less, newer))) alone) in
    by_words found.ban kept.0 late (omega (arith, newer, less)) (line_says x found.ban found.passes) both.0
  where
    by_words : (y : Issued) → IsIn y own → IsIn y (since p.place own) → x.number ≤ y.number → (y.number ≡ x.number) ⊎ (is_equal y.ban x.ban ≡ true) → IsIn x bans → IsIn x (since p.place own) ⊎ (is_completed (since p.place own) x ≡ true)
    by_words y kept late order (inl number) there = inl (subst (λ (z : Issued). IsIn z (since p.place own)) (own_number bound y x bans falling (in_part y own bans part kept) there number) late)
    by_words y kept late order (inr e) there = inr (completes x y (since p.place own) late order e)

pub thinned_since : (bound : ℕ) (own bans : List Issued) (p : Placed) → IsPartOf own bans → AreFalling bound bans → Agrees own bans p → IsThinned (since p.place own) (since p.place bans)
thinned_since bound own bans p part falling agrees =
    record {
      part = part_of_filters (is_since p.place) own bans part;
      covers = all_in (λ x. IsIn x (since p.place own) ⊎ (is_completed (since p.place own) x ≡ true)) (since p.place bans) (λ x among. one_covered bound own bans p x part falling agrees among);
    }

pub held_alike : (bound : ℕ) (own bans : List Issued) (objects : List Placed) → IsPartOf own bans → AreFalling bound bans → AllByRecursion (Agrees own bans) objects → AreHeldAlike (map (held_of own) objects) (map (held_of bans) objects)
held_alike bound own bans [] part falling all = tt
held_alike bound own bans (p ∷ objects) part falling all = (record { rest = refl; pending = thinned_since bound own bans p part falling all.0 }, held_alike bound own bans objects part falling all.1)
