-- Several members with other ends.
use Rattle.std.proofs.Common.{◌≡◌, ℕ, ℤ, Bool, true, false, not, ◌||◌, ◌&&◌, cond, List, [], ◌∷◌, ◌++◌, None, Some, take, drop, refl, sym, ◌∙◌, ap, subst}
use Rattle.std.specs.Prelude.{nat_eq}
use Rattle.std.specs.Ordering.{int_eq, nat_cmp}
use Rattle.std.specs.List.{list_any, AllByRecursion}
use Rattle.std.specs.List.Sorted.{IsStrictlySortedBy}
use Rattle.std.specs.Map.{keys_of, lookup, remove_entry, set_value}
use Rattle.std.specs.Cmp.{nat_cmp_total, eq_by_cmp_equiv}
use Rattle.std.specs.BTreeMap as tree
use Rattle.std.specs.BTreeMap.{BTreeMap, is_at}
use Rattle.std.specs.BTreeSet.{BTreeSet, contains}
use Rattle.std.proofs.lemmas.Bool.{false≢true, eqb-true, or_from, or_left}
use Rattle.std.proofs.lemmas.List.{take-append-drop}
use Rattle.std.proofs.lemmas.List.Folds.{list_any-append}
use Rattle.std.proofs.lemmas.Map.{lookup-none}
use Rattle.std.proofs.lemmas.Map.Keys.{IsDistinct-from_sorted, sorted_tail}
use Rattle.std.proofs.lemmas.Map.Entries.{none_past_head}
use Rattle.room_lru.specs.declared.member.Member.{Member}
use Rattle.room_lru.specs.declared.ending.Ending.{Ending}
use Rattle.room_lru.specs.Members.{Used, ending, total_of, with_end}
use Rattle.room_lru.specs.Ends.{End, by_end, has_end, is_end_at, IsFree}
use Rattle.room_lru.specs.Endings.{AreEndings, AreTwo, IsEnding, ends_new, ends_old, is_of, with_ends}
use Rattle.room_lru.specs.Kept.{IsIndexOf, AreApart, AreKept}
use Rattle.room_lru.proofs.MemberLemmas.{at_number, lookup-number}
use Rattle.room_lru.proofs.EndLemmas.{at_end, end_of, is_end, not_found, stands_less, free_less}
use Rattle.room_lru.proofs.EndingLemmas.{to_end, set_is, stands_set, apart_set, total_set}

-- ---- one more of a list
pub with_ends_push : (endings : List Ending) (last : Ending) (members : List Used) → with_ends (endings ++ last ∷ []) members ≡ with_end last.used last.new_end (with_ends endings members)
with_ends_push [] last members = refl
with_ends_push (e ∷ es) last members = with_ends_push es last (with_end e.used e.new_end members)

-- ---- what one other end leaves as it was
same_key : (b : Bool) (end : ℤ) (m : Used) → (cond b (m.0, record m.1 { end = end }) m).0 ≡ m.0
same_key true end m = refl
same_key false end m = refl

pub keys-with_end : (used : ℕ) (end : ℤ) (members : List Used) → keys_of (with_end used end members) ≡ keys_of members
keys-with_end used end [] = refl
keys-with_end used end (m ∷ ms) = rw (same_key (nat_eq used m.0) end m) (ap (λ (ks : List ℕ). m.0 ∷ ks) (keys-with_end used end ms))

rises : (used : ℕ) (end : ℤ) (members : List Used) → IsStrictlySortedBy nat_cmp (keys_of members) → IsStrictlySortedBy nat_cmp (keys_of (with_end used end members))
rises used end members rising = subst (IsStrictlySortedBy nat_cmp) (sym (keys-with_end used end members)) rising

same_place : (used : ℕ) (end : ℤ) (other : Ending) (m : Used) (b d : Bool) → nat_eq used m.0 ≡ b → nat_eq other.used m.0 ≡ d → nat_eq used other.used ≡ false → is_of other (ending used end m) ≡ is_of other m
same_place used end other m true true e f apart =
    let one : used ≡ m.0 = eqb-true used m.0 e in
    let two : other.used ≡ m.0 = eqb-true other.used m.0 f in
    absurd (false≢true (sym apart ∙ ap (λ (n : ℕ). nat_eq used n) two ∙ e))
same_place used end other m true false e f apart = rw (e, f) refl
same_place used end other m false d e f apart = rw e refl

-- what is of another member stays of it
of_other : (used : ℕ) (end : ℤ) (other : Ending) (members : List Used) → nat_eq used other.used ≡ false → list_any (is_of other) (with_end used end members) ≡ list_any (is_of other) members
of_other used end other [] apart = refl
of_other used end other (m ∷ ms) apart =
    rw (same_place used end other m (nat_eq used m.0) (nat_eq other.used m.0) refl refl apart) (ap (λ (b : Bool). is_of other m || b) (of_other used end other ms apart))

-- ---- the member that an ending is of
record IsHere (members : List Used) (ending : Ending) : Type 0 where
  member : Member
  found : lookup (nat_eq ending.used) members ≡ Some member
  has : has_end (ending.end, ending.handle) (ending.used, member) ≡ true

alone : (used : ℕ) (m : Used) (ms : List Used) → IsStrictlySortedBy nat_cmp (keys_of (m ∷ ms)) → nat_eq used m.0 ≡ true → lookup (is_at (nat_cmp used)) ms ≡ None
alone used m ms rising e =
    lookup-none (is_at (nat_cmp used)) ms (none_past_head (eq_by_cmp_equiv nat_cmp_total) used m ms (IsDistinct-from_sorted nat_cmp (keys_of (m ∷ ms)) rising) (at_number used m.0 ∙ e))

none_step : (b : Bool) (ending : Ending) (m : Used) (ms : List Used) → nat_eq ending.used m.0 ≡ b → (lookup (nat_eq ending.used) ms ≡ None → list_any (is_of ending) ms ≡ false)
    → lookup (nat_eq ending.used) (m ∷ ms) ≡ None → list_any (is_of ending) (m ∷ ms) ≡ false
none_step true ending m ms e rest none = let found = rw e at none in cc
none_step false ending m ms e rest none = rw e (rest (rw e at none))

none_of : (ending : Ending) (members : List Used) → lookup (nat_eq ending.used) members ≡ None → list_any (is_of ending) members ≡ false
none_of ending [] none = refl
none_of ending (m ∷ ms) none = none_step (nat_eq ending.used m.0) ending m ms refl (none_of ending ms) none

first_so : (a b : Bool) → b ≡ false → (a || b) ≡ true → a ≡ true
first_so true b f is_ = refl
first_so false b f is_ = sym f ∙ is_

here_step : (b : Bool) (ending : Ending) (m : Used) (ms : List Used) → nat_eq ending.used m.0 ≡ b → IsStrictlySortedBy nat_cmp (keys_of (m ∷ ms))
    → (list_any (is_of ending) ms ≡ true → IsHere ms ending) → list_any (is_of ending) (m ∷ ms) ≡ true → IsHere (m ∷ ms) ending
here_step true ending m ms e rising rest there =
    let past = none_of ending ms (sym (lookup-number ending.used ms) ∙ alone ending.used m ms rising e) in
    let both : (has_end (ending.end, ending.handle) m || list_any (is_of ending) ms) ≡ true = rw e at there in
    record { member = m.1; found = rw e refl; has = first_so (has_end (ending.end, ending.handle) m) (list_any (is_of ending) ms) past both }
here_step false ending m ms e rising rest there =
    let later : IsHere ms ending = rest (rw e at there) in
    record { member = later.member; found = rw e later.found; has = later.has }

here : (ending : Ending) (members : List Used) → IsStrictlySortedBy nat_cmp (keys_of members) → list_any (is_of ending) members ≡ true → IsHere members ending
here ending [] rising there = absurd (false≢true there)
here ending (m ∷ ms) rising there = here_step (nat_eq ending.used m.0) ending m ms refl rising (here ending ms (sorted_tail nat_cmp m.0 (keys_of ms) rising)) there

-- ---- the ends behind one other end
module _ (ending : Ending) (members : List Used) (rising : IsStrictlySortedBy nat_cmp (keys_of members)) (apart : AreApart members) (is_ : IsEnding members ending) where
  it : IsHere members ending
  it = here ending members rising is_.there

  -- its end and its handle are the member's
  own_end : (ending.end, ending.handle) ≡ end_of (ending.used, it.member)
  own_end = is_end (ending.end, ending.handle) (ending.used, it.member) it.has

  found_so : lookup (is_at (nat_cmp ending.used)) members ≡ Some it.member
  found_so = lookup-number ending.used members ∙ it.found

  set_so : set_value (is_at (nat_cmp ending.used)) members (to_end ending.new_end it.member) ≡ with_end ending.used ending.new_end members
  set_so = set_is ending.used ending.new_end it.member members rising found_so

  same_handle : ending.handle ≡ it.member.handle
  same_handle = ap (λ (e : End). e.1) own_end

  old_so : (one : End) → has_end one (ending.used, it.member) ≡ ends_old one ending
  old_so one = ap (λ (e : End). is_end_at e.0 e.1 one) (sym own_end)

  new_so : (one : End) → has_end one (ending.used, to_end ending.new_end it.member) ≡ ends_new one ending
  new_so one = ap (λ (handle : ℕ). is_end_at ending.new_end handle one) (sym same_handle)

  any_after : (one : End) → list_any (has_end one) (with_end ending.used ending.new_end members) ≡ (ends_new one ending || cond (ends_old one ending) false (list_any (has_end one) members))
  any_after one =
      ap (list_any (has_end one)) (sym set_so)
      ∙ stands_set (is_at (nat_cmp ending.used)) ending.used it.member (to_end ending.new_end it.member) one members found_so
      ∙ ap (λ (b : Bool). b || list_any (has_end one) (remove_entry (is_at (nat_cmp ending.used)) members)) (new_so one)
      ∙ ap (λ (b : Bool). ends_new one ending || b) (stands_less (is_at (nat_cmp ending.used)) ending.used it.member one members apart found_so)
      ∙ ap (λ (b : Bool). ends_new one ending || cond b false (list_any (has_end one) members)) (old_so one)

  apart_after : AreApart (with_end ending.used ending.new_end members)
  apart_after =
      subst AreApart set_so
      (apart_set (is_at (nat_cmp ending.used)) ending.used it.member (to_end ending.new_end it.member) members apart found_so
      (free_less (has_end (ending.new_end, it.member.handle)) (is_at (nat_cmp ending.used)) members
      (subst (λ (handle : ℕ). list_any (has_end (ending.new_end, handle)) members ≡ false) same_handle is_.free)))

  total_after : total_of (with_end ending.used ending.new_end members) ≡ total_of members
  total_after = ap total_of (sym set_so) ∙ total_set (is_at (nat_cmp ending.used)) ending.new_end it.member members found_so

  old_there : (one : End) (b : Bool) → ends_old one ending ≡ true → list_any (has_end one) members ≡ b → list_any (has_end one) members ≡ true
  old_there one true has e = e
  old_there one false has e =
      absurd (false≢true (sym (not_found (λ (m : Member). has_end one (ending.used, m)) (is_at (nat_cmp ending.used)) it.member members found_so e) ∙ old_so one ∙ has))

  and_false : (a : Bool) → (a && false) ≡ false
  and_false true = refl
  and_false false = refl

  cond_false : (a b : Bool) → b ≡ false → cond a false b ≡ false
  cond_false true b e = refl
  cond_false false b e = e

  -- another one's other end stays free
  ending_after : (other : Ending) → AreTwo ending other → IsEnding members other → IsEnding (with_end ending.used ending.new_end members) other
  ending_after other two is_other =
      let one : End = (other.new_end, other.handle) in
      let not_new : ends_new one ending ≡ false = ap (λ (b : Bool). int_eq ending.new_end other.new_end && b) two.handles ∙ and_false (int_eq ending.new_end other.new_end) in
      record {
        there = of_other ending.used ending.new_end other members two.uses ∙ is_other.there;
        free = any_after one
            ∙ or_from (ends_new one ending) (cond (ends_old one ending) false (list_any (has_end one) members)) not_new
            (cond_false (ends_old one ending) (list_any (has_end one) members) is_other.free);
      }

  endings_after : (endings : List Ending) → AllByRecursion (AreTwo ending) endings → AreEndings members endings → AreEndings (with_end ending.used ending.new_end members) endings
  endings_after [] two are = tt
  endings_after (other ∷ others) two are = (ending_after other two.0 are.0, are.1, endings_after others two.1 are.2)

-- ---- which ends are there
not_new : (one : End) (members : List Used) (ending : Ending) (b : Bool) → IsEnding members ending → list_any (has_end one) members ≡ true → ends_new one ending ≡ b → ends_new one ending ≡ false
not_new one members ending true is_ there e =
    absurd
    (false≢true (sym (subst (λ (o : End). list_any (has_end o) members ≡ false) (sym (is_end one (ending.used, record { handle = ending.handle; size = 0; end = ending.new_end }) e)) is_.free) ∙ there))
not_new one members ending false is_ there e = e

-- an end that one of the members has is none that one is to have
pub none_new : (one : End) (members : List Used) (endings : List Ending) → AreEndings members endings → list_any (has_end one) members ≡ true → list_any (ends_new one) endings ≡ false
none_new one members [] are there = refl
none_new one members (e ∷ es) are there =
    or_from (ends_new one e) (list_any (ends_new one) es) (not_new one members e (ends_new one e) are.0 there refl) (none_new one members es are.2 there)

new_free : (one : End) (members : List Used) (endings : List Ending) (b : Bool) → AreEndings members endings → list_any (ends_new one) endings ≡ true → list_any (has_end one) members ≡ b → list_any (has_end one) members ≡ false
new_free one members endings true are new e = absurd (false≢true (sym (none_new one members endings are e) ∙ new))
new_free one members endings false are new e = e

moved_so : (old new others there olds : Bool) → (old ≡ true → there ≡ true) → (there ≡ true → (new || others) ≡ false)
    → (((new || others) || there) && not (old || olds)) ≡ ((others || (new || cond old false there)) && not olds)
moved_so true new others false olds yes_ no_ = absurd (false≢true (yes_ refl))
moved_so true true others true olds yes_ no_ = absurd (false≢true (sym (no_ refl)))
moved_so true false true true olds yes_ no_ = absurd (false≢true (sym (no_ refl)))
moved_so true false false true olds yes_ no_ = refl
moved_so false true true there olds yes_ no_ = refl
moved_so false true false there olds yes_ no_ = refl
moved_so false false true there olds yes_ no_ = refl
moved_so false false false there olds yes_ no_ = refl

and_true : (a : Bool) → (a && true) ≡ a
and_true true = refl
and_true false = refl

-- where the ends are put in that the members are to have, and those are taken out that they have, each is the end of a member
any_behind : (endings : List Ending) (members : List Used) (one : End) → IsStrictlySortedBy nat_cmp (keys_of members) → AreApart members → AreEndings members endings
    → ((list_any (ends_new one) endings || list_any (has_end one) members) && not (list_any (ends_old one) endings)) ≡ list_any (has_end one) (with_ends endings members)
any_behind [] members one rising apart are = and_true (list_any (has_end one) members)
any_behind (e ∷ es) members one rising apart are =
    moved_so (ends_old one e) (ends_new one e) (list_any (ends_new one) es) (list_any (has_end one) members) (list_any (ends_old one) es)
    (λ has. old_there e members rising apart are.0 one (list_any (has_end one) members) has refl) (none_new one members (e ∷ es) are)
    ∙ ap (λ (b : Bool). (list_any (ends_new one) es || b) && not (list_any (ends_old one) es)) (sym (any_after e members rising apart are.0 one))
    ∙ any_behind es (with_end e.used e.new_end members) one (rises e.used e.new_end members rising) (apart_after e members rising apart are.0)
    (endings_after e members rising apart are.0 es are.1 are.2)

apart_behind : (endings : List Ending) (members : List Used) → IsStrictlySortedBy nat_cmp (keys_of members) → AreApart members → AreEndings members endings → AreApart (with_ends endings members)
apart_behind [] members rising apart are = apart
apart_behind (e ∷ es) members rising apart are =
    apart_behind es (with_end e.used e.new_end members) (rises e.used e.new_end members rising) (apart_after e members rising apart are.0) (endings_after e members rising apart are.0 es are.1 are.2)

total_behind : (endings : List Ending) (members : List Used) → IsStrictlySortedBy nat_cmp (keys_of members) → AreApart members → AreEndings members endings → total_of (with_ends endings members) ≡ total_of members
total_behind [] members rising apart are = refl
total_behind (e ∷ es) members rising apart are =
    total_behind es (with_end e.used e.new_end members) (rises e.used e.new_end members rising) (apart_after e members rising apart are.0) (endings_after e members rising apart are.0 es are.1 are.2)
    ∙ total_after e members rising apart are.0

-- ---- the map, the set and the sum
module _ (members : BTreeMap ℕ Member) (ends : BTreeSet End) (total : ℕ) (endings : List Ending) (kept : AreKept members ends total) (are : AreEndings members.entries endings) where
  pub none_there : (one : End) → list_any (ends_new one) endings ≡ true → contains by_end ends one ≡ false
  none_there one new = kept.indexed one ∙ new_free one members.entries endings (list_any (has_end one) members.entries) are new refl

  pub kept_behind : (new : BTreeMap ℕ Member) (between less : BTreeSet End) → tree.IsOrdered nat_cmp new → new.entries ≡ with_ends endings members.entries
      → ((one : End) → contains by_end between one ≡ (list_any (ends_new one) endings || contains by_end ends one))
      → ((one : End) → contains by_end less one ≡ (contains by_end between one && not (list_any (ends_old one) endings)))
      → AreKept new less total
  kept_behind new between less ordered is adds removes = record {
    ordered = ordered;
    indexed = λ one.
        removes one ∙ ap (λ (b : Bool). b && not (list_any (ends_old one) endings)) (adds one ∙ ap (λ (b : Bool). list_any (ends_new one) endings || b) (kept.indexed one))
        ∙ any_behind endings members.entries one kept.ordered kept.apart are
        ∙ ap (list_any (has_end one)) (sym is);
    apart = subst AreApart (sym is) (apart_behind endings members.entries kept.ordered kept.apart are);
    summed = kept.summed ∙ sym (total_behind endings members.entries kept.ordered kept.apart are) ∙ ap total_of (sym is);
  }

-- another set of the same ends is kept as well
pub kept_alike : (members : BTreeMap ℕ Member) (ends same : BTreeSet End) (total : ℕ) → AreKept members ends total → ((one : End) → contains by_end same one ≡ contains by_end ends one) → AreKept members same total
kept_alike members ends same total kept alike = record { ordered = kept.ordered; indexed = λ one. alike one ∙ kept.indexed one; apart = kept.apart; summed = kept.summed }

-- ---- the set, end by end
pub back_so : (new old : Bool) → (new ≡ true → old ≡ false) → ((new || old) && not new) ≡ old
back_so true old free = sym (free refl)
back_so false old free = and_true old

pub one_more_out : (there outs out : Bool) → ((there && not outs) && not out) ≡ (there && not (outs || out))
one_more_out true true out = refl
one_more_out true false out = refl
one_more_out false outs out = refl

pub one_more_in : (in_ ins there : Bool) → (in_ || (ins || there)) ≡ ((ins || in_) || there)
one_more_in true true there = refl
one_more_in true false there = refl
one_more_in false true there = refl
one_more_in false false there = refl

or_so : (is_ there : Bool) → cond is_ true there ≡ (is_ || there)
or_so true there = refl
or_so false there = refl

and_so : (is_ there : Bool) → cond is_ false there ≡ (there && not is_)
and_so true true = refl
and_so true false = refl
and_so false there = sym (and_true there)

pub put_in : (end : ℤ) (handle : ℕ) (one : End) (there : Bool) → cond (is_at (by_end (end, handle)) one) true there ≡ (is_end_at end handle one || there)
put_in end handle one there = ap (λ (b : Bool). cond b true there) (at_end (0, record { handle = handle; size = 0; end = end }) one) ∙ or_so (is_end_at end handle one) there

pub taken_out : (end : ℤ) (handle : ℕ) (one : End) (there : Bool) → cond (is_at (by_end (end, handle)) one) false there ≡ (there && not (is_end_at end handle one))
taken_out end handle one there = ap (λ (b : Bool). cond b false there) (at_end (0, record { handle = handle; size = 0; end = end }) one) ∙ and_so (is_end_at end handle one) there

pub taken_there : (test : Ending → Bool) (i : ℕ) (endings : List Ending) → list_any test (take i endings) ≡ true → list_any test endings ≡ true
taken_there test i endings there =
    ap (list_any test) (sym (take-append-drop i endings)) ∙ list_any-append test (take i endings) (drop i endings) ∙ or_left (list_any test (take i endings)) (list_any test (drop i endings)) there
