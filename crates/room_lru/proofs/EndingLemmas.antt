-- A member with another end.
use Rattle.std.proofs.Common.{◌≡◌, ◌≢◌, ℕ, ℤ, Bool, true, false, ◌||◌, cond, List, [], ◌∷◌, None, Some, refl, sym, ◌∙◌, ap, subst, arith}
use Rattle.std.specs.Prelude.{nat_eq}
use Rattle.std.specs.Ordering.{nat_cmp, int_eq}
use Rattle.std.specs.List.{list_any}
use Rattle.std.specs.List.Sorted.{IsStrictlySortedBy}
use Rattle.std.specs.Cmp.{nat_cmp_total, eq_by_cmp_equiv}
use Rattle.std.specs.Map.{keys_of, lookup, remove_entry, set_value}
use Rattle.std.specs.BTreeMap as tree
use Rattle.std.specs.BTreeMap.{BTreeMap, is_at}
use Rattle.std.specs.BTreeSet.{BTreeSet, contains}
use Rattle.std.proofs.lemmas.Bool.{or_parts, or_from, and_left, false_from_ne_true}
use Rattle.std.proofs.lemmas.Bool.Decides.{Decides-int_eq}
use Rattle.std.proofs.lemmas.Map.Steps.{set_value_same}
use Rattle.std.proofs.lemmas.Map.{lookup-none}
use Rattle.std.proofs.lemmas.Map.Keys.{IsDistinct-from_sorted, sorted_tail}
use Rattle.std.proofs.lemmas.Map.Entries.{none_past_head, sum_by-set_value}
use Rattle.room_lru.specs.declared.member.Member.{Member}
use Rattle.room_lru.specs.Members.{Used, total_of, without, with_end}
use Rattle.room_lru.specs.Ends.{End, by_end, has_end, IsFree}
use Rattle.room_lru.specs.Kept.{IsIndexOf, AreApart, AreKept}
use Rattle.room_lru.proofs.MemberLemmas.{at_number, total_is, rest-without, gone_after}
use Rattle.room_lru.proofs.EndLemmas.{end_of, at_end, has_other, is_end, stands_less, free_less}

abbrev pub to_end : ℤ → Member → Member
to_end end member = record member { end = end }

-- ---- the list
none_step : (b : Bool) (used : ℕ) (end : ℤ) (m : Used) (ms : List Used) → nat_eq used m.0 ≡ b
    → (lookup (is_at (nat_cmp used)) ms ≡ None → with_end used end ms ≡ ms)
    → lookup (is_at (nat_cmp used)) (m ∷ ms) ≡ None → with_end used end (m ∷ ms) ≡ m ∷ ms
none_step true used end m ms e rest none = let found = rw (at_number used m.0, e) at none in cc
none_step false used end m ms e rest none = let behind = rw (at_number used m.0, e) at none in rw e (ap (λ es. m ∷ es) (rest behind))

pub with_end_none : (used : ℕ) (end : ℤ) (members : List Used) → lookup (is_at (nat_cmp used)) members ≡ None → with_end used end members ≡ members
with_end_none used end [] none = refl
with_end_none used end (m ∷ ms) none = none_step (nat_eq used m.0) used end m ms refl (with_end_none used end ms) none

set_step : (b : Bool) (used : ℕ) (end : ℤ) (member : Member) (m : Used) (ms : List Used) → nat_eq used m.0 ≡ b
    → (lookup (is_at (nat_cmp used)) ms ≡ Some member → set_value (is_at (nat_cmp used)) ms (to_end end member) ≡ with_end used end ms)
    → IsStrictlySortedBy nat_cmp (keys_of (m ∷ ms)) → lookup (is_at (nat_cmp used)) (m ∷ ms) ≡ Some member
    → set_value (is_at (nat_cmp used)) (m ∷ ms) (to_end end member) ≡ with_end used end (m ∷ ms)
set_step true used end member m ms e rest rising found =
    let laws = eq_by_cmp_equiv nat_cmp_total in
    let here : Some m.1 ≡ Some member = rw (at_number used m.0, e) at found in
    let same : m.1 ≡ member = cc in
    let past = none_past_head laws used m ms (IsDistinct-from_sorted nat_cmp (keys_of (m ∷ ms)) rising) (at_number used m.0 ∙ e) in
    let rest_is = with_end_none used end ms (lookup-none (is_at (nat_cmp used)) ms past) in
    rw (at_number used m.0, e, rest_is, same) refl
set_step false used end member m ms e rest rising found =
    let behind : lookup (is_at (nat_cmp used)) ms ≡ Some member = rw (at_number used m.0, e) at found in
    rw (at_number used m.0, e) (ap (λ es. m ∷ es) (rest behind))

pub set_is : (used : ℕ) (end : ℤ) (member : Member) (members : List Used) → IsStrictlySortedBy nat_cmp (keys_of members)
    → lookup (is_at (nat_cmp used)) members ≡ Some member → set_value (is_at (nat_cmp used)) members (to_end end member) ≡ with_end used end members
set_is used end member [] rising found = refl
set_is used end member (m ∷ ms) rising found =
    set_step (nat_eq used m.0) used end member m ms refl (set_is used end member ms (sorted_tail nat_cmp m.0 (keys_of ms) rising)) rising found

pub with_end_same : (used : ℕ) (member : Member) (members : List Used) → IsStrictlySortedBy nat_cmp (keys_of members)
    → lookup (is_at (nat_cmp used)) members ≡ Some member → with_end used member.end members ≡ members
with_end_same used member members rising found = sym (set_is used member.end member members rising found) ∙ set_value_same (is_at (nat_cmp used)) members member found

-- ---- the ends
stands_step : (b : Bool) (test : ℕ → Bool) (used : ℕ) (member changed : Member) (end : End) (m : Used) (ms : List Used) → test m.0 ≡ b
    → (lookup test ms ≡ Some member → list_any (has_end end) (set_value test ms changed) ≡ (has_end end (used, changed) || list_any (has_end end) (remove_entry test ms)))
    → lookup test (m ∷ ms) ≡ Some member
    → list_any (has_end end) (set_value test (m ∷ ms) changed) ≡ (has_end end (used, changed) || list_any (has_end end) (remove_entry test (m ∷ ms)))
stands_step true test used member changed end m ms e rest found = rw e refl
stands_step false test used member changed end m ms e rest found =
    rw e (ap (λ b. has_end end m || b) (rest (rw e at found)) ∙ swap (has_end end m) (has_end end (used, changed)) (list_any (has_end end) (remove_entry test ms))) where
      swap : (a b there : Bool) → (a || (b || there)) ≡ (b || (a || there))
      swap true true there = refl
      swap true false there = refl
      swap false b there = refl

pub stands_set : (test : ℕ → Bool) (used : ℕ) (member changed : Member) (end : End) (members : List Used) → lookup test members ≡ Some member
    → list_any (has_end end) (set_value test members changed) ≡ (has_end end (used, changed) || list_any (has_end end) (remove_entry test members))
stands_set test used member changed end [] found = cc
stands_set test used member changed end (m ∷ ms) found =
    stands_step (test m.0) test used member changed end m ms refl (stands_set test used member changed end ms) found

apart_step : (b : Bool) (test : ℕ → Bool) (used : ℕ) (member changed : Member) (m : Used) (ms : List Used) → test m.0 ≡ b
    → (lookup test ms ≡ Some member → IsFree (end_of (used, changed)) (remove_entry test ms) → AreApart (set_value test ms changed))
    → AreApart (m ∷ ms) → lookup test (m ∷ ms) ≡ Some member → IsFree (end_of (used, changed)) (remove_entry test (m ∷ ms))
    → AreApart (set_value test (m ∷ ms) changed)
apart_step true test used member changed m ms e rest apart found free =
    let behind : IsFree (end_of (used, changed)) ms = rw e at free in
    rw e (behind, apart.1)
apart_step false test used member changed m ms e rest apart found free =
    let behind : lookup test ms ≡ Some member = rw e at found in
    let both : IsFree (end_of (used, changed)) (m ∷ remove_entry test ms) = rw e at free in
    let parts = or_parts (has_end (end_of (used, changed)) m) (list_any (has_end (end_of (used, changed))) (remove_entry test ms)) both in
    rw e (
      stands_set test used member changed (end_of m) ms behind
          ∙ or_from (has_end (end_of m) (used, changed)) (list_any (has_end (end_of m)) (remove_entry test ms)) (has_other m (used, changed) ∙ parts.0)
          (free_less (has_end (end_of m)) test ms apart.0),
      rest behind parts.1,
    )

pub apart_set : (test : ℕ → Bool) (used : ℕ) (member changed : Member) (members : List Used) → AreApart members → lookup test members ≡ Some member
    → IsFree (end_of (used, changed)) (remove_entry test members) → AreApart (set_value test members changed)
apart_set test used member changed [] apart found free = cc
apart_set test used member changed (m ∷ ms) apart found free =
    apart_step (test m.0) test used member changed m ms refl (apart_set test used member changed ms apart.1) apart found free

left_for : (end : ℤ) (used : ℕ) (member : Member) (one : End) → member.end ≢ end → has_end one (used, member) ≡ true → has_end one (used, to_end end member) ≡ false
left_for end used member one moves has =
    let other : int_eq end member.end ≡ false = false_from_ne_true (int_eq end member.end) (λ same. moves (sym ((Decides-int_eq end member.end).0 same))) in
    subst (λ e. has_end e (used, to_end end member) ≡ false) (sym (is_end one (used, member) has))
    (and_left (int_eq end member.end) (nat_eq member.handle member.handle) other)

indexed_set : (test : ℕ → Bool) (used : ℕ) (end : ℤ) (member : Member) (members : List Used) (ends between less : BTreeSet End) → AreApart members
    → lookup test members ≡ Some member → member.end ≢ end → IsIndexOf members ends
    → ((one : End) → contains by_end between one ≡ cond (is_at (by_end (end, member.handle)) one) true (contains by_end ends one))
    → ((one : End) → contains by_end less one ≡ cond (is_at (by_end (member.end, member.handle)) one) false (contains by_end between one))
    → IsIndexOf (set_value test members (to_end end member)) less
indexed_set test used end member members ends between less apart found moves indexed adds removes one =
    removes one ∙ ap (λ b. cond (is_at (by_end (member.end, member.handle)) one) false b) (adds one)
    ∙ ap (λ b. cond b false (cond (is_at (by_end (end, member.handle)) one) true (contains by_end ends one))) (at_end (used, member) one)
    ∙ ap (λ b. cond (has_end one (used, member)) false (cond b true (contains by_end ends one))) (at_end (used, to_end end member) one)
    ∙ ap (λ b. cond (has_end one (used, member)) false (cond (has_end one (used, to_end end member)) true b)) (indexed one)
    ∙ moved (has_end one (used, member)) (has_end one (used, to_end end member)) (list_any (has_end one) members) (left_for end used member one moves)
    ∙ ap (λ b. has_end one (used, to_end end member) || b) (sym (stands_less test used member one members apart found))
    ∙ sym (stands_set test used member (to_end end member) one members found) where
      moved : (from to there : Bool) → (from ≡ true → to ≡ false) → cond from false (cond to true there) ≡ (to || cond from false there)
      moved true to there away = rw (away refl) refl
      moved false true there away = refl
      moved false false there away = refl

pub total_set : (test : ℕ → Bool) (end : ℤ) (member : Member) (members : List Used) → lookup test members ≡ Some member
    → total_of (set_value test members (to_end end member)) ≡ total_of members
total_set test end member members found =
    let old = total_is members in
    let new = total_is (set_value test members (to_end end member)) in
    let sum = sum_by-set_value (λ m. m.size) test members member (to_end end member) found in
    omega arith

-- ---- the map, the set and the sum
pub kept_same : (members new : BTreeMap ℕ Member) (ends same : BTreeSet End) (total : ℕ) → AreKept members ends total
    → tree.IsOrdered nat_cmp new → new.entries ≡ members.entries → same.keys ≡ ends.keys → AreKept new same total
kept_same members new ends same total kept ordered is ends_are = record {
  ordered = ordered;
  indexed = subst (λ es. IsIndexOf es same) (sym is) (λ one. ap (λ keys. list_any (is_at (by_end one)) keys) ends_are ∙ kept.indexed one);
  apart = subst (λ es. AreApart es) (sym is) kept.apart;
  summed = kept.summed ∙ ap total_of (sym is);
}

pub kept_ending : (members new : BTreeMap ℕ Member) (ends between less : BTreeSet End) (total used : ℕ) (end : ℤ) (member : Member) → AreKept members ends total
    → lookup (is_at (nat_cmp used)) members.entries ≡ Some member → IsFree (end, member.handle) (without used members.entries) → member.end ≢ end
    → tree.IsOrdered nat_cmp new → new.entries ≡ set_value (is_at (nat_cmp used)) members.entries (to_end end member)
    → ((one : End) → contains by_end between one ≡ cond (is_at (by_end (end, member.handle)) one) true (contains by_end ends one))
    → ((one : End) → contains by_end less one ≡ cond (is_at (by_end (member.end, member.handle)) one) false (contains by_end between one))
    → AreKept new less total
kept_ending members new ends between less total used end member kept found free moves ordered is adds removes =
    let test = is_at (nat_cmp used) in
    let others = sym (rest-without used members.entries (gone_after used members.entries kept.ordered)) in
    record {
      ordered = ordered;
      indexed = subst (λ es. IsIndexOf es less) (sym is) (indexed_set test used end member members.entries ends between less kept.apart found moves kept.indexed adds removes);
      apart = subst (λ es. AreApart es) (sym is)
          (apart_set test used member (to_end end member) members.entries kept.apart found (subst (λ es. IsFree (end, member.handle) es) others free));
      summed = kept.summed ∙ sym (total_set test end member members.entries found) ∙ ap total_of (sym is);
    }
