-- A member that is used again, and comes last with the later use.
use Rattle.std.proofs.Common.{◌≡◌, ℕ, Bool, true, false, not, ◌||◌, cond, List, [], ◌∷◌, ◌++◌, None, Some, refl, sym, ◌∙◌, ap, subst, arith, append-nil}
use Rattle.std.specs.Prelude.{nat_eq}
use Rattle.std.specs.Ordering.{nat_cmp}
use Rattle.std.specs.List.{list_any}
use Rattle.std.specs.Map.{lookup, remove_entry}
use Rattle.std.specs.BTreeMap as tree
use Rattle.std.specs.BTreeMap.{BTreeMap, is_at}
use Rattle.std.specs.BTreeSet.{BTreeSet}
use Rattle.std.proofs.lemmas.Bool.{ne_eqb}
use Rattle.std.proofs.lemmas.List.Elements.{filter-append}
use Rattle.std.proofs.lemmas.List.Folds.{list_any-append}
use Rattle.room_lru.specs.declared.member.Member.{Member}
use Rattle.room_lru.specs.Members.{Used, total_of, without, at_use, used_again, IsLatest}
use Rattle.room_lru.specs.Ends.{End, has_end}
use Rattle.room_lru.specs.Kept.{IsIndexOf, AreApart, AreKept}
use Rattle.room_lru.proofs.MemberLemmas.{lookup-number, kept_where_none, rest-without, latest_below, total_more, total_less}
use Rattle.room_lru.proofs.EndLemmas.{end_of, apart_more}

found_step : (b : Bool) (test : ℕ → Bool) (member : Member) (m : Used) (ms more : List Used) → test m.0 ≡ b
    → (lookup test ms ≡ Some member → lookup test (ms ++ more) ≡ Some member)
    → lookup test (m ∷ ms) ≡ Some member → lookup test ((m ∷ ms) ++ more) ≡ Some member
found_step true test member m ms more e rest found = rw e (rw e at found)
found_step false test member m ms more e rest found = rw e (rest (rw e at found))

found_before : (test : ℕ → Bool) (member : Member) (members more : List Used) → lookup test members ≡ Some member → lookup test (members ++ more) ≡ Some member
found_before test member [] more found = cc
found_before test member (m ∷ ms) more found = found_step (test m.0) test member m ms more refl (found_before test member ms more) found

last_first : (a b : Bool) → (a || (b || false)) ≡ (b || a)
last_first true true = refl
last_first true false = refl
last_first false true = refl
last_first false false = refl

stands_step : (b : Bool) (test : ℕ → Bool) (later : ℕ) (member : Member) (end : End) (m : Used) (ms : List Used) → test m.0 ≡ b
    → (lookup test ms ≡ Some member → list_any (has_end end) (remove_entry test (ms ++ (later, member) ∷ [])) ≡ list_any (has_end end) ms)
    → lookup test (m ∷ ms) ≡ Some member
    → list_any (has_end end) (remove_entry test ((m ∷ ms) ++ (later, member) ∷ [])) ≡ list_any (has_end end) (m ∷ ms)
stands_step true test later member end m ms e rest found =
    let here : Some m.1 ≡ Some member = rw e at found in
    let same : m.1 ≡ member = cc in
    rw e (subst (λ x. list_any (has_end end) (ms ++ (later, x) ∷ []) ≡ list_any (has_end end) (m ∷ ms)) same
    (list_any-append (has_end end) ms ((later, m.1) ∷ []) ∙ last_first (list_any (has_end end) ms) (has_end end m)))
stands_step false test later member end m ms e rest found = rw e (ap (λ b. has_end end m || b) (rest (rw e at found)))

stands_again : (test : ℕ → Bool) (later : ℕ) (member : Member) (end : End) (members : List Used) → lookup test members ≡ Some member
    → list_any (has_end end) (remove_entry test (members ++ (later, member) ∷ [])) ≡ list_any (has_end end) members
stands_again test later member end [] found = cc
stands_again test later member end (m ∷ ms) found = stands_step (test m.0) test later member end m ms refl (stands_again test later member end ms) found

apart_step : (b : Bool) (test : ℕ → Bool) (later : ℕ) (member : Member) (m : Used) (ms : List Used) → test m.0 ≡ b
    → (lookup test ms ≡ Some member → AreApart (remove_entry test (ms ++ (later, member) ∷ []))) → AreApart (m ∷ ms)
    → lookup test (m ∷ ms) ≡ Some member → AreApart (remove_entry test ((m ∷ ms) ++ (later, member) ∷ []))
apart_step true test later member m ms e rest apart found =
    let here : Some m.1 ≡ Some member = rw e at found in
    let same : m.1 ≡ member = cc in
    rw e (subst (λ x. AreApart (ms ++ (later, x) ∷ [])) same (apart_more ms (later, m.1) apart.1 apart.0))
apart_step false test later member m ms e rest apart found =
    let behind : lookup test ms ≡ Some member = rw e at found in
    rw e (stands_again test later member (end_of m) ms behind ∙ apart.0, rest behind)

apart_again : (test : ℕ → Bool) (later : ℕ) (member : Member) (members : List Used) → AreApart members → lookup test members ≡ Some member
    → AreApart (remove_entry test (members ++ (later, member) ∷ []))
apart_again test later member [] apart found = cc
apart_again test later member (m ∷ ms) apart found = apart_step (test m.0) test later member m ms refl (apart_again test later member ms apart.1) apart found

total_again : (test : ℕ → Bool) (later : ℕ) (member : Member) (members : List Used) → lookup test members ≡ Some member
    → total_of (remove_entry test (members ++ (later, member) ∷ [])) ≡ total_of members
total_again test later member members found =
    let less = total_less test member (members ++ (later, member) ∷ []) (found_before test member members ((later, member) ∷ []) found) in
    let more = total_more later member members in
    omega arith

pub kept_again : (members new : BTreeMap ℕ Member) (ends : BTreeSet End) (total used later : ℕ) (member : Member) → AreKept members ends total
    → lookup (is_at (nat_cmp used)) members.entries ≡ Some member → tree.IsOrdered nat_cmp new
    → new.entries ≡ remove_entry (is_at (nat_cmp used)) (members.entries ++ (later, member) ∷ [])
    → AreKept new ends total
kept_again members new ends total used later member kept found ordered is = record {
  ordered = ordered;
  indexed = subst (λ es. IsIndexOf es ends) (sym is) (λ end. kept.indexed end ∙ sym (stands_again (is_at (nat_cmp used)) later member end members.entries found));
  apart = subst (λ es. AreApart es) (sym is) (apart_again (is_at (nat_cmp used)) later member members.entries kept.apart found);
  summed = kept.summed ∙ sym (total_again (is_at (nat_cmp used)) later member members.entries found) ∙ ap total_of (sym is);
}

pub used_again_is : (used later : ℕ) (member : Member) (members : List Used) → IsLatest later members
    → lookup (is_at (nat_cmp used)) members ≡ Some member
    → lookup (is_at (nat_cmp used)) (remove_entry (is_at (nat_cmp used)) (members ++ (later, member) ∷ [])) ≡ None
    → remove_entry (is_at (nat_cmp used)) (members ++ (later, member) ∷ []) ≡ used_again used later members
used_again_is used later member members latest found gone =
    let below = latest_below later used member members latest found in
    let other : nat_eq used later ≡ false = ne_eqb used later (λ same. omega arith) in
    rest-without used (members ++ (later, member) ∷ []) gone
    ∙ filter-append (λ m. not (nat_eq used m.0)) members ((later, member) ∷ [])
    ∙ ap (λ b. without used members ++ cond (not b) ((later, member) ∷ []) []) other
    ∙ ap (λ o. without used members ++ at_use later o) (sym found ∙ lookup-number used members)

pub used_again_none : (used later : ℕ) (members : List Used) → lookup (is_at (nat_cmp used)) members ≡ None → used_again used later members ≡ members
used_again_none used later members none =
    ap (λ o. without used members ++ at_use later o) (sym (lookup-number used members) ∙ none)
    ∙ ap (λ ms. ms ++ []) (kept_where_none used members none) ∙ append-nil members
