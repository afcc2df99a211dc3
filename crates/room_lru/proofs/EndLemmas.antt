-- Members by their ends, as the set of ends has them.
use Rattle.std.proofs.Common.{◌≡◌, ◌<ℤ◌, ◌≤ℤ◌, ℕ, pos, Bool, true, false, ◌&&◌, ◌||◌, cond, List, [], ◌∷◌, ◌++◌, length, Some, refl, sym, ◌∙◌, ap, subst, arith, IsTrue, ◌<◌}
use Rattle.std.specs.Prelude.{nat_eq}
use Rattle.std.specs.declared.cmp.Ordering.{Ordering}
use Rattle.std.specs.declared.cmp.Ordering.TheVariants.{Less, Equal, Greater}
use Rattle.std.specs.Ordering.{is_eq, is_gt, nat_cmp, int_cmp, int_eq, ordering_then}
use Rattle.std.specs.List.{list_any, AllByRecursion}
use Rattle.std.specs.Map.{lookup, remove_entry}
use Rattle.std.specs.BTreeMap.{is_at}
use Rattle.std.specs.BTreeSet.{BTreeSet, contains}
use Rattle.std.specs.Cmp.{int_eq_equiv, nat_eq_equiv, tied_then}
use Rattle.std.proofs.lemmas.Bool.{and_parts, or_parts, or_from, or_left, or_right, eqb-true}
use Rattle.std.proofs.lemmas.Bool.Decides.{Decides-int_eq}
use Rattle.std.proofs.lemmas.Int.{ints}
use Rattle.std.proofs.lemmas.List.Folds.{list_any-append}
use Rattle.room_lru.specs.declared.member.Member.{Member}
use Rattle.room_lru.specs.Members.{Used, without}
use Rattle.room_lru.specs.Ends.{End, by_end, has_end, IsFree, EndsFirst}
use Rattle.room_lru.specs.Kept.{IsIndexOf, AreApart}
use Rattle.room_lru.proofs.MemberLemmas.{at_number}

abbrev pub end_of : Used → End
end_of member = (member.1.end, member.1.handle)

-- ---- tests
pub at_end : (member : Used) (end : End) → is_eq (by_end (end_of member) end) ≡ has_end end member
at_end member end =
    sym (tied_then (int_cmp member.1.end end.0) (nat_cmp member.1.handle end.1)) ∙ ap (λ b. int_eq member.1.end end.0 && b) (at_number member.1.handle end.1)

pub has_own : (member : Used) → has_end (end_of member) member ≡ true
has_own member = rw (int_eq_equiv.refl member.1.end, nat_eq_equiv.refl member.1.handle) refl

pub has_other : (one other : Used) → has_end (end_of one) other ≡ has_end (end_of other) one
has_other one other = rw (int_eq_equiv.symm other.1.end one.1.end, nat_eq_equiv.symm other.1.handle one.1.handle) refl

pub is_end : (end : End) (member : Used) → has_end end member ≡ true → end ≡ end_of member
is_end end member has =
    let parts = and_parts (int_eq member.1.end end.0) (nat_eq member.1.handle end.1) has in
    let first : member.1.end ≡ end.0 = (Decides-int_eq member.1.end end.0).0 parts.0 in
    let second : member.1.handle ≡ end.1 = eqb-true member.1.handle end.1 parts.1 in
    λ i. (sym first i, sym second i)

-- ---- a set that has the ends of all members
pub indexed_more : (members : List Used) (more : Used) (old new : BTreeSet End) → IsIndexOf members old
    → ((end : End) → contains by_end new end ≡ cond (is_at (by_end (end_of more)) end) true (contains by_end old end))
    → IsIndexOf (members ++ more ∷ []) new
indexed_more members more old new indexed adds end =
    adds end ∙ ap (λ b. cond b true (contains by_end old end)) (at_end more end) ∙ ap (λ b. cond (has_end end more) true b) (indexed end)
    ∙ or_last (list_any (has_end end) members) (has_end end more) ∙ sym (list_any-append (has_end end) members (more ∷ [])) where
      or_last : (a b : Bool) → cond b true a ≡ (a || (b || false))
      or_last true true = refl
      or_last true false = refl
      or_last false true = refl
      or_last false false = refl

-- what is put where it isn't, and taken from there again
pub indexed_back : (members : List Used) (more : Used) (old between new : BTreeSet End) → IsIndexOf members old → IsFree (end_of more) members
    → ((end : End) → contains by_end between end ≡ cond (is_at (by_end (end_of more)) end) true (contains by_end old end))
    → ((end : End) → contains by_end new end ≡ cond (is_at (by_end (end_of more)) end) false (contains by_end between end))
    → IsIndexOf members new
indexed_back members more old between new indexed free adds removes end =
    removes end ∙ ap (λ b. cond (is_at (by_end (end_of more)) end) false b) (adds end)
    ∙ ap (λ b. cond b false (cond b true (contains by_end old end))) (at_end more end)
    ∙ ap (λ b. cond (has_end end more) false (cond (has_end end more) true b)) (indexed end)
    ∙ back (has_end end more) (list_any (has_end end) members) (λ e. subst (λ one. list_any (has_end one) members ≡ false) (sym (is_end end more e)) free) where
      back : (e there : Bool) → (e ≡ true → there ≡ false) → cond e false (cond e true there) ≡ there
      back true there free = sym (free refl)
      back false there free = refl

-- what a look-up finds is one of those that don't pass
not_found_step : (b : Bool) (p : Member → Bool) (test : ℕ → Bool) (member : Member) (m : Used) (ms : List Used) → test m.0 ≡ b
    → (lookup test ms ≡ Some member → p member ≡ false) → p m.1 ≡ false → lookup test (m ∷ ms) ≡ Some member → p member ≡ false
not_found_step true p test member m ms e rest none found =
    let here : Some m.1 ≡ Some member = rw e at found in
    let same : m.1 ≡ member = cc in
    subst (λ x. p x ≡ false) same none
not_found_step false p test member m ms e rest none found = rest (rw e at found)

pub not_found : (p : Member → Bool) (test : ℕ → Bool) (member : Member) (members : List Used) → lookup test members ≡ Some member
    → list_any (λ m. p m.1) members ≡ false → p member ≡ false
not_found p test member [] found none = cc
not_found p test member (m ∷ ms) found none =
    let parts = or_parts (p m.1) (list_any (λ x. p x.1) ms) none in
    not_found_step (test m.0) p test member m ms refl (λ behind. not_found p test member ms behind parts.1) parts.0 found

stands_step : (b : Bool) (test : ℕ → Bool) (used : ℕ) (member : Member) (end : End) (m : Used) (ms : List Used) → test m.0 ≡ b
    → (lookup test ms ≡ Some member → list_any (has_end end) (remove_entry test ms) ≡ cond (has_end end (used, member)) false (list_any (has_end end) ms))
    → IsFree (end_of m) ms → lookup test (m ∷ ms) ≡ Some member
    → list_any (has_end end) (remove_entry test (m ∷ ms)) ≡ cond (has_end end (used, member)) false (list_any (has_end end) (m ∷ ms))
stands_step true test used member end m ms e rest free found =
    let here : Some m.1 ≡ Some member = rw e at found in
    let same : m.1 ≡ member = cc in
    rw e (subst (λ x. list_any (has_end end) ms ≡ cond (has_end end (used, x)) false (list_any (has_end end) (m ∷ ms))) same
    (gone (has_end end m) (list_any (has_end end) ms) (λ h. subst (λ one. list_any (has_end one) ms ≡ false) (sym (is_end end m h)) free))) where
      gone : (has there : Bool) → (has ≡ true → there ≡ false) → there ≡ cond has false (has || there)
      gone true there none = none refl
      gone false there none = refl
stands_step false test used member end m ms e rest free found =
    let behind : lookup test ms ≡ Some member = rw e at found in
    rw (e, rest behind) (kept (has_end end m) (has_end end (used, member)) (list_any (has_end end) ms) (λ h. other h behind)) where
      kept : (has gone there : Bool) → (gone ≡ true → has ≡ false) → (has || cond gone false there) ≡ cond gone false (has || there)
      kept has true there apart = rw (apart refl) refl
      kept has false there apart = refl

      other : has_end end (used, member) ≡ true → lookup test ms ≡ Some member → has_end end m ≡ false
      other h behind =
          subst (λ one. has_end one m ≡ false) (sym (is_end end (used, member) h))
          (has_other (used, member) m ∙ not_found (λ x. has_end (end_of m) (used, x)) test member ms behind free)

pub stands_less : (test : ℕ → Bool) (used : ℕ) (member : Member) (end : End) (members : List Used) → AreApart members → lookup test members ≡ Some member
    → list_any (has_end end) (remove_entry test members) ≡ cond (has_end end (used, member)) false (list_any (has_end end) members)
stands_less test used member end [] apart found = cc
stands_less test used member end (m ∷ ms) apart found =
    stands_step (test m.0) test used member end m ms refl (stands_less test used member end ms apart.1) apart.0 found

pub indexed_less : (test : ℕ → Bool) (used : ℕ) (member : Member) (members : List Used) (old new : BTreeSet End) → AreApart members → lookup test members ≡ Some member
    → IsIndexOf members old
    → ((end : End) → contains by_end new end ≡ cond (is_at (by_end (end_of (used, member))) end) false (contains by_end old end))
    → IsIndexOf (remove_entry test members) new
indexed_less test used member members old new apart found indexed removes end =
    removes end ∙ ap (λ b. cond b false (contains by_end old end)) (at_end (used, member) end)
    ∙ ap (λ b. cond (has_end end (used, member)) false b) (indexed end) ∙ sym (stands_less test used member end members apart found)

-- ---- members whose ends and handles are apart
pub free_more : (end : End) (members : List Used) (more : Used) → IsFree end members → has_end end more ≡ false → IsFree end (members ++ more ∷ [])
free_more end members more free other =
    list_any-append (has_end end) members (more ∷ []) ∙ or_from (list_any (has_end end) members) (has_end end more || false) free (or_from (has_end end more) false other refl)

pub apart_more : (members : List Used) (more : Used) → AreApart members → IsFree (end_of more) members → AreApart (members ++ more ∷ [])
apart_more [] more apart free = (refl, tt)
apart_more (m ∷ ms) more apart free =
    let parts = or_parts (has_end (end_of more) m) (list_any (has_end (end_of more)) ms) free in
    (free_more (end_of m) ms more apart.0 (has_other m more ∙ parts.0), apart_more ms more apart.1 parts.1)

free_step : (b : Bool) (p : Used → Bool) (test : ℕ → Bool) (m : Used) (ms : List Used) → test m.0 ≡ b → p m ≡ false → list_any p ms ≡ false
    → list_any p (remove_entry test ms) ≡ false → list_any p (remove_entry test (m ∷ ms)) ≡ false
free_step true p test m ms e here all rest = rw e all
free_step false p test m ms e here all rest = rw e (or_from (p m) (list_any p (remove_entry test ms)) here rest)

pub free_less : (p : Used → Bool) (test : ℕ → Bool) (members : List Used) → list_any p members ≡ false → list_any p (remove_entry test members) ≡ false
free_less p test [] free = refl
free_less p test (m ∷ ms) free =
    let parts = or_parts (p m) (list_any p ms) free in
    free_step (test m.0) p test m ms refl parts.0 parts.1 (free_less p test ms parts.1)

apart_step : (b : Bool) (test : ℕ → Bool) (m : Used) (ms : List Used) → test m.0 ≡ b → AreApart (m ∷ ms)
    → AreApart (remove_entry test ms) → AreApart (remove_entry test (m ∷ ms))
apart_step true test m ms e apart rest = rw e apart.1
apart_step false test m ms e apart rest = rw e (free_less (has_end (end_of m)) test ms apart.0, rest)

pub apart_less : (test : ℕ → Bool) (members : List Used) → AreApart members → AreApart (remove_entry test members)
apart_less test [] apart = tt
apart_less test (m ∷ ms) apart = apart_step (test m.0) test m ms refl apart (apart_less test ms apart.1)

free_other_step : (b : Bool) (p : Used → Bool) (used : ℕ) (m : Used) (ms : List Used) → nat_eq used m.0 ≡ b → p m ≡ false
    → list_any p (without used ms) ≡ false → list_any p (without used (m ∷ ms)) ≡ false
free_other_step true p used m ms e here rest = rw e rest
free_other_step false p used m ms e here rest = rw e (or_from (p m) (list_any p (without used ms)) here rest)

-- what no member has none of the others has
pub free_of_others : (end : End) (used : ℕ) (members : List Used) → IsFree end members → IsFree end (without used members)
free_of_others end used [] free = refl
free_of_others end used (m ∷ ms) free =
    let parts = or_parts (has_end end m) (list_any (has_end end) ms) free in
    free_other_step (nat_eq used m.0) (has_end end) used m ms refl parts.0 (free_of_others end used ms parts.1)

-- ---- the first end
each_end : (P : End → Type 0) (members : List Used) → ((end : End) → list_any (has_end end) members ≡ true → P end) → AllByRecursion (λ member. P (end_of member)) members
each_end P [] holds = tt
each_end P (m ∷ ms) holds = (
  holds (end_of m) (or_left (has_end (end_of m) m) (list_any (has_end (end_of m)) ms) (has_own m)),
  each_end P ms (λ end there. holds end (or_right (has_end end m) (list_any (has_end end) ms) there)),
)

pub first_of_all : (members : List Used) (ends : BTreeSet End) (end : End) → IsIndexOf members ends
    → ((other : End) → IsTrue (contains by_end ends other) → is_gt (by_end end other) ≡ false)
    → AllByRecursion (λ member. is_gt (by_end end (member.1.end, member.1.handle)) ≡ false) members
first_of_all members ends end indexed least = each_end (λ other. is_gt (by_end end other) ≡ false) members (λ other there. least other (indexed other ∙ there))

pub ends_first : (moment : ℕ) (members : List Used) (ends : BTreeSet End) (end : End) → IsIndexOf members ends
    → contains by_end ends end ≡ true → ((other : End) → IsTrue (contains by_end ends other) → is_gt (by_end end other) ≡ false)
    → end.0 ≤ℤ pos moment → EndsFirst moment members end
ends_first moment members ends end indexed there least over = record {
  over = over;
  there = sym (indexed end) ∙ there;
  first = first_of_all members ends end indexed least;
}

no_members : (members : List Used) → ((end : End) → list_any (has_end end) members ≡ false) → members ≡ []
no_members [] none = refl
no_members (m ∷ ms) none = let has = has_own m in let lacks = (or_parts (has_end (end_of m) m) (list_any (has_end (end_of m)) ms) (none (end_of m))).0 in cc

nothing : (keys : List End) → (0 < length keys → ⊥) → keys ≡ []
nothing [] none = refl
nothing (key ∷ keys) none = absurd (none (omega arith))

pub none_over_where_none : (moment : ℕ) (members : List Used) (ends : BTreeSet End) → IsIndexOf members ends → (0 < length ends.keys → ⊥)
    → AllByRecursion (λ member. pos moment <ℤ member.1.end) members
none_over_where_none moment members ends indexed none =
    let nobody : members ≡ [] = no_members members (λ end. sym (indexed end) ∙ ap (λ keys. list_any (is_at (by_end end)) keys) (nothing ends.keys none)) in
    subst (λ ms. AllByRecursion (λ member. pos moment <ℤ member.1.end) ms) (sym nobody) tt

later : (moment : ℕ) (one other : End) → pos moment <ℤ one.0 → is_gt (by_end one other) ≡ false → pos moment <ℤ other.0
later moment one other behind least = at (int_cmp one.0 other.0) refl least where
  at : (o : Ordering) → int_cmp one.0 other.0 ≡ o → is_gt (ordering_then o (nat_cmp one.1 other.1)) ≡ false → pos moment <ℤ other.0
  at Less e least = grind (arith, ints)
  at Equal e least = grind (arith, ints)
  at Greater e least = cc

later_each : (moment : ℕ) (end : End) (members : List Used) → pos moment <ℤ end.0
    → AllByRecursion (λ member. is_gt (by_end end (member.1.end, member.1.handle)) ≡ false) members → AllByRecursion (λ member. pos moment <ℤ member.1.end) members
later_each moment end [] behind first = tt
later_each moment end (m ∷ ms) behind first = (later moment end (end_of m) behind first.0, later_each moment end ms behind first.1)

pub none_over : (moment : ℕ) (members : List Used) (ends : BTreeSet End) (end : End) → IsIndexOf members ends
    → ((other : End) → IsTrue (contains by_end ends other) → is_gt (by_end end other) ≡ false)
    → pos moment <ℤ end.0 → AllByRecursion (λ member. pos moment <ℤ member.1.end) members
none_over moment members ends end indexed least behind = later_each moment end members behind (first_of_all members ends end indexed least)
