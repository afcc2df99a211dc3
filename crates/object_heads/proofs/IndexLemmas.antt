-- One handle more or less in an index.
use Rattle.std.proofs.Common.{◌≡◌, ℕ, Bool, true, false, not, ◌&&◌, ◌||◌, cond, Option, None, Some, refl, sym, ◌∙◌, ap, subst, arith}
use Rattle.std.specs.Prelude.{nat_eq, IfSome}
use Rattle.std.specs.Ordering.{is_eq, nat_cmp}
use Rattle.std.specs.Option.{option_map_or}
use Rattle.std.proofs.lemmas.Bool.{eqb-true}
use Rattle.std.proofs.lemmas.Bool.Decides.{nat_tests}
use Rattle.object_heads.specs.Indexes.{Adds, Removes, IsSame, IsIndexOf}

pub compared_equal : (a b : ℕ) → is_eq (nat_cmp a b) ≡ nat_eq a b
compared_equal a b = grind (arith, nat_tests)

-- what is put where it isn't, and taken from there again
taken_back : (a t e : Bool) → (e ≡ true → t ≡ true → a ≡ false) → ((a || (t && e)) && not (t && e)) ≡ a
taken_back true true true fresh = sym (fresh refl refl)
taken_back true true false fresh = refl
taken_back true false e fresh = refl
taken_back false true true fresh = refl
taken_back false true false fresh = refl
taken_back false false e fresh = refl

pub same_again : {K : Type 0} (old added new : K → ℕ → Bool) (handle : ℕ) (test : K → Bool) → ((key : K) → test key ≡ true → old key handle ≡ false)
    → Adds old handle test added → Removes added handle test new → IsSame old new
same_again old added new handle test free adds removes key other =
    let none : nat_eq handle other ≡ true → test key ≡ true → old key other ≡ false = λ e t. subst (λ n. old key n ≡ false) (eqb-true handle other e) (free key t) in
    removes key other ∙ ap (λ b. b && not (test key && nat_eq handle other)) (adds key other) ∙ taken_back (old key other) (test key) (nat_eq handle other) none

-- ---- one item more or less
more_at : {X : Type 0} (e held : Bool) (x : X) (old : Option X) (test : X → Bool) → (e ≡ true → old ≡ None) → held ≡ option_map_or test old false
    → (held || (test x && e)) ≡ option_map_or test (cond e (Some x) old) false
more_at true held x old test fresh owned = rw (owned, fresh refl) (and_true (test x)) where
  and_true : (a : Bool) → (a && true) ≡ a
  and_true true = refl
  and_true false = refl
more_at false held x old test fresh owned = rw owned (or_false (option_map_or test old false) (test x)) where
  or_false : (a b : Bool) → (a || (b && false)) ≡ a
  or_false true b = refl
  or_false false true = refl
  or_false false false = refl

less_at : {X : Type 0} (e held : Bool) (x : X) (old : Option X) (test : X → Bool) → (e ≡ true → old ≡ Some x) → held ≡ option_map_or test old false
    → (held && not (test x && e)) ≡ option_map_or test (cond e None old) false
less_at true held x old test there owned = rw (owned, there refl) (and_not (test x)) where
  and_not : (a : Bool) → (a && not (a && true)) ≡ false
  and_not true = refl
  and_not false = refl
less_at false held x old test there owned = rw owned (and_false (option_map_or test old false) (test x)) where
  and_false : (a b : Bool) → (a && not (b && false)) ≡ a
  and_false true true = refl
  and_false true false = refl
  and_false false b = refl

pub index_more : {K X : Type 0} (has : X → K → Bool) (old new : ℕ → Option X) (before after : K → ℕ → Bool) (handle : ℕ) (x : X)
    → Adds before handle (has x) after → ((other : ℕ) → new other ≡ cond (is_eq (nat_cmp handle other)) (Some x) (old other)) → old handle ≡ None
    → IsIndexOf has old before → IsIndexOf has new after
index_more has old new before after handle x adds puts fresh is key other =
    let none : nat_eq handle other ≡ true → old other ≡ None = λ e. subst (λ n. old n ≡ None) (eqb-true handle other e) fresh in
    adds key other
    ∙ more_at (nat_eq handle other) (before key other) x (old other) (λ y. has y key) none (is key other)
    ∙ ap (λ b. option_map_or (λ y. has y key) (cond b (Some x) (old other)) false) (sym (compared_equal handle other))
    ∙ ap (λ o. option_map_or (λ y. has y key) o false) (sym (puts other))

pub index_less : {K X : Type 0} (has : X → K → Bool) (old new : ℕ → Option X) (before after : K → ℕ → Bool) (handle : ℕ) (x : X)
    → Removes before handle (has x) after → ((other : ℕ) → new other ≡ cond (is_eq (nat_cmp handle other)) None (old other)) → old handle ≡ Some x
    → IsIndexOf has old before → IsIndexOf has new after
index_less has old new before after handle x removes takes there is key other =
    let here : nat_eq handle other ≡ true → old other ≡ Some x = λ e. subst (λ n. old n ≡ Some x) (eqb-true handle other e) there in
    removes key other
    ∙ less_at (nat_eq handle other) (before key other) x (old other) (λ y. has y key) here (is key other)
    ∙ ap (λ b. option_map_or (λ y. has y key) (cond b None (old other)) false) (sym (compared_equal handle other))
    ∙ ap (λ o. option_map_or (λ y. has y key) o false) (sym (takes other))

same_at : {X : Type 0} (e : Bool) (v w : X) (old : Option X) (test : X → Bool) → (e ≡ true → old ≡ Some v) → test w ≡ test v
    → option_map_or test (cond e (Some w) old) false ≡ option_map_or test old false
same_at true v w old test there same = rw (there refl, same) refl
same_at false v w old test there same = refl

pub index_same : {K X : Type 0} (has : X → K → Bool) (old new : ℕ → Option X) (index : K → ℕ → Bool) (handle : ℕ) (v w : X)
    → ((other : ℕ) → new other ≡ cond (is_eq (nat_cmp handle other)) (Some w) (old other)) → old handle ≡ Some v → ((key : K) → has w key ≡ has v key)
    → IsIndexOf has old index → IsIndexOf has new index
index_same has old new index handle v w puts there same is key other =
    let here : nat_eq handle other ≡ true → old other ≡ Some v = λ e. subst (λ n. old n ≡ Some v) (eqb-true handle other e) there in
    is key other
    ∙ sym (same_at (nat_eq handle other) v w (old other) (λ y. has y key) here (same key))
    ∙ ap (λ b. option_map_or (λ y. has y key) (cond b (Some w) (old other)) false) (sym (compared_equal handle other))
    ∙ ap (λ o. option_map_or (λ y. has y key) o false) (sym (puts other))

-- ---- what holds of each item
each_more : {X : Type 0} (R : X → Type 0) (e : Bool) (x : X) (old : Option X) → R x → IfSome old R → IfSome (cond e (Some x) old) R
each_more R true x old here before = here
each_more R false x old here before = before

each_less : {X : Type 0} (R : X → Type 0) (e : Bool) (old : Option X) → IfSome old R → IfSome (cond e None old) R
each_less R true old before = tt
each_less R false old before = before

pub all_more : {X : Type 0} (R : X → Type 0) (old new : ℕ → Option X) (handle : ℕ) (x : X) → ((other : ℕ) → new other ≡ cond (is_eq (nat_cmp handle other)) (Some x) (old other))
    → R x → ((other : ℕ) → IfSome (old other) R) → (other : ℕ) → IfSome (new other) R
all_more R old new handle x puts here before other = subst (λ o. IfSome o R) (sym (puts other)) (each_more R (is_eq (nat_cmp handle other)) x (old other) here (before other))

pub all_less : {X : Type 0} (R : X → Type 0) (old new : ℕ → Option X) (handle : ℕ) → ((other : ℕ) → new other ≡ cond (is_eq (nat_cmp handle other)) None (old other))
    → ((other : ℕ) → IfSome (old other) R) → (other : ℕ) → IfSome (new other) R
all_less R old new handle takes before other = subst (λ o. IfSome o R) (sym (takes other)) (each_less R (is_eq (nat_cmp handle other)) (old other) (before other))
