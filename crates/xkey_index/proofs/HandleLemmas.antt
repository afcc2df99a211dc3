-- One handle more or less under keys.
use Rattle.std.proofs.Common.{◌≡◌, ◌<◌, ◌+◌, ℕ, Bool, true, false, not, ◌&&◌, ◌||◌, cond, List, [], ◌∷◌, length, take, get_or, Option, None, Some, Result, Ok, Err, OnOk, refl, sym, ◌∙◌, ap, subst}
use Rattle.std.specs.Prelude.{nat_eq}
use Rattle.std.specs.Ordering.{is_eq, nat_cmp}
use Rattle.std.specs.Result.{is_err}
use Rattle.std.specs.List.{list_any}
use Rattle.std.proofs.lemmas.Bool.{eqb-true}
use Rattle.std.specs.Str.{bytes_eq}
use Rattle.std.proofs.lemmas.List.Folds.{list_any_more}
use Rattle.xkey_index.specs.Handles.{is_owned, has_key}
use Rattle.xkey_index.proofs.MemberLemmas.{at_number}

-- ---- tests
pub or_more : (a t b e : Bool) → ((a || (t && e)) || (b && e)) ≡ (a || ((t || b) && e))
or_more true t b e = refl
or_more false true b true = refl
or_more false true true false = refl
or_more false true false false = refl
or_more false false b e = refl

pub and_more : (a t b e : Bool) → ((a && not (t && e)) && not (b && e)) ≡ (a && not ((t || b) && e))
and_more false t b e = refl
and_more true true b true = refl
and_more true true true false = refl
and_more true true false false = refl
and_more true false b e = refl

-- what is put where it isn't, and taken from there again
pub put_back : (a t e : Bool) → (e ≡ true → a ≡ false) → ((a || (t && e)) && not (t && e)) ≡ a
put_back true true true fresh = sym (fresh refl)
put_back true true false fresh = refl
put_back true false e fresh = refl
put_back false true true fresh = refl
put_back false true false fresh = refl
put_back false false e fresh = refl

-- ---- under the keys of a list, as far as a loop has come
has_key_more : (keys : List (List ℕ)) (i : ℕ) (own key : List ℕ) → i < length keys → own ≡ get_or keys i own
    → has_key (take (i + 1) keys) key ≡ (has_key (take i keys) key || bytes_eq own key)
has_key_more keys i own key within is =
    list_any_more (λ o. bytes_eq o key) keys i own within ∙ ap (λ o. has_key (take i keys) key || bytes_eq o key) (sym is)

pub adds_more : (keys : List (List ℕ)) (i : ℕ) (own key : List ℕ) (before now after same : Bool) → i < length keys → own ≡ get_or keys i own
    → now ≡ (before || (has_key (take i keys) key && same)) → after ≡ (now || (bytes_eq own key && same))
    → after ≡ (before || (has_key (take (i + 1) keys) key && same))
adds_more keys i own key before now after same within is so_far more =
    more ∙ ap (λ b. b || (bytes_eq own key && same)) so_far ∙ or_more before (has_key (take i keys) key) (bytes_eq own key) same
    ∙ ap (λ b. before || (b && same)) (sym (has_key_more keys i own key within is))

pub removes_more : (keys : List (List ℕ)) (i : ℕ) (own key : List ℕ) (before now after same : Bool) → i < length keys → own ≡ get_or keys i own
    → now ≡ (before && not (has_key (take i keys) key && same)) → after ≡ (now && not (bytes_eq own key && same))
    → after ≡ (before && not (has_key (take (i + 1) keys) key && same))
removes_more keys i own key before now after same within is so_far more =
    more ∙ ap (λ b. b && not (bytes_eq own key && same)) so_far ∙ and_more before (has_key (take i keys) key) (bytes_eq own key) same
    ∙ ap (λ b. before && not (b && same)) (sym (has_key_more keys i own key within is))

-- what a set holds of the handles that stand under some keys
pub finds_more : (holds : List ℕ → Bool) (keys : List (List ℕ)) (i : ℕ) (own : List ℕ) (now after : Bool) → i < length keys → own ≡ get_or keys i own
    → now ≡ list_any holds (take i keys) → after ≡ (now || holds own)
    → after ≡ list_any holds (take (i + 1) keys)
finds_more holds keys i own now after within is so_far more =
    more ∙ ap (λ b. b || holds own) so_far ∙ ap (λ o. list_any holds (take i keys) || holds o) is ∙ sym (list_any_more holds keys i own within)

pub any_same : (p q : List ℕ → Bool) (keys : List (List ℕ)) → ((key : List ℕ) → p key ≡ q key) → list_any p keys ≡ list_any q keys
any_same p q [] same = refl
any_same p q (key ∷ keys) same = rw (same key, any_same p q keys same) refl

-- what a call gives that isn't refused
pub not_refused : {T E : Type 0} (r : Result T E) (P : Type 0) → is_err r ≡ false → OnOk r P → P
not_refused (Ok t) P ok p = p
not_refused (Err e) P ok p = cc

pub first_given : {T E : Type 0} (r : Result T E) (P Q : Type 0) → OnOk r (P × Q) → OnOk r P
first_given (Ok t) P Q both = both.0
first_given (Err e) P Q none = none

pub under_found : {T E : Type 0} (r : Result T E) (old new : ℕ → Bool) (under held : ℕ → Bool) → ((handle : ℕ) → under handle ≡ held handle)
    → OnOk r ((handle : ℕ) → new handle ≡ (old handle || under handle)) → OnOk r ((handle : ℕ) → new handle ≡ (old handle || held handle))
under_found (Ok t) old new under held same more = λ handle. more handle ∙ ap (λ b. old handle || b) (same handle)
under_found (Err e) old new under held same none = none

-- ---- one member more or less
more_at : (e held here : Bool) (keys : List (List ℕ)) (key : List ℕ) (old : Option (List (List ℕ)))
    → here ≡ has_key keys key → (e ≡ true → old ≡ None) → held ≡ is_owned old key
    → (held || (here && e)) ≡ is_owned (cond e (Some keys) old) key
more_at true held here keys key old is fresh owned = rw (owned, fresh refl) (and_true here ∙ is) where
  and_true : (a : Bool) → (a && true) ≡ a
  and_true true = refl
  and_true false = refl
more_at false held here keys key old is fresh owned = rw owned (or_false (is_owned old key) here) where
  or_false : (a b : Bool) → (a || (b && false)) ≡ a
  or_false true b = refl
  or_false false true = refl
  or_false false false = refl

less_at : (e held here : Bool) (keys : List (List ℕ)) (key : List ℕ) (old : Option (List (List ℕ)))
    → here ≡ has_key keys key → (e ≡ true → old ≡ Some keys) → held ≡ is_owned old key
    → (held && not (here && e)) ≡ is_owned (cond e None old) key
less_at true held here keys key old is there owned = rw (owned, there refl, is) (and_not (has_key keys key)) where
  and_not : (a : Bool) → (a && not (a && true)) ≡ false
  and_not true = refl
  and_not false = refl
less_at false held here keys key old is there owned = rw owned (and_false (is_owned old key) here) where
  and_false : (a b : Bool) → (a && not (b && false)) ≡ a
  and_false true true = refl
  and_false true false = refl
  and_false false b = refl

pub index_more : (before after : List ℕ → ℕ → Bool) (old new : ℕ → Option (List (List ℕ))) (handle : ℕ) (keys slice : List (List ℕ))
    → slice ≡ keys
    → ((key : List ℕ) (other : ℕ) → after key other ≡ (before key other || (has_key slice key && nat_eq handle other)))
    → ((other : ℕ) → new other ≡ cond (is_eq (nat_cmp handle other)) (Some keys) (old other))
    → old handle ≡ None
    → ((key : List ℕ) (other : ℕ) → before key other ≡ is_owned (old other) key)
    → (key : List ℕ) (other : ℕ) → after key other ≡ is_owned (new other) key
index_more before after old new handle keys slice same adds puts fresh owned key other =
    let none : nat_eq handle other ≡ true → old other ≡ None = λ e. subst (λ n. old n ≡ None) (eqb-true handle other e) fresh in
    adds key other
    ∙ more_at (nat_eq handle other) (before key other) (has_key slice key) keys key (old other) (ap (λ ks. has_key ks key) same) none (owned key other)
    ∙ ap (λ b. is_owned (cond b (Some keys) (old other)) key) (sym (at_number handle other))
    ∙ ap (λ o. is_owned o key) (sym (puts other))

pub index_less : (before after : List ℕ → ℕ → Bool) (old new : ℕ → Option (List (List ℕ))) (handle : ℕ) (keys slice : List (List ℕ))
    → slice ≡ keys
    → ((key : List ℕ) (other : ℕ) → after key other ≡ (before key other && not (has_key slice key && nat_eq handle other)))
    → ((other : ℕ) → new other ≡ cond (is_eq (nat_cmp handle other)) None (old other))
    → old handle ≡ Some keys
    → ((key : List ℕ) (other : ℕ) → before key other ≡ is_owned (old other) key)
    → (key : List ℕ) (other : ℕ) → after key other ≡ is_owned (new other) key
index_less before after old new handle keys slice same removes takes there owned key other =
    let here : nat_eq handle other ≡ true → old other ≡ Some keys = λ e. subst (λ n. old n ≡ Some keys) (eqb-true handle other e) there in
    removes key other
    ∙ less_at (nat_eq handle other) (before key other) (has_key slice key) keys key (old other) (ap (λ ks. has_key ks key) same) here (owned key other)
    ∙ ap (λ b. is_owned (cond b None (old other)) key) (sym (at_number handle other))
    ∙ ap (λ o. is_owned o key) (sym (takes other))
