-- What stands under the names when what stands under one of them changes.
use Rattle.std.proofs.Common.{◌≡◌, ℕ, Bool, true, false, not, ◌&&◌, ◌||◌, cond, Option, None, Some, refl, ◌∙◌, ap, subst}
use Rattle.std.specs.Prelude.{nat_eq, IsSome, Result, Ok, Err, OnErr, List, []}
use Rattle.std.specs.Ordering.{nat_cmp}
use Rattle.std.specs.BTreeMap.{BTreeMap, get, is_at, WritesThrough}
use Rattle.std.specs.BTreeSet.{BTreeSet, contains}
use Rattle.object_heads.specs.declared.name.Name.{Name}
use Rattle.object_heads.specs.Names.{name_cmp}
use Rattle.object_heads.specs.Indexes.{Adds, Removes, IsSame, same_name, is_held, is_under}
use Rattle.object_heads.proofs.NameLemmas.{name_cmp-exact}
use Rattle.object_heads.proofs.IndexLemmas.{compared_equal}

-- under this name there is w, and under each other what there was
abbrev pub Puts : BTreeMap Name (BTreeSet ℕ) → Name → Option (BTreeSet ℕ) → BTreeMap Name (BTreeSet ℕ) → Type 0
Puts old name w new = (key : Name) → get name_cmp new key ≡ cond (is_at (name_cmp name) key) w (get name_cmp old key)

pub written : (old new : BTreeMap Name (BTreeSet ℕ)) (name : Name) (before after : BTreeSet ℕ) → Some before ≡ get name_cmp old name
    → WritesThrough name_cmp (name_cmp name) old after new → Puts old name (Some after) new
written old new name before after there writes = (writes.3 (subst IsSome there refl)).0

more_held : (e b : Bool) (w before : Option (BTreeSet ℕ)) (other : ℕ) → (e ≡ true → is_held w other ≡ (is_held before other || b))
    → is_held (cond e w before) other ≡ (is_held before other || (e && b))
more_held true b w before other is = is refl
more_held false b w before other is = or_false (is_held before other) where
  or_false : (a : Bool) → a ≡ (a || false)
  or_false true = refl
  or_false false = refl

less_held : (e b : Bool) (w before : Option (BTreeSet ℕ)) (other : ℕ) → (e ≡ true → is_held w other ≡ (is_held before other && not b))
    → is_held (cond e w before) other ≡ (is_held before other && not (e && b))
less_held true b w before other is = is refl
less_held false b w before other is = and_true (is_held before other) where
  and_true : (a : Bool) → a ≡ (a && true)
  and_true true = refl
  and_true false = refl

same_held : (e : Bool) (w before : Option (BTreeSet ℕ)) (other : ℕ) → (e ≡ true → is_held w other ≡ is_held before other) → is_held (cond e w before) other ≡ is_held before other
same_held true w before other is = is refl
same_held false w before other is = refl

pub adds_by : (old new : BTreeMap Name (BTreeSet ℕ)) (name : Name) (w : Option (BTreeSet ℕ)) (handle : ℕ) → Puts old name w new
    → ((other : ℕ) → is_held w other ≡ (is_under old name other || nat_eq handle other)) → Adds (is_under old) handle (same_name name) (is_under new)
adds_by old new name w handle puts is key other =
    ap (λ o. is_held o other) (puts key)
    ∙ more_held (same_name name key) (nat_eq handle other) w (get name_cmp old key) other (λ e. is other ∙ ap (λ n. is_under old n other || nat_eq handle other) (name_cmp-exact name key e))

pub removes_by : (old new : BTreeMap Name (BTreeSet ℕ)) (name : Name) (w : Option (BTreeSet ℕ)) (handle : ℕ) → Puts old name w new
    → ((other : ℕ) → is_held w other ≡ (is_under old name other && not (nat_eq handle other))) → Removes (is_under old) handle (same_name name) (is_under new)
removes_by old new name w handle puts is key other =
    ap (λ o. is_held o other) (puts key)
    ∙ less_held (same_name name key) (nat_eq handle other) w (get name_cmp old key) other (λ e. is other ∙ ap (λ n. is_under old n other && not (nat_eq handle other)) (name_cmp-exact name key e))

pub same_by : (old new : BTreeMap Name (BTreeSet ℕ)) (name : Name) (w : Option (BTreeSet ℕ)) → Puts old name w new
    → ((other : ℕ) → is_held w other ≡ is_under old name other) → IsSame (is_under old) (is_under new)
same_by old new name w puts is key other =
    ap (λ o. is_held o other) (puts key)
    ∙ same_held (same_name name key) w (get name_cmp old key) other (λ e. is other ∙ ap (λ n. is_under old n other) (name_cmp-exact name key e))

-- where nothing stands under the name, nothing has to be taken from there
pub removes_none : (old : BTreeMap Name (BTreeSet ℕ)) (name : Name) (handle : ℕ) → get name_cmp old name ≡ None → Removes (is_under old) handle (same_name name) (is_under old)
removes_none old name handle none key other =
    let nothing : same_name name key ≡ true → is_held (get name_cmp old key) other ≡ false = λ e. subst (λ n. is_under old n other ≡ false) (name_cmp-exact name key e) (ap (λ o. is_held o other) none) in
    left (same_name name key) (nat_eq handle other) (is_under old key other) nothing where
      left : (e b a : Bool) → (e ≡ true → a ≡ false) → a ≡ (a && not (e && b))
      left true b a none = rw (none refl) refl
      left false b true none = refl
      left false b false none = refl

-- ---- one handle more or less in a set
put_there : (e a : Bool) → cond e true a ≡ (a || e)
put_there true true = refl
put_there true false = refl
put_there false true = refl
put_there false false = refl

gone_there : (e a : Bool) → cond e false a ≡ (a && not e)
gone_there true true = refl
gone_there true false = refl
gone_there false true = refl
gone_there false false = refl

pub one_more : (old new : ℕ → Bool) (handle : ℕ) → ((other : ℕ) → new other ≡ cond (is_at (nat_cmp handle) other) true (old other)) → (other : ℕ) → new other ≡ (old other || nat_eq handle other)
one_more old new handle updates other =
    updates other ∙ put_there (is_at (nat_cmp handle) other) (old other) ∙ ap (λ e. old other || e) (compared_equal handle other)

pub one_less : (old new : ℕ → Bool) (handle : ℕ) → ((other : ℕ) → new other ≡ cond (is_at (nat_cmp handle) other) false (old other)) → (other : ℕ) → new other ≡ (old other && not (nat_eq handle other))
one_less old new handle updates other =
    updates other ∙ gone_there (is_at (nat_cmp handle) other) (old other) ∙ ap (λ e. old other && not e) (compared_equal handle other)

pub same_set : (old new : BTreeSet ℕ) → new.keys ≡ old.keys → (other : ℕ) → contains nat_cmp new other ≡ contains nat_cmp old other
same_set old new same other = let set : List ℕ → BTreeSet ℕ = λ keys. record { keys = keys } in ap (λ keys. contains nat_cmp (set keys) other) same

pub empty_set : (set : BTreeSet ℕ) → set.keys ≡ [] → (other : ℕ) → contains nat_cmp set other ≡ false
empty_set set empty other = let nothing : BTreeSet ℕ = record { keys = [] } in same_set nothing set empty other

pub on_err : {T E : Type 0} (r : Result T E) (P : Type 0) → P → OnErr r P
on_err (Ok t) P p = tt
on_err (Err e) P p = p
