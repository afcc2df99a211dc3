-- A sound text keeps each of the sentences.
use Rattle.std.proofs.Common.{◌≡◌, ℕ, ◌+◌, zero, suc, ◌<◌, Bool, List, [], ◌∷◌, length, inl, inr, refl, sym, subst, Option, Some, None, slice_get, slice_index_or, arith}
use Rattle.vcl_language.specs.declared.scope.Subroutine.{Subroutine}
use Rattle.vmod_host.specs.declared.signature.Stored.{Stored}
use Rattle.vcl_tree.specs.Phrase.{Phrase}
use Rattle.vcl_tree.specs.declared.error.Fault.{Fault}
use Rattle.vcl_tree.specs.declared.error.Refusal.{Refusal}
use Rattle.vcl_tree.specs.declared.error.Refusal.TheVariants as refusal
use Rattle.vcl_tree.specs.declared.item.Item.{Item}
use Rattle.vcl_tree.specs.declared.item.Item.TheVariants as item
use Rattle.vcl_check.specs.Declarations.{declarations, unknown_said, twice_said}
use Rattle.vcl_check.specs.Faults.{Wrong, unknown_in, misfit_in, misused_in, misplaced_in, unwritten_part}
use Rattle.vcl_check.specs.Folded.{AnyOf}
use Rattle.vcl_symbols.specs.Known.{Known}
use Rattle.vcl_check.specs.Least.{fault_at}
use Rattle.vcl_check.specs.Reaching.{numbered_names}
use Rattle.vcl_check.specs.Roles.{Role}
use Rattle.vcl_check.specs.Sentences.{known_in, IsPart, KeepsSentences}
use Rattle.vcl_check.specs.Texts.{says, ItemFault, AnyFault, refused_at, IsSound}

none-of : (o : Option Fault) → ((f : Fault) → o ≡ Some f → ⊥) → o ≡ None
none-of None h = refl
none-of (Some f) h = absurd (h f refl)

at-none : (k : Refusal) (o : Option ℕ) → ((f : Fault) → fault_at k o ≡ Some f → ⊥) → o ≡ None
at-none k None h = refl
at-none k (Some p) h = absurd (h (record { place = p; kind = k }) refl)

none-some : {A : Type 0} (x : A) → None ≡ Some x → ⊥
none-some x e = cc

some-some : {A : Type 0} (x y : A) → Some x ≡ Some y → x ≡ y
some-some x y e = cc

-- an item at a number has a fault
any-at : {A : Type 0} (P : ℕ → A → Fault → Type 0) (f : Fault) (xs : List A) (i k : ℕ) (x : A) → slice_get xs i ≡ Some x → ((j : ℕ) → j ≡ k + i → P j x f) → AnyOf P k xs f
any-at P f [] i k x e h = absurd (none-some x e)
any-at P f (y ∷ ys) zero k x e h = inl (subst (λ z. P k z f) (sym (some-some y x e)) (h k (omega arith)))
any-at P f (y ∷ ys) (suc i) k x e h = inr (any-at P f ys i (k + 1) x e (λ j q. h j (omega arith)))

any-contained : {A : Type 0} (P : ℕ → A → Fault → Type 0) (f : Fault) (xs : List A) (i k : ℕ) (x : A) → i < length xs → slice_index_or xs i x ≡ x → ((j : ℕ) → P j x f) → AnyOf P k xs f
any-contained P f [] i k x l e h = absurd (omega arith)
any-contained P f (y ∷ ys) zero k x l e h = inl (subst (λ z. P k z f) (sym e) (h k))
any-contained P f (y ∷ ys) (suc i) k x l e h = inr (any-contained P f ys i (k + 1) x (omega arith) e h)

in-item : (items : List Item) (stored : List Stored) (rows : List (List Bool)) (places : List ℕ) → ((f : Fault) → AnyFault items stored rows places f → ⊥)
    → (i k : ℕ) (x : Item) → i < length items → slice_index_or items i x ≡ x
    → (f : Fault) → ((j : ℕ) → ItemFault (known_in items stored) (numbered_names (known_in items stored).names) rows j x f) → ⊥
in-item items stored rows places first i k x l e f h =
    let K : Known = known_in items stored in
    first f (inr (inr (inl (any-contained (ItemFault K (numbered_names K.names) rows) f items i 0 x l e h))))

in-part : (items : List Item) (stored : List Stored) (rows : List (List Bool)) (places : List ℕ) → ((f : Fault) → AnyFault items stored rows places f → ⊥)
    → (roots : List Subroutine) (role : Role) (part : Phrase) → IsPart items stored rows roots role part → (f : Fault) → Wrong (known_in items stored) roots role part f → ⊥
in-part items stored rows places first roots role part p f w =
    let W : List Subroutine → Type 0 = λ r. Wrong (known_in items stored) r role part f in
    in-item items stored rows places first p.declared.0 0 (item.Sub p.place p.name p.block) p.declared.1 p.declared.2 f
    (λ j. (role, part, p.within, subst W p.reached w))

pub sound-keeps : (items : List Item) (stored : List Stored) → IsSound items stored → (rows : List (List Bool)) × KeepsSentences items stored rows
sound-keeps items stored s =
    let rows = s.faultless.rows in
    let places = s.faultless.places in
    let K : Known = known_in items stored in
    let first : (f : Fault) → AnyFault items stored rows places f → ⊥ = s.faultless.first in
    let part = in-part items stored rows places first in (
      rows,
      record {
        thirteen = s.faultless.thirteen;
        reached = s.faultless.reached;
        known = λ roots role p h. at-none refusal.Unknown (unknown_in K role p) (λ f e. part roots role p h f (inl e));
        modules = λ k m h. none-of (unknown_said stored k m) (λ f e. first f (inl (any-at (λ k s g. unknown_said stored k s ≡ Some g) f (says items) k 0 m h (λ j q. e))));
        once = λ k m h.
            none-of (twice_said K.names k m)
            (λ f e. first f (inr (inl (any-at (λ k s g. twice_said K.names k s ≡ Some g) f (declarations (says items)) k 0 m h
            (λ j q. let T : ℕ → Type 0 = λ n. twice_said K.names n m ≡ Some f in let same : k ≡ j = omega arith in subst T same e)))));
        fit = λ roots role p h. at-none refusal.Kind (misfit_in K roots role p) (λ f e. part roots role p h f (inr (inl e)));
        used = λ roots role p h. at-none refusal.NotHere (misused_in K roots role p) (λ f e. part roots role p h f (inr (inr (inl e))));
        placed = λ roots role p h. at-none refusal.NotHere (misplaced_in K roots role p) (λ f e. part roots role p h f (inr (inr (inr (inl e)))));
        straight = λ place c. let at : Fault = record { place = place; kind = refusal.Recursion } in first at (inr (inr (inr (inl (place, c, refl)))));
        written = λ roots role p h. at-none refusal.Pattern (unwritten_part K role p) (λ f e. part roots role p h f (inr (inr (inr (inr e)))));
        patterns = λ m h k must.
            let c = s.faultless.refused.each m h k must in
            let at : Fault = record { place = m.place; kind = refusal.Pattern } in
            first at (inr (inr (inr (inr (any-contained (λ k place g. refused_at k place ≡ Some g) at places c.0 0 m.place c.1 c.2 (λ j. refl))))));
        backends = λ place name attributes h. none-of _ (λ f e. in-item items stored rows places first h.0 0 (item.Backend place name attributes) h.1 h.2 f (λ j. e));
        probes = λ place name attributes h. none-of _ (λ f e. in-item items stored rows places first h.0 0 (item.Probe place name attributes) h.1 h.2 f (λ j. e));
        acls = λ place name entries h. none-of _ (λ f e. in-item items stored rows places first h.0 0 (item.Acl place name entries) h.1 h.2 f (λ j. e));
        backend = s.backend;
      },
    )
