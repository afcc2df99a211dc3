-- Arguments one after another where values of their types are wanted.
use Rattle.std.proofs.lemmas.List.{append_assoc, append-nil}
use Rattle.std.proofs.lemmas.Bool.{false≢true}
use Rattle.std.proofs.lemmas.Option.{slice_get_within}
use Rattle.std.specs.Prelude.{IsSome}
use Rattle.std.proofs.Common.{◌≡◌, ◌<◌, ℕ, length, arith, Bool, true, false, if◌then◌else◌, List, [], ◌∷◌, ◌++◌, Option, Some, None, map, option_map, option_and_then, slice_get, refl, sym, ap, subst, ◌∙◌}
use Rattle.vcl_values.specs.declared.value.Kind.{Kind}
use Rattle.vcl_values.specs.declared.value.Kind.TheVariants as kind
use Rattle.vcl_values.specs.declared.value.Value.{Value}
use Rattle.vcl_values.specs.declared.value.Value.TheVariants as value
use Rattle.vcl_values.specs.Values.{kind_of}
use Rattle.vcl_context.specs.Kinds.{fits}
use Rattle.vcl_operands.specs.Values.{as_text, text, fitted, joined, all_fitted, meant}

-- what there is
pub none-there : {A : Type 0} (o : Option A) → None ≡ o → IsSome o → ⊥
none-there {A} o e h = false≢true (subst (λ (x : Option A). IsSome x) (sym e) h)

pub there-within : {A B : Type 0} (f : A → Option B) (xs : List A) (k : ℕ) → IsSome (option_and_then f (slice_get xs k)) → k < length xs
there-within {A} {B} f xs k h = by-place (slice_get xs k) refl h
  where
    by-place : (o : Option A) → slice_get xs k ≡ o → IsSome (option_and_then f o) → k < length xs
    by-place (Some x) e h = slice_get_within xs k x e
    by-place None e h = absurd (none-there {A = B} None refl h)

pub some-within : {A : Type 0} (xs : List A) (k : ℕ) → IsSome (slice_get xs k) → k < length xs
some-within {A} xs k h = by-place (slice_get xs k) refl h
  where
    by-place : (o : Option A) → slice_get xs k ≡ o → IsSome o → k < length xs
    by-place (Some x) e h = slice_get_within xs k x e
    by-place None e h = absurd (none-there {A = A} None refl h)

pub meant-some : (tag : ℕ) (o : Option (Option (List Value))) → IsSome (meant tag o) → IsSome o
meant-some tag None h = h
meant-some tag (Some o) h = refl

-- further arguments behind those that fit
abbrev pub onto : List Value → Option (Option (List Value)) → Option (Option (List Value))
onto front None = None
onto front (Some None) = Some None
onto front (Some (Some vs)) = Some (Some (front ++ vs))

onto-more : (front : List Value) (v : Value) (o : Option (Option (List Value))) → onto (front ++ v ∷ []) o ≡ onto front (joined (Some (Some v)) o)
onto-more front v None = refl
onto-more front v (Some None) = refl
onto-more front v (Some (Some vs)) = ap (λ (l : List Value). Some (Some l)) (append_assoc front (v ∷ []) vs)

pub onto-step : (front : List Value) (k : Kind) (ks : List Kind) (v w : Value) (vs : List Value) → fitted k v ≡ Some (Some w)
    → onto (front ++ w ∷ []) (all_fitted ks vs) ≡ onto front (all_fitted (k ∷ ks) (v ∷ vs))
onto-step front k ks v w vs e = onto-more front w (all_fitted ks vs) ∙ sym (ap (λ (o : Option (Option Value)). onto front (joined o (all_fitted ks vs))) e)

pub onto-none : (front : List Value) (k : Kind) (ks : List Kind) (v : Value) (vs : List Value) → fitted k v ≡ Some None → onto front (all_fitted (k ∷ ks) (v ∷ vs)) ≡ Some None
onto-none front k ks v vs e = ap (λ (o : Option (Option Value)). onto front (joined o (all_fitted ks vs))) e

-- each of them fits, and there are as many as are wanted
first-fits : (front : List Value) (p : Option (Option Value)) (r o : Option (Option (List Value))) → onto front (joined p r) ≡ o → IsSome o → IsSome p
first-fits front None r o e h = absurd (none-there o e h)
first-fits front (Some p) r o e h = refl

pub fits-next : (front : List Value) (k : Kind) (ks : List Kind) (v : Value) (vs : List Value) (o : Option (Option (List Value))) → onto front (all_fitted (k ∷ ks) (v ∷ vs)) ≡ o → IsSome o
    → IsSome (fitted k v)
fits-next front k ks v vs o e h = first-fits front (fitted k v) (all_fitted ks vs) o e h

pub too-many : (front : List Value) (v : Value) (vs : List Value) (o : Option (Option (List Value))) → onto front (all_fitted [] (v ∷ vs)) ≡ o → IsSome o → ⊥
too-many front v vs o e h = none-there o e h

pub all-given : (front : List Value) (ks : List Kind) (vs : List Value) (o : Option (Option (List Value))) → length vs ≡ 0 → onto front (all_fitted ks vs) ≡ o → IsSome o → o ≡ Some (Some front)
all-given front [] [] o n e h = sym e ∙ ap (λ (l : List Value). Some (Some l)) (append-nil front)
all-given front (k ∷ ks) [] o n e h = absurd (none-there o e h)
all-given front ks (v ∷ vs) o n e h = absurd (omega arith)

text-kind : (o : Option (List ℕ)) (w : Value) → Some (option_map text o) ≡ Some (Some w) → kind_of w ≡ kind.String
text-kind None w e = absurd (let q : ⊥ = cc in q)
text-kind (Some t) w e = let q : text t ≡ w = cc in ap kind_of (sym q)

if-some : (b : Bool) (v w : Value) → (if b then Some (Some v) else None) ≡ Some (Some w) → (b ≡ true) × (v ≡ w)
if-some true v w e = (refl, let q : v ≡ w = cc in q)
if-some false v w e = absurd (let q : ⊥ = cc in q)

-- a value of another type than STRING that is taken is one of the type
pub taken-alone : (b : Bool) (v : Value) → IsSome (if b then Some (Some v) else None) → (if b then Some (Some v) else None) ≡ Some (Some v)
taken-alone true v h = refl
taken-alone false v h = absurd (false≢true h)

int-fits : (g : Kind) → fits kind.Int g ≡ true → g ≡ kind.Int
int-fits kind.Int h = refl
int-fits _ h = absurd (let q : ⊥ = cc in q)

duration-fits : (g : Kind) → fits kind.Duration g ≡ true → g ≡ kind.Duration
duration-fits kind.Duration h = refl
duration-fits _ h = absurd (let q : ⊥ = cc in q)

bool-fits : (g : Kind) → fits kind.Bool g ≡ true → g ≡ kind.Bool
bool-fits kind.Bool h = refl
bool-fits _ h = absurd (let q : ⊥ = cc in q)

ip-fits : (g : Kind) → fits kind.Ip g ≡ true → g ≡ kind.Ip
ip-fits kind.Ip h = refl
ip-fits _ h = absurd (let q : ⊥ = cc in q)

backend-fits : (g : Kind) → fits kind.Backend g ≡ true → g ≡ kind.Backend
backend-fits kind.Backend h = refl
backend-fits _ h = absurd (let q : ⊥ = cc in q)

-- what fits a type is of it
plain-kind : (k : Kind) (v w : Value) → ((g : Kind) → fits k g ≡ true → g ≡ k) → (if fits k (kind_of v) then Some (Some v) else None) ≡ Some (Some w) → kind_of w ≡ k
plain-kind k v w h e = let p = if-some (fits k (kind_of v)) v w e in ap kind_of (sym p.1) ∙ h (kind_of v) p.0

string-kind : (v w : Value) → fitted kind.String v ≡ Some (Some w) → kind_of w ≡ kind.String
string-kind (value.String t) w e = let q : value.String t ≡ w = cc in ap kind_of (sym q)
string-kind v w e = text-kind (as_text v) w e

pub fitted-kind : (k : Kind) (v w : Value) → fitted k v ≡ Some (Some w) → kind_of w ≡ k
fitted-kind kind.String v w e = string-kind v w e
fitted-kind kind.Int v w e = plain-kind kind.Int v w int-fits e
fitted-kind kind.Duration v w e = plain-kind kind.Duration v w duration-fits e
fitted-kind kind.Bool v w e = plain-kind kind.Bool v w bool-fits e
fitted-kind kind.Ip v w e = plain-kind kind.Ip v w ip-fits e
fitted-kind kind.Backend v w e = plain-kind kind.Backend v w backend-fits e

nil-kinds : (us ws : List Value) → us ≡ [] → Some (Some us) ≡ Some (Some ws) → map kind_of ws ≡ []
nil-kinds us ws n e = let q : [] ≡ ws = cc in ap (map kind_of) (sym q)

joined-kinds : (k : Kind) (ks : List Kind) (o : Option (Option Value)) (p : Option (Option (List Value))) (ws : List Value) → ((w : Value) → o ≡ Some (Some w) → kind_of w ≡ k)
    → ((us : List Value) → p ≡ Some (Some us) → map kind_of us ≡ ks) → joined o p ≡ Some (Some ws) → map kind_of ws ≡ k ∷ ks
joined-kinds k ks None p ws f g e = absurd (let q : ⊥ = cc in q)
joined-kinds k ks (Some None) p ws f g e = absurd (let q : ⊥ = cc in q)
joined-kinds k ks (Some (Some w)) None ws f g e = absurd (let q : ⊥ = cc in q)
joined-kinds k ks (Some (Some w)) (Some None) ws f g e = absurd (let q : ⊥ = cc in q)
joined-kinds k ks (Some (Some w)) (Some (Some us)) ws f g e =
    let q : w ∷ us ≡ ws = cc in let a : kind_of w ≡ k = f w refl in let b : map kind_of us ≡ ks = g us refl in ap (map kind_of) (sym q) ∙ rw (a, b) refl

pub all-kinds : (ks : List Kind) (vs ws : List Value) → all_fitted ks vs ≡ Some (Some ws) → map kind_of ws ≡ ks
all-kinds [] [] ws e = nil-kinds [] ws refl e
all-kinds [] (v ∷ vs) ws e = absurd (let q : ⊥ = cc in q)
all-kinds (k ∷ ks) [] ws e = absurd (let q : ⊥ = cc in q)
all-kinds (k ∷ ks) (v ∷ vs) ws e = joined-kinds k ks (fitted k v) (all_fitted ks vs) ws (fitted-kind k v) (all-kinds ks vs) e
