-- Where no fault is told of the numbers of a probe's window, they fit.
use Rattle.std.proofs.Common.{◌≡◌, ℕ, zero, suc, ◌+◌, ◌<◌, Bool, true, false, cond, List, [], ◌∷◌, get_or, length, map, refl, sym, ap, ◌∙◌, subst, arith, true≢false}
use Rattle.std.specs.Prelude.{Option, Some, None, ◌||◌, is_some, codes, Contains}
use Rattle.vcl_tree.specs.Phrase as phrase
use Rattle.vcl_tree.specs.Phrase.{Phrase}
use Rattle.vcl_tree.specs.declared.error.Fault.{Fault}
use Rattle.vcl_tree.specs.declared.error.Refusal.TheVariants as refusal
use Rattle.vcl_attributes.specs.Readers.{integer_of, read_named, first_integer}
use Rattle.vcl_check.specs.Attributes.{attribute_name, probe_member, probe_fault, backend_attribute, backend_member, twice_attribute, hostless, of_backend_kind}
use Rattle.vcl_check.specs.Sentences.{known_in}
use Rattle.vcl_check.specs.Folded.{numbered}
use Rattle.vcl_check.specs.Least.{fault_at, lesser}
use Rattle.vcl_check.specs.Mentions.{parts}
use Rattle.vcl_attributes.specs.WindowNumbers.{number_of, with_initial, numbers_in, is_window_name, window_name, window_place, misfit_place}
use Rattle.vcl_check.specs.FittingProbes.{DeclaredFit, NestedFit}
use Rattle.vcl_symbols.specs.Known.{Known}
use Rattle.vcl_language.specs.Attributes.{attribute_named}
use Rattle.vcl_language.specs.declared.attributes.Owner.TheVariants as owner
use Rattle.vcl_language.specs.declared.attributes.AttributeKind.{AttributeKind}
use Rattle.vcl_language.specs.declared.attributes.AttributeKind.TheVariants as attribute_kind
use Rattle.std.specs.Option.{option_or}
use Rattle.vcl_check.proofs.LeastLemmas.{neither}
use Rattle.vcl_check.proofs.SentenceLemmas.{sound-keeps}

-- Each item of a list without a fault has none.
no_fault : {A : Type 0} (fault : ℕ → A → Option Fault) (k : ℕ) (best : Option Fault) (xs : List A) → numbered fault k best xs ≡ None → best ≡ None
no_fault fault k best [] e = e
no_fault fault k best (x ∷ xs) e = (neither best (fault k x) (no_fault fault (k + 1) (lesser best (fault k x)) xs e)).0

abbrev Faultless : {A : Type 0} → (ℕ → A → Option Fault) → ℕ → List A → Type 0
Faultless fault k [] = Unit {0}
Faultless fault k (x ∷ xs) = (fault k x ≡ None) × Faultless fault (k + 1) xs

each_faultless : {A : Type 0} (fault : ℕ → A → Option Fault) (k : ℕ) (best : Option Fault) (xs : List A) → numbered fault k best xs ≡ None → Faultless fault k xs
each_faultless fault k best [] e = tt
each_faultless fault k best (x ∷ xs) e =
    ((neither best (fault k x) (no_fault fault (k + 1) (lesser best (fault k x)) xs e)).1, each_faultless fault (k + 1) (lesser best (fault k x)) xs e)

faultless_at : {A : Type 0} (fault : ℕ → A → Option Fault) (k : ℕ) (xs : List A) (i : ℕ) (d : A) → i < length xs → Faultless fault k xs → (j : ℕ) × (fault j (get_or xs i d) ≡ None)
faultless_at fault k [] i d l h = absurd (omega arith)
faultless_at fault k (x ∷ xs) zero d l h = (k, h.0)
faultless_at fault k (x ∷ xs) (suc i) d l h = faultless_at fault (k + 1) xs i d (omega arith) h.1

one_faultless : {A : Type 0} (fault : ℕ → A → Option Fault) (xs : List A) (x : A) → Contains xs x → Faultless fault 0 xs → (j : ℕ) × (fault j x ≡ None)
one_faultless fault xs x c h =
    let found = faultless_at fault 0 xs c.0 x c.1 h in
    (found.0, subst (λ y. fault found.0 y ≡ None) c.2 found.1)

-- Where no name of a window's number stands, none is said.
neither_true : (a b : Bool) → (a || b) ≡ false → (a ≡ false) × (b ≡ false)
neither_true true b e = absurd (true≢false e)
neither_true false b e = (refl, e)

no_place : (b : Bool) (place : ℕ) → cond {A = Option ℕ} b (Some place) None ≡ None → b ≡ false
no_place true place e = cc
no_place false place e = refl

no_else : (a b : Option ℕ) → option_or a b ≡ None → (a ≡ None) × (b ≡ None)
no_else (Some place) b e = cc
no_else None b e = (refl, e)

abbrev Silent : Phrase → Type 0
Silent x =
    (read_named integer_of (codes "window") x ≡ None)
    × ((read_named integer_of (codes "threshold") x ≡ None) × (read_named integer_of (codes "initial") x ≡ None))

silent_named : (a value : Phrase) (place : ℕ) (name : List ℕ) → is_window_name name ≡ false → Silent (phrase.Node phrase.Attribute a (phrase.Node phrase.Bound (phrase.Named place name) value))
silent_named a value place name e =
    let outer = neither_true _ _ e in
    let inner = neither_true _ _ outer.0 in
    (ap (λ b. cond b (integer_of value) None) inner.0, (ap (λ b. cond b (integer_of value) None) inner.1, ap (λ b. cond b (integer_of value) None) outer.1))

silent_one : (x : Phrase) → window_name x ≡ None → Silent x
silent_one (phrase.Node phrase.Attribute a (phrase.Node phrase.Bound (phrase.Named place name) value)) e = silent_named a value place name (no_place (is_window_name name) place e)
silent_one _ e = (refl, (refl, refl))

first_more : (wanted : List ℕ) (x : Phrase) (xs : List Phrase) → read_named integer_of wanted x ≡ None → first_integer wanted xs ≡ None → first_integer wanted (x ∷ xs) ≡ None
first_more wanted x xs e k = ap (λ o. option_or o (first_integer wanted xs)) e ∙ k

silent : (xs : List Phrase) → window_place xs ≡ None → (first_integer (codes "window") xs ≡ None) × ((first_integer (codes "threshold") xs ≡ None) × (first_integer (codes "initial") xs ≡ None))
silent [] e = (refl, (refl, refl))
silent (x ∷ xs) e =
    let both = no_else (window_name x) (window_place xs) e in
    let one = silent_one x both.0 in
    let more = silent xs both.1 in
    (first_more _ x xs one.0 more.0, (first_more _ x xs one.1.0 more.1.0, first_more _ x xs one.1.1 more.1.1))

usual_fit : (xs : List Phrase) → window_place xs ≡ None → is_some (numbers_in xs) ≡ true
usual_fit xs e =
    let none = silent xs e in
    ap (λ w. is_some (with_initial (number_of (Some 8) w) (number_of (Some 3) (first_integer (codes "threshold") xs)) (first_integer (codes "initial") xs))) none.0
    ∙ (ap (λ t. is_some (with_initial (Some 8) (number_of (Some 3) t) (first_integer (codes "initial") xs))) none.1.0
    ∙ ap (λ i. is_some (with_initial (Some 8) (Some 3) i)) none.1.1)

no_misfit : (place : Option ℕ) → fault_at refusal.Kind place ≡ None → place ≡ None
no_misfit None e = refl
no_misfit (Some place) e = cc

fits : (xs : List Phrase) → misfit_place xs ≡ None → is_some (numbers_in xs) ≡ true
fits xs e = by (is_some (numbers_in xs)) refl
  where
    by : (b : Bool) → is_some (numbers_in xs) ≡ b → is_some (numbers_in xs) ≡ true
    by true k = k
    by false k = usual_fit xs (sym (ap (λ b. cond b None (window_place xs)) k) ∙ e)

probe_fits : (known : Known) (xs : List Phrase) → probe_fault known xs ≡ None → is_some (numbers_in xs) ≡ true
probe_fits known xs e = fits xs (no_misfit (misfit_place xs) (no_fault (probe_member known (map attribute_name xs)) 0 (fault_at refusal.Kind (misfit_place xs)) xs e))

pub declared-fit : DeclaredFit
declared-fit items stored sound place name attributes found =
    let keeps = sound-keeps items stored sound in
    probe_fits _ attributes (keeps.1.probes place name attributes found)

-- the attribute named `probe` is a probe's
probe_attribute-kind : attribute_named owner.Backend (codes "probe") ≡ Some attribute_kind.Probe
unfolding attribute_named
probe_attribute-kind = refl

pub nested-fit : NestedFit
nested-fit items stored sound place name attributes found a b list at inside =
    let K : Known = known_in items stored in
    let names : List (List ℕ) = map attribute_name attributes in
    let nested : Phrase = phrase.Node phrase.Nested b list in
    let probe : Phrase = phrase.Node phrase.Attribute a (phrase.Node phrase.Bound (phrase.Named at (codes "probe")) nested) in
    let keeps = sound-keeps items stored sound in
    let each : Faultless (backend_member K names) 0 attributes = each_faultless (backend_member K names) 0 (hostless names name) attributes (keeps.1.backends place name attributes found) in
    let one : (j : ℕ) × (backend_member K names j probe ≡ None) = one_faultless (backend_member K names) attributes probe inside each in
    let own : backend_attribute K probe ≡ None = (neither (backend_attribute K probe) (twice_attribute names one.0 probe) one.1).0 in
    probe_fits K (parts list) (sym (ap (λ (k : Option AttributeKind). of_backend_kind K k at nested) probe_attribute-kind) ∙ own)
