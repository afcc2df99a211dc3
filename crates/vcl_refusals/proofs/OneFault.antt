-- A text has one first fault where none of its patterns nests too deep.
use Rattle.std.proofs.Common.{◌≡◌, inl, inr, ℕ, ◌+◌, zero, suc, ◌<◌, Bool, true, false, List, [], ◌∷◌, length, Option, Some, None, refl, sym, ◌∙◌, ap, subst, if◌then◌else◌, slice_index_or, ◌||◌, ◌&&◌, ◌==◌, nat_lt, arith}
use Rattle.std.specs.Prelude.{Contains}
use Rattle.std.proofs.lemmas.Bool.Decides.{nat_tests}
use Rattle.vcl_values.specs.Readings.{NestsTooDeep}
use Rattle.vcl_tree.specs.Faults.{comes_before}
use Rattle.vcl_tree.specs.Numbers.{number_of}
use Rattle.vcl_tree.specs.declared.error.Fault.{Fault}
use Rattle.vcl_tree.specs.declared.error.Refusal.{Refusal}
use Rattle.vcl_tree.specs.declared.error.Refusal.TheVariants as refusal
use Rattle.vcl_tree.specs.declared.error.VclError.TheVariants.{Refused}
use Rattle.vcl_tree.specs.declared.item.Item.{Item}
use Rattle.vcl_tree.specs.declared.item.Item.TheVariants as item
use Rattle.vcl_language.specs.declared.scope.Subroutine.{Subroutine}
use Rattle.vmod_host.specs.declared.signature.Stored.{Stored}
use Rattle.vcl_symbols.specs.Known.{Known}
use Rattle.vcl_check.specs.Declarations.{known_of}
use Rattle.vcl_check.specs.Faults.{FaultIn, IsLeastOf}
use Rattle.vcl_check.specs.Folded.{AnyOf}
use Rattle.vcl_check.specs.Reaching.{numbered_names, roots_of}
use Rattle.vcl_check.specs.Roles.{Block}
use Rattle.vcl_check.specs.Texts.{AnyFault, AreRefused, calls_in, has_backend, IsFirstFault, IsRefused, IsSound, ItemFault, MayRefuse, MustRefuse, refused_at, says}
use Rattle.vcl_check.proofs.LeastLemmas.{least-along}
use Rattle.vcl_refusals.specs.Outcomes.{HasNoDeepPattern}
use Rattle.vcl_refusals.proofs.Rows.{roots-alike}

-- two faults of which neither comes before the other are one
abbrev before : ℕ → ℕ → ℕ → ℕ → Bool
before p k q l = nat_lt p q || (p == q && nat_lt k l)

same-place : (p k q l : ℕ) → before p k q l ≡ false → before q l p k ≡ false → p ≡ q
same-place p k q l h e = grind (arith, nat_tests)

same-number : (p k q l : ℕ) → before p k q l ≡ false → before q l p k ≡ false → k ≡ l
same-number p k q l h e = grind (arith, nat_tests)

-- the refusal that is shown by a number
abbrev refusal-at : ℕ → Refusal
refusal-at n =
    if n == 1 then refusal.Token else
    if n == 2 then refusal.Syntax else
    if n == 3 then refusal.Version else
    if n == 4 then refusal.TooDeep else
    if n == 5 then refusal.Unknown else
    if n == 6 then refusal.Twice else
    if n == 7 then refusal.Kind else
    if n == 8 then refusal.NotHere else
    if n == 9 then refusal.Recursion else
    if n == 10 then refusal.Pattern else
    if n == 11 then refusal.NoBackend else refusal.TooLong

refusal-back : (r : Refusal) → refusal-at (number_of r) ≡ r
refusal-back refusal.Token = refl
refusal-back refusal.Syntax = refl
refusal-back refusal.Version = refl
refusal-back refusal.TooDeep = refl
refusal-back refusal.Unknown = refl
refusal-back refusal.Twice = refl
refusal-back refusal.Kind = refl
refusal-back refusal.NotHere = refl
refusal-back refusal.Recursion = refl
refusal-back refusal.Pattern = refl
refusal-back refusal.NoBackend = refl
refusal-back refusal.TooLong = refl

same-kind : (r s : Refusal) → number_of r ≡ number_of s → r ≡ s
same-kind r s h = sym (refusal-back r) ∙ (ap (λ (n : ℕ). refusal-at n) h ∙ refusal-back s)

same-fault : (f g : Fault) → comes_before f g ≡ false → comes_before g f ≡ false → f ≡ g
same-fault f g h e =
    let place : f.place ≡ g.place = same-place f.place (number_of f.kind) g.place (number_of g.kind) h e in
    let kind : f.kind ≡ g.kind = same-kind f.kind g.kind (same-number f.place (number_of f.kind) g.place (number_of g.kind) h e) in
    let of : ℕ → Refusal → Fault = λ p k. record { place = p; kind = k } in
    ap (λ (p : ℕ). of p f.kind) place ∙ ap (λ (k : Refusal). of g.place k) kind

least-one : (P : Fault → Type 0) (a b : Option Fault) → IsLeastOf P a → IsLeastOf P b → b ≡ a
least-one P None None h k = refl
least-one P None (Some y) h k = absurd (h y k.0)
least-one P (Some x) None h k = absurd (k x h.0)
least-one P (Some x) (Some y) h k = ap Some (same-fault y x (h.1 y k.0) (k.1 x h.0))

-- an item among several has a fault with these roots, and with others that are the same
item-alike : (known : Known) (numbers : List (List ℕ)) (rows others : List (List Bool)) → ((name : List ℕ) → roots_of numbers others name ≡ roots_of numbers rows name)
    → (k : ℕ) (i : Item) (f : Fault) → ItemFault known numbers rows k i f → ItemFault known numbers others k i f
item-alike known numbers rows others same k (item.Import place name) f h = h
item-alike known numbers rows others same k (item.NoBackend place name) f h = h
item-alike known numbers rows others same k (item.Backend place name attributes) f h = h
item-alike known numbers rows others same k (item.Probe place name attributes) f h = h
item-alike known numbers rows others same k (item.Acl place name entries) f h = h
item-alike known numbers rows others same k (item.Sub place name block) f h =
    subst (λ (roots : List Subroutine). FaultIn known roots Block block f) (sym (same name.text)) h

any-alike : {A : Type 0} (P Q : ℕ → A → Fault → Type 0) (f : Fault) → ((k : ℕ) (x : A) → P k x f → Q k x f) → (k : ℕ) (xs : List A) → AnyOf P k xs f → AnyOf Q k xs f
any-alike P Q f there k [] h = h
any-alike P Q f there k (x ∷ xs) (inl h) = inl (there k x h)
any-alike P Q f there k (x ∷ xs) (inr h) = inr (any-alike P Q f there (k + 1) xs h)

-- what one of several has, and that it is among them
any-found : (f : Fault) (k : ℕ) (places : List ℕ) → AnyOf (λ j place g. refused_at j place ≡ Some g) k places f → (p : ℕ) × Contains places p × (refused_at 0 p ≡ Some f)
any-found f k [] h = absurd h
any-found f k (p ∷ ps) (inl h) = (p, (0, omega arith, refl), h)
any-found f k (p ∷ ps) (inr h) = let x = any-found f (k + 1) ps h in (x.0, (suc x.1.0, omega (arith, x.1.1), x.1.2), x.2)

any-at : (f : Fault) (k i : ℕ) (p : ℕ) (places : List ℕ) → i < length places → slice_index_or places i p ≡ p → refused_at 0 p ≡ Some f
    → AnyOf (λ j place g. refused_at j place ≡ Some g) k places f
any-at f k i p [] l e h = absurd (omega arith)
any-at f k zero p (q ∷ ps) l e h = inl (subst (λ (z : ℕ). refused_at k z ≡ Some f) (sym e) h)
any-at f k (suc i) p (q ∷ ps) l e h = inr (any-at f (k + 1) i p ps (omega arith) e h)

must-refuse : (name : List ℕ) → (NestsTooDeep name → ⊥) → MayRefuse name → MustRefuse name
must-refuse name shallow (inl long) = inl long
must-refuse name shallow (inr (inl none)) = inr none
must-refuse name shallow (inr (inr deep)) = absurd (shallow deep)

-- the places of refused patterns are one set
places-alike : (items : List Item) → HasNoDeepPattern items → (places others : List ℕ) → AreRefused (says items) places → AreRefused (says items) others
    → (f : Fault) → AnyOf (λ j place g. refused_at j place ≡ Some g) 0 places f → AnyOf (λ j place g. refused_at j place ≡ Some g) 0 others f
places-alike items shallow places others p q f h =
    let found = any-found f 0 places h in
    let said = p.only found.0 found.1 in
    let must : MustRefuse said.0.name = must-refuse said.0.name (shallow said.0 said.1 said.2) said.4 in
    let there : Contains others found.0 = subst (λ (z : ℕ). Contains others z) said.3 (q.each said.0 said.1 said.2 must) in
    any-at f 0 there.0 found.0 others there.1 there.2 found.2

fault-alike : (items : List Item) (stored : List Stored) → HasNoDeepPattern items → (rows others : List (List Bool)) (places elsewhere : List ℕ)
    → ((name : List ℕ) → roots_of (numbered_names (known_of (says items) stored).names) others name ≡ roots_of (numbered_names (known_of (says items) stored).names) rows name)
    → AreRefused (says items) places → AreRefused (says items) elsewhere
    → (f : Fault) → AnyFault items stored rows places f → AnyFault items stored others elsewhere f
fault-alike items stored shallow rows others places elsewhere same p q f (inl h) = inl h
fault-alike items stored shallow rows others places elsewhere same p q f (inr (inl h)) = inr (inl h)
fault-alike items stored shallow rows others places elsewhere same p q f (inr (inr (inl h))) =
    let known : Known = known_of (says items) stored in
    let numbers : List (List ℕ) = numbered_names known.names in
    inr (inr (inl (any-alike (ItemFault known numbers rows) (ItemFault known numbers others) f (λ k i g. item-alike known numbers rows others same k i f g) 0 items h)))
fault-alike items stored shallow rows others places elsewhere same p q f (inr (inr (inr (inl h)))) = inr (inr (inr (inl h)))
fault-alike items stored shallow rows others places elsewhere same p q f (inr (inr (inr (inr h)))) =
    inr (inr (inr (inr (places-alike items shallow places elsewhere p q f h))))

first-one : (items : List Item) (stored : List Stored) → HasNoDeepPattern items → (a b : Option Fault) → IsFirstFault items stored a → IsFirstFault items stored b → b ≡ a
first-one items stored shallow a b p q =
    let numbers : List (List ℕ) = numbered_names (known_of (says items) stored).names in
    let same : (name : List ℕ) → roots_of numbers q.rows name ≡ roots_of numbers p.rows name =
    roots-alike (calls_in items stored) p.rows q.rows (q.thirteen ∙ sym p.thirteen) p.reached q.reached numbers in
    least-one (AnyFault items stored p.rows p.places) a b p.first
    (least-along (AnyFault items stored q.rows q.places) (AnyFault items stored p.rows p.places) b
    (λ f h. fault-alike items stored shallow q.rows p.rows q.places p.places (λ name. sym (same name)) q.refused p.refused f h)
    (λ f h. fault-alike items stored shallow p.rows q.rows p.places q.places same p.refused q.refused f h) q.first)

-- a refusal as its cause and its place
abbrev pub IsOne : Refusal → ℕ → Refusal → ℕ → Type 0
IsOne why place other elsewhere = (other ≡ why) × (elsewhere ≡ place)

abbrev at : ℕ → Refusal → Fault
at place kind = record { place = place; kind = kind }

of-fault : (why other : Refusal) (place elsewhere : ℕ) → Some (at elsewhere other) ≡ Some (at place why) → IsOne why place other elsewhere
of-fault why other place elsewhere e =
    let same : at elsewhere other ≡ at place why = cc in
    (ap (λ (f : Fault). f.kind) same, ap (λ (f : Fault). f.place) same)

some-none : (f : Fault) → Some f ≡ None → ⊥
some-none f e = cc

pub refused-one : (items : List Item) (stored : List Stored) → HasNoDeepPattern items → (why other : Refusal) (place elsewhere : ℕ)
    → IsRefused items stored (Refused why place) → IsRefused items stored (Refused other elsewhere) → IsOne why place other elsewhere
refused-one items stored shallow why other place elsewhere (inl p) (inl q) =
    of-fault why other place elsewhere (first-one items stored shallow (Some (at place why)) (Some (at elsewhere other)) p q)
refused-one items stored shallow why other place elsewhere (inl p) (inr q) =
    absurd (some-none (at place why) (first-one items stored shallow None (Some (at place why)) q.0 p))
refused-one items stored shallow why other place elsewhere (inr p) (inl q) =
    absurd (some-none (at elsewhere other) (first-one items stored shallow None (Some (at elsewhere other)) p.0 q))
refused-one items stored shallow why other place elsewhere (inr p) (inr q) = (q.2 ∙ sym p.2, q.3 ∙ sym p.3)

true-false : (b : Bool) → b ≡ true → b ≡ false → ⊥
true-false b h k = cc

pub sound-or-refused : (items : List Item) (stored : List Stored) → HasNoDeepPattern items → (why : Refusal) (place : ℕ) → IsSound items stored → IsRefused items stored (Refused why place) → ⊥
sound-or-refused items stored shallow why place sound (inl p) =
    some-none (at place why) (first-one items stored shallow None (Some (at place why)) sound.faultless p)
sound-or-refused items stored shallow why place sound (inr p) = true-false (has_backend items) sound.backend p.1
