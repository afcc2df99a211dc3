-- The plain function gives the first of the faults that the parts of a block have by themselves.
use Rattle.std.proofs.Common.{◌≡◌, ℕ, List, ◌⊎◌, inl, inr, refl, sym, ap, ◌∙◌, subst, Option, Some, None}
use Rattle.vcl_language.specs.declared.scope.Subroutine.{Subroutine}
use Rattle.vcl_tree.specs.Phrase as phrase
use Rattle.vcl_tree.specs.Phrase.{Phrase, Label}
use Rattle.vcl_tree.specs.declared.error.Fault.{Fault}
use Rattle.vcl_tree.specs.declared.error.Refusal.TheVariants as refusal
use Rattle.vcl_check.specs.declared.form.Use.{Use}
use Rattle.vcl_check.specs.declared.form.Form.{Form}
use Rattle.vcl_check.specs.declared.seen.Seen.{Seen}
use Rattle.vcl_check.specs.declared.seen.Told.{Told}
use Rattle.vcl_symbols.specs.Known.{Known}
use Rattle.vcl_check.specs.Roles.{Role, use_in, left_role, right_role, form_of}
use Rattle.vcl_check.specs.Views.{view_of, named_seen, seen_together}
use Rattle.vcl_check.specs.Rules.{misfit, misplaced, unwritten_in}
use Rattle.vcl_check.specs.Least.{lesser, fault_at, told_name, told_use, tied, told_of, own_fault}
use Rattle.vcl_check.specs.Faults.{Wrong, FaultIn, IsLeastOf, unknown_use, misused_use}
use Rattle.vcl_check.proofs.LeastLemmas.{least-along, least-option, least-either}

told_name-seen : (known : Known) (roots : List Subroutine) (o : Option Use) (place : ℕ) (name : List ℕ) → (told_use known roots o place name).seen ≡ named_seen known o place name
unfolding told_name
told_name-seen known roots None place name = refl
told_name-seen known roots (Some u) place name = refl

tied-seen : (roots : List Subroutine) (form : Form) (a b : Told) → (tied roots form a b).seen ≡ seen_together form a.seen b.seen
unfolding tied
tied-seen roots form a b = refl

pub same-seen : (known : Known) (roots : List Subroutine) (role : Role) (p : Phrase) → (told_of known roots role p).seen ≡ view_of known role p
same-seen known roots role phrase.Nothing = refl
same-seen known roots role (phrase.At place) = refl
same-seen known roots role (phrase.Named place name) = told_name-seen known roots (use_in role) place name
same-seen known roots role (phrase.String place text) = refl
same-seen known roots role (phrase.Weight place digits) = refl
same-seen known roots role (phrase.Integer place n) = refl
same-seen known roots role (phrase.Duration place n) = refl
same-seen known roots role (phrase.Node label a b) =
    let left = same-seen known roots (left_role role label) a in
    let right = same-seen known roots (right_role role label) b in
    tied-seen roots (form_of role label) (told_of known roots (left_role role label) a) (told_of known roots (right_role role label) b)
    ∙ ap (λ (s : Seen). seen_together (form_of role label) s ((told_of known roots (right_role role label) b).seen)) left
    ∙ ap (λ (s : Seen). seen_together (form_of role label) (view_of known (left_role role label) a) s) right

some-none : (f : Fault) → None ≡ Some f → ⊥
some-none f e = cc

-- what two parts have by themselves, as three faults
abbrev Own : List Subroutine → Form → Seen → Seen → Fault → Type 0
Own roots form a b f =
    (fault_at refusal.Kind (misfit roots form a b) ≡ Some f)
    ⊎ ((fault_at refusal.NotHere (misplaced roots form a b) ≡ Some f) ⊎ (fault_at refusal.Pattern (unwritten_in form a b) ≡ Some f))

least-own : (roots : List Subroutine) (form : Form) (a b : Seen) → IsLeastOf (Own roots form a b) (own_fault roots form a b)
least-own roots form a b =
    let misfit' = fault_at refusal.Kind (misfit roots form a b) in
    let misplaced' = fault_at refusal.NotHere (misplaced roots form a b) in
    let unwritten' = fault_at refusal.Pattern (unwritten_in form a b) in
    least-either (λ f. misfit' ≡ Some f) (λ f. (misplaced' ≡ Some f) ⊎ (unwritten' ≡ Some f)) misfit' (lesser misplaced' unwritten')
    (least-option misfit')
    (least-either (λ f. misplaced' ≡ Some f) (λ f. unwritten' ≡ Some f) misplaced' unwritten' (least-option misplaced') (least-option unwritten'))

-- what a name has by itself
abbrev OfName : Known → List Subroutine → Option Use → ℕ → List ℕ → Fault → Type 0
OfName known roots o place name f =
    (fault_at refusal.Unknown (unknown_use known o place name) ≡ Some f) ⊎ (fault_at refusal.NotHere (misused_use known roots o place name) ≡ Some f)

least-name : (known : Known) (roots : List Subroutine) (o : Option Use) (place : ℕ) (name : List ℕ) → IsLeastOf (OfName known roots o place name) ((told_use known roots o place name).least)
unfolding told_name
least-name known roots None place name = λ f s. elim s [ inl e ↦ some-none f e | inr e ↦ some-none f e ]
least-name known roots (Some u) place name =
    let unknown' = fault_at refusal.Unknown (unknown_use known (Some u) place name) in
    let misused' = fault_at refusal.NotHere (misused_use known roots (Some u) place name) in
    least-either (λ f. unknown' ≡ Some f) (λ f. misused' ≡ Some f) unknown' misused' (least-option unknown') (least-option misused')

wrong-name : (known : Known) (roots : List Subroutine) (role : Role) (place : ℕ) (name : List ℕ) (f : Fault) → Wrong known roots role (phrase.Named place name) f → OfName known roots (use_in role) place name f
wrong-name known roots role place name f w =
    elim w [ inl e ↦ inl e | inr w ↦ elim w [ inl e ↦ absurd (some-none f e) | inr w ↦ elim w [ inl e ↦ inr e | inr w ↦ elim w [ inl e ↦ absurd (some-none f e) | inr e ↦ absurd (some-none f e) ] ] ] ]

name-wrong : (known : Known) (roots : List Subroutine) (role : Role) (place : ℕ) (name : List ℕ) (f : Fault) → OfName known roots (use_in role) place name f → Wrong known roots role (phrase.Named place name) f
name-wrong known roots role place name f s = elim s [ inl e ↦ inl e | inr e ↦ inr (inr (inl e)) ]

wrong-node : (known : Known) (roots : List Subroutine) (role : Role) (label : Label) (a b : Phrase) (f : Fault) → Wrong known roots role (phrase.Node label a b) f
    → Own roots (form_of role label) (view_of known (left_role role label) a) (view_of known (right_role role label) b) f
wrong-node known roots role label a b f w =
    elim w [ inl e ↦ absurd (some-none f e) | inr w ↦ elim w [ inl e ↦ inl e | inr w ↦ elim w [ inl e ↦ absurd (some-none f e) | inr w ↦ inr w ] ] ]

node-wrong : (known : Known) (roots : List Subroutine) (role : Role) (label : Label) (a b : Phrase) (f : Fault)
    → Own roots (form_of role label) (view_of known (left_role role label) a) (view_of known (right_role role label) b) f → Wrong known roots role (phrase.Node label a b) f
node-wrong known roots role label a b f s = elim s [ inl e ↦ inr (inl e) | inr s ↦ inr (inr (inr s)) ]

-- a part that is the whole has its faults
wrong-whole : (known : Known) (roots : List Subroutine) (r role : Role) (part whole : Phrase) (f : Fault) → r ≡ role → part ≡ whole → Wrong known roots r part f → Wrong known roots role whole f
wrong-whole known roots r role part whole f er ep w =
    let P : Role → Type 0 = λ r'. Wrong known roots r' whole f in
    let Q : Phrase → Type 0 = λ p. Wrong known roots r p f in
    subst P er (subst Q ep w)

-- a leaf without a rule
nothing-wrong : (f : Fault) → (None ≡ Some f) ⊎ ((None ≡ Some f) ⊎ ((None ≡ Some f) ⊎ ((None ≡ Some f) ⊎ (None ≡ Some f)))) → ⊥
nothing-wrong f w =
    elim w [ inl e ↦ some-none f e | inr w ↦ elim w [ inl e ↦ some-none f e | inr w ↦ elim w [ inl e ↦ some-none f e | inr w ↦ elim w [ inl e ↦ some-none f e | inr e ↦ some-none f e ] ] ] ]

abbrev TwoParts : Known → List Subroutine → Role → Label → Phrase → Phrase → Fault → Type 0
TwoParts known roots role label a b f =
    (FaultIn known roots (left_role role label) a f ⊎ FaultIn known roots (right_role role label) b f)
    ⊎ Own roots (form_of role label) (view_of known (left_role role label) a) (view_of known (right_role role label) b) f

parts-in : (known : Known) (roots : List Subroutine) (role : Role) (label : Label) (a b : Phrase) (f : Fault) → TwoParts known roots role label a b f → FaultIn known roots role (phrase.Node label a b) f
parts-in known roots role label a b f s =
    elim s [
      | inl s ↦ elim s [ inl h ↦ (h.0, h.1, inr (inl h.2), h.3) | inr h ↦ (h.0, h.1, inr (inr h.2), h.3) ]
      | inr own ↦ (role, phrase.Node label a b, inl (refl, refl), node-wrong known roots role label a b f own)
    ]

in-parts : (known : Known) (roots : List Subroutine) (role : Role) (label : Label) (a b : Phrase) (f : Fault) → FaultIn known roots role (phrase.Node label a b) f → TwoParts known roots role label a b f
in-parts known roots role label a b f h =
    let w : Wrong known roots h.0 h.1 f = h.3 in
    elim h.2 [
      | inl same ↦ inr (wrong-node known roots role label a b f (wrong-whole known roots h.0 role h.1 (phrase.Node label a b) f same.0 same.1 w))
      | inr s ↦ elim s [ inl within ↦ inl (inl (h.0, h.1, within, w)) | inr within ↦ inl (inr (h.0, h.1, within, w)) ]
    ]

tied-least : (roots : List Subroutine) (form : Form) (a b : Told) → (tied roots form a b).least ≡ lesser (lesser a.least b.least) (own_fault roots form a.seen b.seen)
unfolding tied
tied-least roots form a b = refl

pub least-in : (known : Known) (roots : List Subroutine) (role : Role) (p : Phrase) → IsLeastOf (FaultIn known roots role p) ((told_of known roots role p).least)
least-in known roots role phrase.Nothing = λ f h. nothing-wrong f (wrong-whole known roots h.0 role h.1 phrase.Nothing f h.2.0 h.2.1 h.3)
least-in known roots role (phrase.At place) = λ f h. nothing-wrong f (wrong-whole known roots h.0 role h.1 (phrase.At place) f h.2.0 h.2.1 h.3)
least-in known roots role (phrase.Named place name) =
    least-along (OfName known roots (use_in role) place name) (FaultIn known roots role (phrase.Named place name)) ((told_use known roots (use_in role) place name).least)
    (λ f s. (role, phrase.Named place name, (refl, refl), name-wrong known roots role place name f s))
    (λ f h. wrong-name known roots role place name f (wrong-whole known roots h.0 role h.1 (phrase.Named place name) f h.2.0 h.2.1 h.3))
    (least-name known roots (use_in role) place name)
least-in known roots role (phrase.String place text) = λ f h. nothing-wrong f (wrong-whole known roots h.0 role h.1 (phrase.String place text) f h.2.0 h.2.1 h.3)
least-in known roots role (phrase.Weight place digits) = λ f h. nothing-wrong f (wrong-whole known roots h.0 role h.1 (phrase.Weight place digits) f h.2.0 h.2.1 h.3)
least-in known roots role (phrase.Integer place n) = λ f h. nothing-wrong f (wrong-whole known roots h.0 role h.1 (phrase.Integer place n) f h.2.0 h.2.1 h.3)
least-in known roots role (phrase.Duration place n) = λ f h. nothing-wrong f (wrong-whole known roots h.0 role h.1 (phrase.Duration place n) f h.2.0 h.2.1 h.3)
least-in known roots role (phrase.Node label a b) =
    let left = left_role role label in
    let right = right_role role label in
    let A = told_of known roots left a in
    let B = told_of known roots right b in
    let own = own_fault roots (form_of role label) (view_of known left a) (view_of known right b) in
    let owns = Own roots (form_of role label) (view_of known left a) (view_of known right b) in
    let ea : A.seen ≡ view_of known left a = same-seen known roots left a in
    let eb : B.seen ≡ view_of known right b = same-seen known roots right b in
    let eq : (tied roots (form_of role label) A B).least ≡ lesser (lesser A.least B.least) own =
    tied-least roots (form_of role label) A B ∙ ap (λ (s : Seen). lesser (lesser A.least B.least) (own_fault roots (form_of role label) s B.seen)) ea
    ∙ ap (λ (s : Seen). lesser (lesser A.least B.least) (own_fault roots (form_of role label) (view_of known left a) s)) eb in
    let P : Option Fault → Type 0 = λ o. IsLeastOf (FaultIn known roots role (phrase.Node label a b)) o in
    subst P (sym eq)
    (least-along (TwoParts known roots role label a b) (FaultIn known roots role (phrase.Node label a b)) (lesser (lesser A.least B.least) own)
    (parts-in known roots role label a b) (in-parts known roots role label a b)
    (least-either (λ f. FaultIn known roots left a f ⊎ FaultIn known roots right b f) owns (lesser A.least B.least) own
    (least-either (FaultIn known roots left a) (FaultIn known roots right b) A.least B.least (least-in known roots left a) (least-in known roots right b))
    (least-own roots (form_of role label) (view_of known left a) (view_of known right b))))
