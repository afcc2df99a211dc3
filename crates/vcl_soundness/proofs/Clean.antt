-- Parts of a text that have no fault.
use Rattle.std.proofs.Common.{◌≡◌, inl, inr, ℕ, true, List, refl, sym, ◌∙◌, None}
use Rattle.vcl_tree.specs.Phrase.{Phrase, Label, Node, Named}
use Rattle.vcl_tree.specs.declared.error.Fault.{Fault}
use Rattle.vcl_tree.specs.declared.error.Refusal.TheVariants as refusal
use Rattle.vcl_language.specs.declared.scope.Subroutine.{Subroutine}
use Rattle.vcl_check.specs.declared.form.Use.{Use}
use Rattle.vcl_check.specs.Calls.{unless}
use Rattle.vcl_check.specs.Faults.{FaultIn, Wrong, unknown_in, misused_in}
use Rattle.vcl_symbols.specs.Known.{Known}
use Rattle.vcl_check.specs.Known.{meaning_of}
use Rattle.vcl_check.specs.Roles.{Role, left_role, right_role, form_of}
use Rattle.vcl_check.specs.Rules.{is_known, misfit, misplaced, unwritten_in}
use Rattle.vcl_check.specs.Views.{view_of}
use Rattle.vcl_soundness.proofs.NoFault.{unless-none, at-none}

-- no part of it has a fault
abbrev pub Clean : Known → List Subroutine → Role → Phrase → Type 0
Clean known roots role part = (f : Fault) → FaultIn known roots role part f → ⊥

module _ (known : Known) (roots : List Subroutine) where
  pub left-clean : (role : Role) (label : Label) (a b : Phrase) → Clean known roots role (Node label a b) → Clean known roots (left_role role label) a
  left-clean role label a b h f x = h f (x.0, x.1, inr (inl x.2), x.3)

  pub right-clean : (role : Role) (label : Label) (a b : Phrase) → Clean known roots role (Node label a b) → Clean known roots (right_role role label) b
  right-clean role label a b h f x = h f (x.0, x.1, inr (inr x.2), x.3)

  whole-clean : (role : Role) (label : Label) (a b : Phrase) → Clean known roots role (Node label a b) → (f : Fault) → Wrong known roots role (Node label a b) f → ⊥
  whole-clean role label a b h f w = h f (role, Node label a b, inl (refl, refl), w)

  pub fits : (role : Role) (label : Label) (a b : Phrase) → Clean known roots role (Node label a b)
      → misfit roots (form_of role label) (view_of known (left_role role label) a) (view_of known (right_role role label) b) ≡ None
  fits role label a b h = at-none refusal.Kind _ (λ f e. whole-clean role label a b h f (inr (inl e)))

  pub placed : (role : Role) (label : Label) (a b : Phrase) → Clean known roots role (Node label a b)
      → misplaced roots (form_of role label) (view_of known (left_role role label) a) (view_of known (right_role role label) b) ≡ None
  placed role label a b h = at-none refusal.NotHere _ (λ f e. whole-clean role label a b h f (inr (inr (inr (inl e)))))

  pub written : (role : Role) (label : Label) (a b : Phrase) → Clean known roots role (Node label a b)
      → unwritten_in (form_of role label) (view_of known (left_role role label) a) (view_of known (right_role role label) b) ≡ None
  written role label a b h = at-none refusal.Pattern _ (λ f e. whole-clean role label a b h f (inr (inr (inr (inr e)))))

  pub known-name : (role : Role) (u : Use) (place : ℕ) (name : List ℕ) → unknown_in known role (Named place name) ≡ unless (is_known (meaning_of known u name)) place
      → Clean known roots role (Named place name) → is_known (meaning_of known u name) ≡ true
  known-name role u place name e h =
      unless-none (is_known (meaning_of known u name)) place (sym e ∙ at-none refusal.Unknown _ (λ f w. h f (role, Named place name, (refl, refl), inl w)))

  pub used-name : (role : Role) (place : ℕ) (name : List ℕ) → Clean known roots role (Named place name) → misused_in known roots role (Named place name) ≡ None
  used-name role place name h = at-none refusal.NotHere _ (λ f w. h f (role, Named place name, (refl, refl), inr (inr (inl w))))
