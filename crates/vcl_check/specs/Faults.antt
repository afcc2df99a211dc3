-- Faults of the parts of a block: a fault is one that some part has by itself.
use Rattle.std.specs.Prelude.{ℕ, ◌≡◌, ◌⊎◌, false, List, Option, Some, None}
use Rattle.vcl_language.specs.declared.scope.Subroutine.{Subroutine}
use Rattle.vcl_tree.specs.Phrase as phrase
use Rattle.vcl_tree.specs.Phrase.{Phrase}
use Rattle.vcl_tree.specs.Faults.{comes_before}
use Rattle.vcl_tree.specs.declared.error.Fault.{Fault}
use Rattle.vcl_tree.specs.declared.error.Refusal.TheVariants as refusal
use Rattle.vcl_check.specs.declared.form.Use.{Use}
use Rattle.vcl_symbols.specs.Known.{Known}
use Rattle.vcl_check.specs.Known.{meaning_of}
use Rattle.vcl_check.specs.Roles.{Role, use_in, left_role, right_role, form_of}
use Rattle.vcl_check.specs.Views.{view_of}
use Rattle.vcl_check.specs.Rules.{misfit, misplaced, unwritten_in}
use Rattle.vcl_check.specs.Least.{fault_at, unknown_name, misused_name}

-- the part in its role is one of the whole in its role
abbrev pub Within : Role → Phrase → Role → Phrase → Type 0
Within r part role (phrase.Node label a b) =
    ((r ≡ role) × (part ≡ phrase.Node label a b)) ⊎ (Within r part (left_role role label) a ⊎ Within r part (right_role role label) b)
Within r part role whole = (r ≡ role) × (part ≡ whole)

abbrev pub unknown_use : Known → Option Use → ℕ → List ℕ → Option ℕ
unknown_use known None place name = None
unknown_use known (Some u) place name = unknown_name (meaning_of known u name) place

-- a name that is used and isn't known
abbrev pub unknown_in : Known → Role → Phrase → Option ℕ
unknown_in known role (phrase.Named place name) = unknown_use known (use_in role) place name
unknown_in known role _ = None

-- parts that don't fit
abbrev pub misfit_in : Known → List Subroutine → Role → Phrase → Option ℕ
misfit_in known roots role (phrase.Node label a b) =
    misfit roots (form_of role label) (view_of known (left_role role label) a) (view_of known (right_role role label) b)
misfit_in known roots role _ = None

abbrev pub misused_use : Known → List Subroutine → Option Use → ℕ → List ℕ → Option ℕ
misused_use known roots None place name = None
misused_use known roots (Some u) place name = misused_name roots u (meaning_of known u name) place

-- a name that may not be used so there
abbrev pub misused_in : Known → List Subroutine → Role → Phrase → Option ℕ
misused_in known roots role (phrase.Named place name) = misused_use known roots (use_in role) place name
misused_in known roots role _ = None

-- a statement that may not stand there
abbrev pub misplaced_in : Known → List Subroutine → Role → Phrase → Option ℕ
misplaced_in known roots role (phrase.Node label a b) =
    misplaced roots (form_of role label) (view_of known (left_role role label) a) (view_of known (right_role role label) b)
misplaced_in known roots role _ = None

-- what must be one string and isn't
abbrev pub unwritten_part : Known → Role → Phrase → Option ℕ
unwritten_part known role (phrase.Node label a b) =
    unwritten_in (form_of role label) (view_of known (left_role role label) a) (view_of known (right_role role label) b)
unwritten_part known role _ = None

-- what is wrong with a part by itself
abbrev pub Wrong : Known → List Subroutine → Role → Phrase → Fault → Type 0
Wrong known roots role part f =
    (fault_at refusal.Unknown (unknown_in known role part) ≡ Some f)
    ⊎ ((fault_at refusal.Kind (misfit_in known roots role part) ≡ Some f)
    ⊎ ((fault_at refusal.NotHere (misused_in known roots role part) ≡ Some f)
    ⊎ ((fault_at refusal.NotHere (misplaced_in known roots role part) ≡ Some f)
    ⊎ (fault_at refusal.Pattern (unwritten_part known role part) ≡ Some f))))

-- a fault of a whole: some part of it has it
abbrev pub FaultIn : Known → List Subroutine → Role → Phrase → Fault → Type 0
FaultIn known roots role whole f = (r : Role) × (part : Phrase) × Within r part role whole × Wrong known roots r part f

-- the first of the faults, or none where there is none
abbrev pub IsLeastOf : (Fault → Type 0) → Option Fault → Type 0
IsLeastOf P None = (f : Fault) → P f → ⊥
IsLeastOf P (Some least) = P least × ((f : Fault) → P f → comes_before f least ≡ false)
