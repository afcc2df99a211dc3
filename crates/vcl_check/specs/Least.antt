-- The first fault of a part, as a plain function.
use Rattle.std.specs.Prelude.{ℕ, List, Option, Some, None, if◌then◌else◌}
use Rattle.vcl_values.specs.declared.value.Kind.TheVariants as kind
use Rattle.vcl_language.specs.declared.scope.Subroutine.{Subroutine}
use Rattle.vcl_tree.specs.Phrase as phrase
use Rattle.vcl_tree.specs.Phrase.{Phrase}
use Rattle.vcl_tree.specs.Faults.{comes_before}
use Rattle.vcl_tree.specs.declared.error.Fault.{Fault}
use Rattle.vcl_tree.specs.declared.error.Refusal.{Refusal}
use Rattle.vcl_tree.specs.declared.error.Refusal.TheVariants as refusal
use Rattle.vcl_check.specs.declared.form.Use.{Use}
use Rattle.vcl_check.specs.declared.form.Form.{Form}
use Rattle.vcl_check.specs.declared.seen.Meaning.{Meaning}
use Rattle.vcl_check.specs.declared.seen.Literal.TheVariants as literal
use Rattle.vcl_check.specs.declared.seen.Seen.{Seen}
use Rattle.vcl_check.specs.declared.seen.Told.{Told}
use Rattle.vcl_check.specs.Calls.{unless}
use Rattle.vcl_symbols.specs.Known.{Known}
use Rattle.vcl_check.specs.Known.{meaning_of}
use Rattle.vcl_check.specs.Roles.{Role, use_in, left_role, right_role, form_of}
use Rattle.vcl_check.specs.Views.{at_place, written, name_seen, integer_weight, weight_seen, seen_together}
use Rattle.vcl_check.specs.Rules.{is_known, may_be_used, misfit, misplaced, unwritten_in}

-- a fault of a kind at a place, if there is one
abbrev pub fault_at : Refusal → Option ℕ → Option Fault
fault_at refusal None = None
fault_at refusal (Some p) = Some (record { place = p; kind = refusal })

-- the fault that is told first
abbrev pub lesser : Option Fault → Option Fault → Option Fault
lesser None b = b
lesser (Some a) None = Some a
lesser (Some a) (Some b) = if comes_before b a then Some b else Some a

-- a name that stands for nothing, or may not be used so in one of the subroutines from which it is reached
abbrev pub unknown_name : Meaning → ℕ → Option ℕ
unknown_name m place = unless (is_known m) place

abbrev pub misused_name : List Subroutine → Use → Meaning → ℕ → Option ℕ
misused_name roots u m place = unless (may_be_used roots u m) place

abbrev pub of_name : List Subroutine → Use → ℕ → Meaning → Told
of_name roots u place m =
    record { seen = name_seen place m; least = lesser (fault_at refusal.Unknown (unknown_name m place)) (fault_at refusal.NotHere (misused_name roots u m place)) }

unfoldable pub told_name : Known → List Subroutine → Use → ℕ → List ℕ → Told
told_name known roots u place name = of_name roots u place (meaning_of known u name)

abbrev pub faultless : Seen → Told
faultless s = record { seen = s; least = None }

abbrev pub told_use : Known → List Subroutine → Option Use → ℕ → List ℕ → Told
told_use known roots None place name = faultless (at_place place)
told_use known roots (Some u) place name = told_name known roots u place name

-- what is wrong with two parts together
abbrev pub own_fault : List Subroutine → Form → Seen → Seen → Option Fault
own_fault roots form a b =
    lesser (fault_at refusal.Kind (misfit roots form a b)) (
    lesser (fault_at refusal.NotHere (misplaced roots form a b)) (fault_at refusal.Pattern (unwritten_in form a b)))

unfoldable pub tied : List Subroutine → Form → Told → Told → Told
tied roots form a b = record {
  seen = seen_together form a.seen b.seen;
  least = lesser (lesser a.least b.least) (own_fault roots form a.seen b.seen);
}

-- what is seen of a part in a role, and its first fault
abbrev pub told_of : Known → List Subroutine → Role → Phrase → Told
told_of known roots role phrase.Nothing = faultless (at_place 0)
told_of known roots role (phrase.At place) = faultless (at_place place)
told_of known roots role (phrase.Named place name) = told_use known roots (use_in role) place name
told_of known roots role (phrase.String place text) = faultless (written kind.String literal.String place)
told_of known roots role (phrase.Weight place digits) = faultless (weight_seen place digits)
told_of known roots role (phrase.Integer place n) = faultless (written kind.Int (integer_weight n) place)
told_of known roots role (phrase.Duration place n) = faultless (written kind.Duration literal.Other place)
told_of known roots role (phrase.Node label a b) =
    tied roots (form_of role label) (told_of known roots (left_role role label) a) (told_of known roots (right_role role label) b)
