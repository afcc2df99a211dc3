-- What is wrong with a part by itself: the place of the fault, if there is one.
use Rattle.std.specs.Prelude.{ℕ, Bool, true, false, not, ◌&&◌, ◌||◌, List, [], ◌∷◌, Option, Some, None, if◌then◌else◌}
use Rattle.std.specs.List.{list_all, list_any}
use Rattle.vcl_values.specs.declared.value.Kind.TheVariants as kind
use Rattle.vcl_tree.specs.declared.expression.Comparison.TheVariants as comparison
use Rattle.vcl_language.specs.Scopes.{has}
use Rattle.vcl_language.specs.declared.scope.Scope.{Scope}
use Rattle.vcl_language.specs.declared.scope.Scope.TheVariants as scope
use Rattle.vcl_language.specs.declared.scope.Subroutine.{Subroutine}
use Rattle.vcl_language.specs.declared.words.Word.{Word}
use Rattle.vcl_language.specs.Functions.{one}
use Rattle.vcl_language.specs.declared.functions.Slot.{Slot}
use Rattle.vcl_language.specs.declared.functions.Parameter.TheVariants.{Value}
use Rattle.vcl_check.specs.declared.form.Use.{Use}
use Rattle.vcl_check.specs.declared.form.Use.TheVariants as use'
use Rattle.vcl_check.specs.declared.form.Form.{Form}
use Rattle.vcl_check.specs.declared.form.Form.TheVariants as form
use Rattle.vcl_check.specs.declared.seen.Meaning.{Meaning}
use Rattle.vcl_check.specs.declared.seen.Meaning.TheVariants as meaning
use Rattle.vcl_check.specs.declared.seen.Argument.{Argument}
use Rattle.vcl_check.specs.declared.seen.Seen.{Seen}
use Rattle.vcl_check.specs.Kinds.{is_value, is_condition, is_ordered, alike, may_add, accepts, is_ip, is_acl, is_searched, is_text}
use Rattle.vcl_check.specs.Calls.{unless, is_string, ill_called, leftmost_unwritten}

-- the name stands for nothing that it could be used for
abbrev pub is_known : Meaning → Bool
is_known meaning.Unknown = false
is_known _ = true

-- what a name stands for may be used so in a subroutine
abbrev pub may_use : Use → Meaning → Subroutine → Bool
may_use use'.Read (meaning.Variable v) s = has v.read s
may_use use'.Set (meaning.Variable v) s = has v.set s
may_use use'.Append (meaning.Variable v) s = has v.append s
may_use use'.Unset (meaning.Variable v) s = has v.unset s
may_use use'.Function (meaning.Function f) s = has f.scope s
may_use use'.Word (meaning.Word w) s = has w.scope s || has w.timed s
may_use _ _ s = true

-- something leads to the subroutine
abbrev pub is_reached : List Subroutine → Bool
is_reached [] = false
is_reached (root ∷ roots) = true

-- what stands in vcl_init alone
abbrev pub is_init : Scope → Bool
is_init scope.Init = true
is_init _ = false

abbrev pub is_for_init : Use → Meaning → Bool
is_for_init use'.Function (meaning.Function f) = is_init f.scope
is_for_init _ _ = false

-- in each subroutine that leads there; what stands in vcl_init alone not where nothing does
abbrev pub may_be_used : List Subroutine → Use → Meaning → Bool
may_be_used roots u m = list_all (λ s. may_use u m s) roots && (is_reached roots || not (is_for_init u m))

-- the left operand fits by itself, and the right one beside it
abbrev pub both_fit : Bool → Bool → Seen → Seen → Option ℕ
both_fit left right a b = if left then unless right b.first else Some a.first

-- a function's or a word's arguments
abbrev pub ill_function : Meaning → List (Option Argument) → ℕ → Option ℕ
ill_function (meaning.Function f) given place = ill_called f.takes given place
ill_function _ given place = None

abbrev pub is_one : List (Option Argument) → Bool
is_one (Some a ∷ None ∷ more) = true
is_one _ = false

abbrev pub is_nowhere : Scope → Bool
is_nowhere scope.Nowhere = true
is_nowhere _ = false

-- the word is used with a DURATION, as it is in some subroutines
abbrev pub is_timed : Word → List (Option Argument) → Bool
is_timed w given = is_one given && not (is_nowhere w.timed)

abbrev pub answer_takes : Word → List (Option Argument) → List Slot
answer_takes w given = if is_timed w given then one (Value kind.Duration) else w.takes

-- where the word takes other arguments than it is used with
abbrev pub other_scope : Word → List (Option Argument) → Scope
other_scope w given = if is_timed w given then w.scope else w.timed

abbrev pub ill_answer : List Subroutine → Meaning → List (Option Argument) → ℕ → Option ℕ
ill_answer roots (meaning.Word w) given place =
    if list_any (λ s. has (other_scope w given) s) roots then Some place else ill_called (answer_takes w given) given place
ill_answer roots _ given place = None

-- what is set
abbrev pub ill_set : Meaning → Seen → Option ℕ
ill_set (meaning.Variable v) b = unless (accepts v.kind b.sort) b.second
ill_set _ b = None

-- only STRING may be added to
abbrev pub ill_appended : Meaning → Seen → Option ℕ
ill_appended (meaning.Variable v) b = unless (is_text v.kind && is_value b.sort) b.second
ill_appended _ b = None

-- a maker takes nothing
abbrev pub is_zero : List (Option Argument) → Bool
is_zero (None ∷ more) = true
is_zero _ = false

abbrev pub ill_made : Meaning → Seen → Option ℕ
ill_made (meaning.Maker kind) b = unless (is_zero b.arguments) b.first
ill_made _ b = None

-- two parts that don't fit: types and counts of arguments
abbrev pub misfit : List Subroutine → Form → Seen → Seen → Option ℕ
misfit roots form.Junction a b = both_fit (is_condition a.sort) (is_condition b.sort) a b
misfit roots (form.Compared comparison.Equal) a b = both_fit (is_value a.sort) (alike a.sort b.sort) a b
misfit roots (form.Compared comparison.NotEqual) a b = both_fit (is_value a.sort) (alike a.sort b.sort) a b
misfit roots (form.Compared comparison.Less) a b = both_fit (is_ordered a.sort) (alike a.sort b.sort) a b
misfit roots (form.Compared comparison.LessOrEqual) a b = both_fit (is_ordered a.sort) (alike a.sort b.sort) a b
misfit roots (form.Compared comparison.Greater) a b = both_fit (is_ordered a.sort) (alike a.sort b.sort) a b
misfit roots (form.Compared comparison.GreaterOrEqual) a b = both_fit (is_ordered a.sort) (alike a.sort b.sort) a b
misfit roots (form.Compared comparison.Match) a b = both_fit (is_value a.sort) (not (is_ip a.sort) || is_acl b.sort) a b
misfit roots (form.Compared comparison.NotMatch) a b = both_fit (is_value a.sort) (not (is_ip a.sort) || is_acl b.sort) a b
misfit roots form.Added a b = both_fit (is_value a.sort) (may_add a.sort b.sort) a b
misfit roots form.Subtracted a b = both_fit (is_ordered a.sort) (alike a.sort b.sort) a b
misfit roots form.Inverted a b = unless (is_condition b.sort) b.first
misfit roots form.Grouped a b = unless (is_value b.sort) b.first
misfit roots form.Call a b = ill_function a.meaning b.arguments a.first
misfit roots form.Set a b = ill_set b.meaning b
misfit roots form.Append a b = ill_appended b.meaning b
misfit roots form.New a b = ill_made b.meaning b
misfit roots form.Return a b = ill_answer roots b.meaning b.arguments b.first
misfit roots form.Condition a b = unless (is_condition a.sort) a.first
misfit roots _ a b = None

-- vcl_init may not fail
abbrev pub fails : Meaning → Bool
fails (meaning.Word w) = w.fails
fails _ = false

-- a statement may stand in a subroutine
abbrev pub may_stand : Form → Meaning → Subroutine → Bool
may_stand form.Set m s = has scope.Traffic s
may_stand form.Append m s = has scope.Traffic s
may_stand form.Ordinary m s = has scope.Traffic s
may_stand form.New m s = has scope.Init s
may_stand form.Return m s = not (fails m && has scope.Init s)
may_stand _ m s = true

abbrev pub is_new : Form → Bool
is_new form.New = true
is_new _ = false

-- in each subroutine that leads there; `new` not where nothing does
abbrev pub may_stand_in : List Subroutine → Form → Meaning → Bool
may_stand_in roots form m = list_all (λ s. may_stand form m s) roots && (is_reached roots || not (is_new form))

-- a statement that may not stand there
abbrev pub misplaced : List Subroutine → Form → Seen → Seen → Option ℕ
misplaced roots form a b = unless (may_stand_in roots form b.meaning) a.first

-- the function's arguments that must be patterns
abbrev pub unwritten_call : Meaning → List (Option Argument) → Option ℕ
unwritten_call (meaning.Function f) given = leftmost_unwritten f.takes given
unwritten_call _ given = None

-- what must be one string and isn't
abbrev pub unwritten_in : Form → Seen → Seen → Option ℕ
unwritten_in (form.Compared comparison.Match) a b = unless (not (is_searched a.sort) || is_string b.literal) b.first
unwritten_in (form.Compared comparison.NotMatch) a b = unless (not (is_searched a.sort) || is_string b.literal) b.first
unwritten_in form.Call a b = unwritten_call a.meaning b.arguments
unwritten_in _ a b = None
