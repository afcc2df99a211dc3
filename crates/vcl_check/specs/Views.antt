-- What is seen of a part by what it belongs to.
use Rattle.std.specs.Prelude.{ℕ, ◌+◌, ◌-◌, ◌*◌, min, ◌==◌, ◌&&◌, nat_le, ℤ, pos, unsigned_abs, List, [], ◌∷◌, Option, Some, None, if◌then◌else◌}
use Rattle.std.specs.Int.Signed.{lt_z}
use Rattle.vcl_values.specs.declared.value.Kind.{Kind}
use Rattle.vcl_values.specs.declared.value.Kind.TheVariants as kind
use Rattle.vcl_tree.specs.Phrase as phrase
use Rattle.vcl_tree.specs.Phrase.{Phrase}
use Rattle.vcl_check.specs.declared.form.Use.{Use}
use Rattle.vcl_check.specs.declared.form.Form.{Form}
use Rattle.vcl_check.specs.declared.form.Form.TheVariants as form
use Rattle.vcl_check.specs.declared.seen.Sort.{Sort}
use Rattle.vcl_check.specs.declared.seen.Sort.TheVariants as sort
use Rattle.vcl_check.specs.declared.seen.Meaning.{Meaning}
use Rattle.vcl_check.specs.declared.seen.Meaning.TheVariants as meaning
use Rattle.vcl_check.specs.declared.seen.Literal.{Literal}
use Rattle.vcl_check.specs.declared.seen.Literal.TheVariants as literal
use Rattle.vcl_check.specs.declared.seen.Argument.{Argument}
use Rattle.vcl_check.specs.declared.seen.TheConstants.{NO_ARGUMENTS}
use Rattle.vcl_check.specs.declared.seen.Seen.{Seen}
use Rattle.vcl_check.specs.Kinds.{sum_sort, difference_sort, grouped_sort}
use Rattle.vcl_check.specs.Calls.{with_argument}
use Rattle.vcl_symbols.specs.Known.{Known}
use Rattle.vcl_check.specs.Known.{meaning_of}
use Rattle.vcl_check.specs.Roles.{Role, use_in, left_role, right_role, form_of}

-- a part of which its place alone is seen
abbrev pub at_place : ℕ → Seen
at_place place = record { sort = sort.Value None; first = place; second = 0; meaning = meaning.Unknown; literal = literal.Other; arguments = NO_ARGUMENTS }

-- an expression
abbrev pub of_sort : Sort → ℕ → Seen
of_sort s place = record (at_place place) { sort = s }

-- a literal
abbrev pub written : Kind → Literal → ℕ → Seen
written k l place = record (at_place place) { sort = sort.Value (Some k); literal = l }

-- what a name gives
abbrev pub sort_of : Meaning → Sort
sort_of (meaning.Variable v) = sort.Value (Some v.kind)
sort_of meaning.Truth = sort.Value (Some kind.Bool)
sort_of meaning.Backend = sort.Value (Some kind.Backend)
sort_of meaning.Acl = sort.Acl
sort_of meaning.NoValue = sort.Nothing
sort_of _ = sort.Value None

abbrev pub name_seen : ℕ → Meaning → Seen
name_seen place m = record (at_place place) { sort = sort_of m; meaning = m }

-- what a call gives
abbrev pub given_sort : Option Kind → Sort
given_sort None = sort.Nothing
given_sort (Some k) = sort.Value (Some k)

abbrev pub call_sort : Meaning → Sort
call_sort (meaning.Function f) = given_sort f.gives
call_sort _ = sort.Value None

-- the number that the digits before a point spell, where one over 1,000 counts as 1,001
abbrev pub whole_part : ℕ → List ℕ → ℕ
whole_part front [] = front
whole_part front (byte ∷ bytes) = if byte == 46 then front else whole_part (min 1001 (10 * front + (byte - 48))) bytes

-- the weight that an integer or a decimal gives, from 1 to 1,000
abbrev pub weight_of_integer : ℤ → Option ℕ
weight_of_integer n = if lt_z (pos 0) n && lt_z n (pos 1001) then Some (unsigned_abs n) else None

abbrev pub weight_of_decimal : List ℕ → Option ℕ
weight_of_decimal digits = if nat_le 1 (whole_part 0 digits) && nat_le (whole_part 0 digits) 1000 then Some (whole_part 0 digits) else None

abbrev pub weight : Option ℕ → Literal
weight (Some n) = literal.Weight
weight None = literal.Other

abbrev pub integer_weight : ℤ → Literal
integer_weight n = weight (weight_of_integer n)

abbrev pub decimal_weight : List ℕ → Literal
decimal_weight digits = weight (weight_of_decimal digits)

-- a decimal
abbrev pub weight_seen : ℕ → List ℕ → Seen
weight_seen place digits = record (at_place place) { sort = sort.Weight; literal = decimal_weight digits }

abbrev pub argument_of : Seen → Argument
argument_of s = record { sort = s.sort; place = s.first; literal = s.literal }

-- what is seen of two parts together
abbrev pub seen_together : Form → Seen → Seen → Seen
seen_together form.Junction a b = of_sort (sort.Value (Some kind.Bool)) a.first
seen_together (form.Compared how) a b = of_sort (sort.Value (Some kind.Bool)) a.first
seen_together form.Added a b = of_sort (sum_sort a.sort b.sort) a.first
seen_together form.Subtracted a b = of_sort (difference_sort a.sort b.sort) a.first
seen_together form.Inverted a b = of_sort (sort.Value (Some kind.Bool)) a.first
seen_together form.Grouped a b = of_sort (grouped_sort b.sort) a.first
seen_together form.Call a b = of_sort (call_sort a.meaning) a.first
seen_together form.Argument a b = record (at_place a.first) { arguments = with_argument a.arguments (argument_of b) }
seen_together form.Assignment a b = record (at_place a.first) { sort = b.sort; second = b.first; meaning = a.meaning }
seen_together form.Applied a b = record (at_place a.first) { meaning = a.meaning; arguments = b.arguments }
seen_together form.Object a b = b
seen_together _ a b = at_place a.first

-- what is seen of a name in a role
abbrev pub named_seen : Known → Option Use → ℕ → List ℕ → Seen
named_seen known None place name = at_place place
named_seen known (Some u) place name = name_seen place (meaning_of known u name)

-- what is seen of a part in a role
abbrev pub view_of : Known → Role → Phrase → Seen
view_of known role phrase.Nothing = at_place 0
view_of known role (phrase.At place) = at_place place
view_of known role (phrase.Named place name) = named_seen known (use_in role) place name
view_of known role (phrase.String place text) = written kind.String literal.String place
view_of known role (phrase.Weight place digits) = weight_seen place digits
view_of known role (phrase.Integer place n) = written kind.Int (integer_weight n) place
view_of known role (phrase.Duration place n) = written kind.Duration literal.Other place
view_of known role (phrase.Node label a b) = seen_together (form_of role label) (view_of known (left_role role label) a) (view_of known (right_role role label) b)
