-- Arguments, and what functions take.
use Rattle.std.specs.Prelude.{ℕ, Bool, true, false, not, ◌&&◌, List, [], ◌∷◌, Option, Some, None, is_some, if◌then◌else◌}
use Rattle.vcl_language.specs.declared.functions.Slot.{Slot}
use Rattle.vcl_language.specs.declared.functions.Slot.TheVariants.{Closed, Needed, Optional}
use Rattle.vcl_language.specs.declared.functions.Parameter.{Parameter}
use Rattle.vcl_language.specs.declared.functions.Parameter.TheVariants as parameter
use Rattle.vcl_check.specs.declared.seen.Argument.{Argument}
use Rattle.vcl_check.specs.declared.seen.Literal.{Literal}
use Rattle.vcl_check.specs.declared.seen.Literal.TheVariants as literal
use Rattle.vcl_check.specs.Kinds.{accepts}

-- a place of a fault, where something doesn't hold
abbrev pub unless : Bool → ℕ → Option ℕ
unless true place = None
unless false place = Some place

-- in the first place that is free
abbrev pub with_argument : List (Option Argument) → Argument → List (Option Argument)
with_argument [] a = []
with_argument (None ∷ more) a = Some a ∷ more
with_argument (Some b ∷ more) a = Some b ∷ with_argument more a

abbrev pub is_string : Literal → Bool
is_string literal.String = true
is_string _ = false

abbrev pub is_weight : Literal → Bool
is_weight literal.Weight = true
is_weight _ = false

-- an argument may stand in a place, or be lacking there
abbrev pub may_be : Slot → Option Argument → Bool
may_be Closed argument = not (is_some argument)
may_be (Needed p) argument = is_some argument
may_be (Optional p) argument = true

-- so many arguments are taken
abbrev pub takes_so_many : List Slot → List (Option Argument) → Bool
takes_so_many (slot ∷ slots) (a ∷ given) = may_be slot a && takes_so_many slots given
takes_so_many [] (a ∷ given) = not (is_some a) && takes_so_many [] given
takes_so_many slots [] = true

abbrev pub wanted : Slot → Option Parameter
wanted Closed = None
wanted (Needed p) = Some p
wanted (Optional p) = Some p

-- the argument isn't of the type, or isn't a weight
abbrev pub mistyped : Option Parameter → Argument → Option ℕ
mistyped None a = None
mistyped (Some (parameter.Value kind)) a = unless (accepts kind a.sort) a.place
mistyped (Some parameter.Pattern) a = None
mistyped (Some parameter.Weight) a = unless (is_weight a.literal) a.place

-- the argument isn't the one string that a pattern is
abbrev pub unwritten : Option Parameter → Argument → Option ℕ
unwritten (Some parameter.Pattern) a = unless (is_string a.literal) a.place
unwritten _ a = None

abbrev pub or_else : Option ℕ → Option ℕ → Option ℕ
or_else (Some place) other = Some place
or_else None other = other

-- the leftmost argument of another type
abbrev pub mistyped_at : Slot → Option Argument → Option ℕ
mistyped_at slot None = None
mistyped_at slot (Some a) = mistyped (wanted slot) a

abbrev pub leftmost_mistyped : List Slot → List (Option Argument) → Option ℕ
leftmost_mistyped (slot ∷ slots) (a ∷ given) = or_else (mistyped_at slot a) (leftmost_mistyped slots given)
leftmost_mistyped _ _ = None

-- the leftmost argument that isn't the pattern that it must be
abbrev pub unwritten_at : Slot → Option Argument → Option ℕ
unwritten_at slot None = None
unwritten_at slot (Some a) = unwritten (wanted slot) a

abbrev pub leftmost_unwritten : List Slot → List (Option Argument) → Option ℕ
leftmost_unwritten (slot ∷ slots) (a ∷ given) = or_else (unwritten_at slot a) (leftmost_unwritten slots given)
leftmost_unwritten _ _ = None

-- another number of arguments, at the place of what is called; or the leftmost of another type
abbrev pub ill_called : List Slot → List (Option Argument) → ℕ → Option ℕ
ill_called t a place = if takes_so_many t a then leftmost_mistyped t a else Some place
