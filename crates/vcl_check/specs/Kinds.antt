-- Which types fit where (the Varnish Reference Manual, VCL, "Types" and "Expressions"). A value of an unknown type has a fault
-- of its own, and fits everywhere.
use Rattle.std.specs.Prelude.{Bool, true, false, Option, Some, None}
use Rattle.vcl_values.specs.declared.value.Kind.{Kind}
use Rattle.vcl_values.specs.declared.value.Kind.TheVariants as kind
use Rattle.vcl_check.specs.declared.seen.Sort.{Sort}
use Rattle.vcl_check.specs.declared.seen.Sort.TheVariants.{Value, Acl}

abbrev pub same_kind : Kind → Kind → Bool
same_kind kind.String kind.String = true
same_kind kind.Int kind.Int = true
same_kind kind.Duration kind.Duration = true
same_kind kind.Bool kind.Bool = true
same_kind kind.Ip kind.Ip = true
same_kind kind.Backend kind.Backend = true
same_kind _ _ = false

-- a value of some type
abbrev pub is_value : Sort → Bool
is_value (Value k) = true
is_value _ = false

-- what may stand in a condition: a value of any type but IP
abbrev pub is_condition : Sort → Bool
is_condition (Value (Some kind.Ip)) = false
is_condition (Value _) = true
is_condition _ = false

-- what has an order: INT and DURATION
abbrev pub is_ordered : Sort → Bool
is_ordered (Value (Some kind.Int)) = true
is_ordered (Value (Some kind.Duration)) = true
is_ordered (Value (Some _)) = false
is_ordered (Value None) = true
is_ordered _ = false

-- two values of one type
abbrev pub alike : Sort → Sort → Bool
alike (Value None) b = true
alike (Value (Some a)) (Value (Some b)) = same_kind a b
alike (Value (Some a)) (Value None) = true
alike _ _ = false

-- what may be added: INT and INT, DURATION and DURATION, and any two values of which one is a STRING
abbrev pub adds : Kind → Kind → Bool
adds kind.String b = true
adds a kind.String = true
adds kind.Int kind.Int = true
adds kind.Duration kind.Duration = true
adds _ _ = false

abbrev pub may_add : Sort → Sort → Bool
may_add (Value (Some a)) (Value (Some b)) = adds a b
may_add (Value a) b = is_value b
may_add _ b = false

-- the type of a sum
abbrev pub sum_kind : Kind → Kind → Option Kind
sum_kind kind.String b = Some kind.String
sum_kind a kind.String = Some kind.String
sum_kind kind.Int kind.Int = Some kind.Int
sum_kind kind.Duration kind.Duration = Some kind.Duration
sum_kind _ _ = None

-- the type of a difference
abbrev pub difference_kind : Kind → Kind → Option Kind
difference_kind kind.Int kind.Int = Some kind.Int
difference_kind kind.Duration kind.Duration = Some kind.Duration
difference_kind _ _ = None

-- the type that is known of a value
abbrev pub kind_in : Sort → Option Kind
kind_in (Value k) = k
kind_in _ = None

abbrev pub both_known : (Kind → Kind → Option Kind) → Option Kind → Option Kind → Option Kind
both_known of (Some a) (Some b) = of a b
both_known of _ _ = None

-- a sum, a difference, and what stands in parentheses are values
abbrev pub sum_sort : Sort → Sort → Sort
sum_sort a b = Value (both_known sum_kind (kind_in a) (kind_in b))

abbrev pub difference_sort : Sort → Sort → Sort
difference_sort a b = Value (both_known difference_kind (kind_in a) (kind_in b))

abbrev pub grouped_sort : Sort → Sort
grouped_sort a = Value (kind_in a)

-- a value of any type stands where STRING is wanted; elsewhere it has the type that is wanted
abbrev pub accepts : Kind → Sort → Bool
accepts kind.String given = is_value given
accepts wanted given = alike (Value (Some wanted)) given

abbrev pub is_ip : Sort → Bool
is_ip (Value (Some kind.Ip)) = true
is_ip _ = false

abbrev pub is_acl : Sort → Bool
is_acl Acl = true
is_acl _ = false

-- what is searched as a text: a value of any type but IP
abbrev pub is_searched : Sort → Bool
is_searched (Value (Some kind.Ip)) = false
is_searched (Value (Some _)) = true
is_searched _ = false

abbrev pub is_text : Kind → Bool
is_text kind.String = true
is_text _ = false
