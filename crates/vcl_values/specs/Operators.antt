-- Comparisons, sums and differences of the values of VCL (the Varnish Reference Manual, VCL, "Operators").
use Rattle.std.specs.Prelude.{◌≡◌, ℕ, ℤ, pos, negsuc, ◌+ℤ◌, ◌-ℤ◌, ◌-◌, ◌^◌, Bool, true, false, not, ◌||◌, nat_eq, nat_lt, List, ◌++◌, length, Option, Some, None, option_map, Result, Ok, Err, if◌then◌else◌}
use Rattle.std.specs.Cmp.Lexicographic.{pointwise}
use Rattle.std.specs.Int.Signed.{lt_z}
use Rattle.std.specs.Ordering.{int_eq}
use Rattle.std.specs.Bool.{beq}
use Rattle.vcl_values.specs.declared.value.Value.{Value}
use Rattle.vcl_values.specs.declared.value.Value.TheVariants as value
use Rattle.vcl_values.specs.declared.value.Backend.{Backend}
use Rattle.vcl_values.specs.declared.comparisons.Comparison.{Comparison}
use Rattle.vcl_values.specs.declared.comparisons.Comparison.TheVariants as comparison
use Rattle.vcl_values.specs.declared.sums.ValueError.{ValueError}
use Rattle.vcl_values.specs.declared.sums.ValueError.TheVariants as errors
use Rattle.vcl_values.specs.Values.{text_of}

abbrev pub same_bytes : List ℕ → List ℕ → Bool
same_bytes = pointwise nat_eq

-- an absent text is equal to nothing, not even to another
abbrev pub same_text : Option (List ℕ) → Option (List ℕ) → Bool
same_text None other = false
same_text (Some text) None = false
same_text (Some text) (Some other) = same_bytes text other

-- backends are one by their names, and no backend is no backend
abbrev pub same_backend : Option Backend → Option Backend → Bool
same_backend None None = true
same_backend None (Some other) = false
same_backend (Some backend) None = false
same_backend (Some backend) (Some other) = same_bytes backend.name other.name

-- whether two values of one type are equal
abbrev pub equal : Value → Value → Option Bool
equal (value.String text) (value.String other) = Some (same_text text other)
equal (value.Int number) (value.Int other) = Some (int_eq number other)
equal (value.Duration time) (value.Duration other) = Some (int_eq time other)
equal (value.Bool truth) (value.Bool other) = Some (beq truth other)
equal (value.Ip address) (value.Ip other) = Some (same_bytes address other)
equal (value.Backend backend) (value.Backend other) = Some (same_backend backend other)
equal left right = None

-- whether the first of two numbers, or of two durations, is less
abbrev pub less : Value → Value → Option Bool
less (value.Int number) (value.Int other) = Some (lt_z number other)
less (value.Duration time) (value.Duration other) = Some (lt_z time other)
less left right = None

-- what an operator answers, None where it isn't one of the two types
abbrev pub compared : Comparison → Value → Value → Option Bool
compared comparison.Equal left right = equal left right
compared comparison.NotEqual left right = option_map not (equal left right)
compared comparison.Less left right = less left right
compared comparison.LessOrEqual left right = option_map not (less right left)
compared comparison.Greater left right = less right left
compared comparison.GreaterOrEqual left right = option_map not (less left right)

-- a number of 64 bits with a sign, a duration of at most 10,000,000,000,000 milliseconds either way, a text
-- of at most 65,536 bytes
abbrev pub int_value : ℤ → Result Value ValueError
int_value z = if lt_z z (negsuc (2 ^ 63 - 1)) || lt_z (pos (2 ^ 63 - 1)) z then Err errors.Range else Ok (value.Int z)

abbrev pub duration_value : ℤ → Result Value ValueError
duration_value z = if lt_z z (negsuc (10 ^ 13 - 1)) || lt_z (pos (10 ^ 13)) z then Err errors.Range else Ok (value.Duration z)

abbrev pub text_limit : ℕ
text_limit = 65536

abbrev pub text_within : List ℕ → Result (List ℕ) ValueError
text_within text = if nat_lt text_limit (length text) then Err errors.TooLong else Ok text

abbrev pub text_value : List ℕ → Result Value ValueError
text_value text = if nat_lt text_limit (length text) then Err errors.TooLong else Ok (value.String (Some text))

-- `+`: numbers and durations add, and with a text on a side both are joined as texts
abbrev pub sum_of : Value → Value → Result Value ValueError
sum_of (value.Int number) (value.Int other) = int_value (number +ℤ other)
sum_of (value.Duration time) (value.Duration other) = duration_value (time +ℤ other)
sum_of (value.String text) right = text_value (text_of (value.String text) ++ text_of right)
sum_of left (value.String text) = text_value (text_of left ++ text_of (value.String text))
sum_of left right = Err errors.Kind

-- `-`: numbers or durations alone
abbrev pub difference_of : Value → Value → Result Value ValueError
difference_of (value.Int number) (value.Int other) = int_value (number -ℤ other)
difference_of (value.Duration time) (value.Duration other) = duration_value (time -ℤ other)
difference_of left right = Err errors.Kind

-- what a call gave is what is due, unless memory was wanting
abbrev pub Gives : {A : Type 0} → Result A ValueError → Result A ValueError → Type 0
Gives (Ok given) due = due ≡ Ok given
Gives (Err errors.NoMemory) due = Unit {0}
Gives (Err errors.Kind) due = due ≡ Err errors.Kind
Gives (Err errors.Range) due = due ≡ Err errors.Range
Gives (Err errors.TooLong) due = due ≡ Err errors.TooLong
