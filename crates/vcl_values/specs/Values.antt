-- The values of VCL, as texts and in conditions (the Varnish Reference Manual, VCL, "Types").
use Rattle.std.specs.Prelude.{ℕ, ℤ, pos, ◌/◌, ◌%◌, Bool, false, not, List, [], ◌∷◌, ◌++◌, Option, Some, None, is_some, codes, slice_index, unsigned_abs, if◌then◌else◌}
use Rattle.std.specs.Fmt.{decimal, signed_decimal}
use Rattle.std.specs.Int.Signed.{lt_z}
use Rattle.std.specs.Ordering.{int_eq}
use Rattle.vcl_values.specs.declared.value.Value.{Value}
use Rattle.vcl_values.specs.declared.value.Value.TheVariants as value
use Rattle.vcl_values.specs.declared.value.Kind.{Kind}
use Rattle.vcl_values.specs.declared.value.Kind.TheVariants as kind

abbrev pub kind_of : Value → Kind
kind_of (value.String text) = kind.String
kind_of (value.Int number) = kind.Int
kind_of (value.Duration milliseconds) = kind.Duration
kind_of (value.Bool truth) = kind.Bool
kind_of (value.Ip address) = kind.Ip
kind_of (value.Backend backend) = kind.Backend

-- a time in milliseconds as seconds with three decimals, and a sign where it is below 0; 46 is a dot
abbrev pub seconds_text : ℕ → List ℕ
seconds_text m = decimal (m / 1000) ++ 46 ∷ (decimal (m / 100 % 10) ++ (decimal (m / 10 % 10) ++ decimal (m % 10)))

abbrev pub sign_text : ℤ → List ℕ
sign_text number = if lt_z number (pos 0) then codes "-" else []

abbrev pub duration_text : ℤ → List ℕ
duration_text time = sign_text time ++ seconds_text (unsigned_abs time)

-- the four numbers of an address with dots between them
abbrev pub address_text : List ℕ → List ℕ
address_text address =
    decimal (slice_index address 0) ++ 46 ∷ (decimal (slice_index address 1)
    ++ 46 ∷ (decimal (slice_index address 2) ++ 46 ∷ decimal (slice_index address 3)))

-- a value as a text; an absent text and no backend are the empty one
abbrev pub text_of : Value → List ℕ
text_of (value.String None) = []
text_of (value.String (Some text)) = text
text_of (value.Int number) = signed_decimal number
text_of (value.Duration milliseconds) = duration_text milliseconds
text_of (value.Bool truth) = if truth then codes "true" else codes "false"
text_of (value.Ip address) = address_text address
text_of (value.Backend None) = []
text_of (value.Backend (Some backend)) = backend.name

-- what a value says in a condition; an address says nothing there, and a backend that is declared `none` is none
abbrev pub truth_of : Value → Option Bool
truth_of (value.String text) = Some (is_some text)
truth_of (value.Int number) = Some (not (int_eq number (pos 0)))
truth_of (value.Duration milliseconds) = Some (lt_z (pos 0) milliseconds)
truth_of (value.Bool truth) = Some truth
truth_of (value.Ip address) = None
truth_of (value.Backend None) = Some false
truth_of (value.Backend (Some backend)) = Some (not backend.declared_none)
