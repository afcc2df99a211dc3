-- Numbers of literals, and of refusals.
use Rattle.std.specs.Prelude.{ℕ, ℤ}
use Rattle.std.specs.Int.{int_wrapping_neg, w64}
use Rattle.vcl_tree.specs.declared.error.Refusal.{Refusal}
use Rattle.vcl_tree.specs.declared.error.Refusal.TheVariants.{Token, Syntax, Version, TooDeep, Unknown, Twice, Kind, NotHere, Recursion, Pattern, NoBackend, TooLong}

-- the number by which a refusal is shown
abbrev pub number_of : Refusal → ℕ
number_of Token = 1
number_of Syntax = 2
number_of Version = 3
number_of TooDeep = 4
number_of Unknown = 5
number_of Twice = 6
number_of Kind = 7
number_of NotHere = 8
number_of Recursion = 9
number_of Pattern = 10
number_of NoBackend = 11
number_of TooLong = 12

-- the literal with a minus sign before it; a token's number is never the least of 64 bits, which has no opposite there
unfoldable pub opposite : ℤ → ℤ
opposite n = int_wrapping_neg w64 n
