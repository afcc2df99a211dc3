-- The digits so far say the value, up to the greatest number.
use Rattle.std.proofs.Common.{◌≡◌, take, true}
use Rattle.std.specs.Prelude.{min}
use Rattle.std.specs.Char.{is_ascii_digit}
use Rattle.std.specs.List.{list_all}
use Rattle.std.specs.Str.Parse.{digits_value}
use Rattle.freshness.specs.Directives.{most_seconds}
use Rattle.freshness.proofs.directives.seconds.Given as goal

abbrev pub invariant-loop-digit : goal.invariant-loop-digit
invariant-loop-digit l = record {
  digits : list_all is_ascii_digit (take l.digit-index l.digits) ≡ true;
  value : l.value ≡ min (digits_value 10 (take l.digit-index l.digits)) most_seconds;
}
