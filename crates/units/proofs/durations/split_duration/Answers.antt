use Rattle.std.proofs.Common.{arith, ◌≡◌, ◌++◌, ◌∙◌, length, ap}
use Rattle.std.proofs.lemmas.Bool.Decides.{nat_tests}
use Rattle.std.proofs.lemmas.List.{nil_from_length}
use Rattle.units.proofs.Prefixes.{begins}
use Rattle.units.proofs.Splits.{no_whole, bad_fraction}
use Rattle.units.proofs.durations.split_duration.Goals as goal

pub returns-then-is_empty : goal.returns-then-is_empty
returns-then-is_empty c = λ n d.
    let none : length c.leading_digits.result.0.now ≡ 0 = grind (arith, nat_tests) in
    let e = c.leading_digits.ensures.joined ∙ ap (λ w. w ++ c.leading_digits.result.1.now) (nil_from_length c.leading_digits.result.0.now none) in
    no_whole c.args.bytes.now c.leading_digits.result.1.now n e c.leading_digits.ensures.stops d

pub returns-then-is_empty-2 : goal.returns-then-is_empty-2
returns-then-is_empty-2 c = λ n d.
    let prefix = c.in-Some.ensures.cases in
    let e = begins 46 c.leading_digits.result.1.now c.in-Some.behind.now prefix.0 prefix.1 in
    let k = bad_fraction c.args.bytes.now _ _ _ _ _ n c.leading_digits.ensures.joined c.leading_digits.ensures.digits c.leading_digits.ensures.stops e c.leading_digits-2.ensures.joined c.leading_digits-2.ensures.digits c.leading_digits-2.ensures.stops d in
    grind (arith, nat_tests)
