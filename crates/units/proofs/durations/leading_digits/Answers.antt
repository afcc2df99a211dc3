use Rattle.std.proofs.lemmas.Int.Digits.{digits_more}
use Rattle.units.proofs.durations.leading_digits.Goals as goal

pub loop-place-preserved : goal.loop-place-preserved
loop-place-preserved c = let b = c.if-not-is_ascii_digit.ensures.bound in digits_more 10 c.args.bytes.now c.loop-place.place c.loop-place-test.true c.loop-place.invariant b
