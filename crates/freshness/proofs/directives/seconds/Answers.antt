use Rattle.std.proofs.Common.{take, get_or}
use Rattle.std.specs.Char.{digit_value}
use Rattle.std.specs.Str.Parse.{digits_value}
use Rattle.std.proofs.lemmas.Int.Digits.{digits_value_more}
use Rattle.freshness.proofs.Lists.{digits_more, cut_early}
use Rattle.freshness.proofs.directives.seconds.Goals as goal

pub loop-digit-preserved : goal.loop-digit-preserved
loop-digit-preserved c =
    let i = c.loop-digit.digit-index in
    let more = digits_value_more 10 c.args.digits.now i c.loop-digit-test.true in
    let early = cut_early (digits_value 10 (take i c.args.digits.now)) (digit_value (get_or c.args.digits.now i 0)) in
    record {
      digits = digits_more c.args.digits.now i c.loop-digit-test.true c.loop-digit.invariant.digits (cc);
      value = cc;
    }
