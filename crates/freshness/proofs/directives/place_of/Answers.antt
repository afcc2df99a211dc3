use Rattle.std.proofs.Common.{◌<◌, sym, length, arith, eq-eqb}
use Rattle.std.specs.Prelude.{◌==◌}
use Rattle.std.proofs.lemmas.List.Sums.{position_or_len_is}
use Rattle.freshness.proofs.Lists.{test-false}
use Rattle.freshness.proofs.directives.place_of.Goals as goal

pub returns-then-byte-mark-clause-place : goal.returns-then-byte-mark-clause-place
returns-then-byte-mark-clause-place c =
    sym (position_or_len_is (λ byte. byte == c.args.mark) c.args.list.now c.loop-place.place 0 (omega arith)
    (λ k below. test-false _ _ (c.loop-place.invariant k below)) (λ within. eq-eqb _ _ c.if-byte-mark.true))

pub returns-clause-place : goal.returns-clause-place
returns-clause-place c =
    sym (position_or_len_is (λ byte. byte == c.args.mark) c.args.list.now (length c.args.list.now) 0 (omega arith)
    (λ k below. let before : k < c.loop-place.place = omega arith in test-false _ _ (c.loop-place.invariant k before)) (λ within. absurd (omega arith)))
