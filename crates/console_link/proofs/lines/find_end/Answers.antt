-- The first LF is where the search ends.
use Rattle.std.proofs.Common.{rules, arith, sym}
use Rattle.std.proofs.lemmas.List.Sums.{fails_before_first, position_or_len_is}
use Rattle.console_link.specs.Lines.{is_lf}
use Rattle.console_link.proofs.LineFacts.{within_all}
use Rattle.console_link.proofs.lines.find_end.Goals as goal

pub loop-end-init : goal.loop-end-init
loop-end-init c = record {
  within = omega (arith, c.requires, within_all c.args.bytes.now);
  none = λ k less. fails_before_first is_lf c.args.bytes.now k 0 (omega (arith, c.requires, less));
}

pub returns-else-bytes-end-ne10 : goal.returns-else-bytes-end-ne10
returns-else-bytes-end-ne10 c =
    sym (position_or_len_is is_lf c.args.bytes.now c.loop-end.end 0 c.loop-end.invariant.within c.loop-end.invariant.none (λ less. search rules))

pub returns-after-loop-end : goal.returns-after-loop-end
returns-after-loop-end c =
    sym (position_or_len_is is_lf c.args.bytes.now c.loop-end.end 0 c.loop-end.invariant.within c.loop-end.invariant.none (λ less. absurd (omega (arith, less, c.loop-end-test.false))))
