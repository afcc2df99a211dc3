-- One more head behind the interim replies.
use Rattle.std.proofs.Common.{◌+◌, sym, ◌∙◌, arith}
use Rattle.message_reader.specs.Inputs.{Hears}
use Rattle.message_reader.proofs.Errors.{at_err}
use Rattle.backend_link.specs.Replies.{BehindInterim, FinalAt}
use Rattle.backend_link.proofs.BehindFacts.{one_more, final_ok, final_refused, final_err}
use Rattle.backend_link.proofs.replies.read_final.Goals as goal

pub returns-in_err-head-clause-told : goal.returns-in_err-head-clause-told
returns-in_err-head-clause-told g c =
    let first = g.L.Link.flow c.args.link.now in
    let second = g.L.Link.flow c.passing.link in
    let third = g.L.Link.flow c.read_head.new.link in
    let rest = c.read_head.new.held in
    at_err c.from_residual.result c.in_err-head.field-0.0
    (λ r. Hears first third c.args.held.now (BehindInterim (λ passed text. FinalAt third rest passed r text))) c.from_residual.ensures.1
    (final_err first second third c.args.held.now c.passing.held rest rest c.passing.passed c.in_err-head.field-0.0 c.passing.invariant.few c.passing.invariant.heard
    c.in_err-head.ensures.told)

pub returns-then-not-is_interim-clause-told : goal.returns-then-not-is_interim-clause-told
returns-then-not-is_interim-clause-told g c =
    final_ok (g.L.Link.flow c.args.link.now) (g.L.Link.flow c.passing.link) (g.L.Link.flow c.read_head.new.link) c.args.held.now c.passing.held c.read_head.new.held
    c.passing.passed c.in_ok-head.head c.passing.invariant.few c.passing.invariant.heard c.in_ok-head.ensures.told (sym c.is_interim.ensures ∙ c.if-not-is_interim.true)

pub returns-then-is_refused-clause-told : goal.returns-then-is_refused-clause-told
returns-then-is_refused-clause-told g c =
    final_refused (g.L.Link.flow c.args.link.now) (g.L.Link.flow c.passing.link) (g.L.Link.flow c.read_head.new.link) c.args.held.now c.passing.held c.read_head.new.held
    c.passing.passed c.in_ok-head.head c.passing.invariant.few c.passing.invariant.heard c.in_ok-head.ensures.told (sym c.is_interim.ensures ∙ c.if-not-is_interim.false)
    (c.is_refused.ensures.refused c.if-is_refused.true)

pub passing-preserved : goal.passing-preserved
passing-preserved g c =
    let kept = c.is_refused.ensures.passed c.if-is_refused.false in
    record {
      heard = one_more (g.L.Link.flow c.args.link.now) (g.L.Link.flow c.passing.link) (g.L.Link.flow c.read_head.new.link) c.args.held.now c.passing.held c.read_head.new.held
          c.passing.passed (c.passing.passed + 1) c.in_ok-head.head (omega arith) c.passing.invariant.heard c.in_ok-head.ensures.told
          (sym c.is_interim.ensures ∙ c.if-not-is_interim.false) kept.0;
      few = omega (arith, kept.1);
      later = omega (arith, c.in_ok-head.ensures.later);
      other = c.in_ok-head.ensures.other ∙ c.passing.invariant.other;
      peer = c.in_ok-head.ensures.peer ∙ c.passing.invariant.peer;
    }
