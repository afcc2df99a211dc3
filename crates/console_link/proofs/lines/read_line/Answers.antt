-- A read more, or none.
use Rattle.std.proofs.Common.{arith, sym, ◌∙◌, ap, length}
use Rattle.console_link.specs.Lines.{line_length}
use Rattle.console_link.proofs.LineSteps.{filled_more, scanned_all, unfilled}
use Rattle.console_link.proofs.lines.read_line.Goals as goal

pub reading-preserved : goal.reading-preserved
reading-preserved g c =
    let first = g.L.Link.flow c.args.link.now in
    let second = g.L.Link.flow c.reading.link in
    let third = g.L.Link.flow c.fill.new.link in
    let heard = c.reading.invariant.heard in
    let begun = rw c.in-None.is at c.in_ok-line.ensures.told in
    let held = c.try_line.new.held in
    record {
      heard = filled_more first second third c.args.held.now held c.fill.new.held c.in-Ok.field-0 (heard.0, heard.1, begun.0 ∙ heard.2) c.in-Ok.ensures.told;
      scanned = omega (arith, ap length c.bytes-scanned.ensures, scanned_all second third held c.fill.new.held c.in-Ok.field-0 (ap line_length begun.0 ∙ begun.1.0 ∙ sym (ap length begun.0)) c.in-Ok.ensures.told);
      later = omega (arith, c.reading.invariant.later, c.fill.ensures.later);
      other = c.fill.ensures.other ∙ c.reading.invariant.other;
      peer = c.fill.ensures.peer ∙ c.reading.invariant.peer;
    }

pub returns-in-Err-clause-told : goal.returns-in-Err-clause-told
returns-in-Err-clause-told g c =
    let heard = c.reading.invariant.heard in
    let begun = rw c.in-None.is at c.in_ok-line.ensures.told in
    unfilled (g.L.Link.flow c.args.link.now) (g.L.Link.flow c.reading.link) (g.L.Link.flow c.fill.new.link) c.args.held.now c.try_line.new.held c.fill.new.held c.in-Err.stop
    c.ending.result c.ending.ensures (heard.0, heard.1, begun.0 ∙ heard.2) c.in-Err.ensures.told
