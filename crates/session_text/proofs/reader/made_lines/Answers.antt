use Rattle.std.proofs.Common.{refl}
use Rattle.session_text.specs.Lines.{lines_of}
use Rattle.session_text.specs.Sessions.{first_place}
use Rattle.session_text.proofs.Meanings.{lines_here, fails_here, not_both}
use Rattle.session_text.proofs.reader.made_lines.Goals as goal

pub returns : goal.returns
returns c = λ s h. lines_here c.args.bytes.now c.lines.rest.now c.lines.place c.lines.place.end c.lines.lines s.lines s.end c.lines.invariant c.in_default.ensures.lines refl h

pub unreachable-requires : goal.unreachable-requires
unreachable-requires c =
    not_both (lines_of c.args.bytes.now) first_place c.requires.0.lines c.requires.0.end _ c.in-Stops.field-0 c.requires.1
    (fails_here c.args.bytes.now c.lines.rest.now c.in-Some.next.rest.now c.lines.place c.lines.lines _ c.in-Stops.field-0 c.lines.invariant c.in-Some.ensures.lines c.in-Stops.ensures.turn)
