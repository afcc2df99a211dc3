use Rattle.std.proofs.Common.{arith}
use Rattle.session_text.proofs.Cuts.{next_ended, lines_last_some, lacks_whole}
use Rattle.session_text.proofs.lines.next_line.Goals as goal

pub returns-then-byte-eq10-clause-lines : goal.returns-then-byte-eq10-clause-lines
returns-then-byte-eq10-clause-lines c = next_ended c.args.text.now c.loop-place.place c.loop-place-test.true c.if-byte-eq10.true c.loop-place.invariant

pub returns-clause-lines : goal.returns-clause-lines
returns-clause-lines c = lines_last_some c.args.text.now (omega arith) (lacks_whole 10 c.args.text.now c.loop-place.place c.loop-place-test.false c.loop-place.invariant)
