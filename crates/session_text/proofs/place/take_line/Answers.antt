use Rattle.session_text.specs.Lines.{text_line}
use Rattle.session_text.proofs.Commanded.{turn_says, turn_ends, turn_passes, turn_stops}
use Rattle.session_text.proofs.place.take_line.Goals as goal

pub returns-in-Passed-clause-turn : goal.returns-in-Passed-clause-turn
returns-in-Passed-clause-turn c = turn_passes c.args.place (text_line c.args.next.body.now c.args.next.ended) c.in-Some.room c.in-Some.ensures.0 c.in-Some.ensures.1 (rw c.content_of.ensures at c.in-Passed.ensures)

pub returns-in-End-clause-turn : goal.returns-in-End-clause-turn
returns-in-End-clause-turn c = turn_ends c.args.place (text_line c.args.next.body.now c.args.next.ended) c.turn_of_end.result c.in-Some.room c.in-Some.ensures.0 c.in-Some.ensures.1 (rw c.content_of.ensures at c.in-End.ensures) c.turn_of_end.ensures.step c.turn_of_end.ensures.alone

pub returns-in-Says-clause-turn : goal.returns-in-Says-clause-turn
returns-in-Says-clause-turn c = turn_says c.args.place (text_line c.args.next.body.now c.args.next.ended) c.in-Says.command c.turn_of_line.result c.in-Some.room c.moment_behind-moment.result c.in-Some.ensures.0 c.in-Some.ensures.1 (rw c.content_of.ensures at c.in-Says.ensures) c.turn_of_line.ensures.step c.moment_behind-moment.ensures c.turn_of_line.ensures.given

pub returns-in-Bad-clause-turn : goal.returns-in-Bad-clause-turn
returns-in-Bad-clause-turn c = turn_stops c.args.place (text_line c.args.next.body.now c.args.next.ended) c.content_of.result.now c.in-Bad.kind c.in-Some.ensures.0 c.content_of.ensures c.in-Bad.ensures
