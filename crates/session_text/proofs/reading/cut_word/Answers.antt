use Rattle.std.proofs.Common.{arith}
use Rattle.session_text.proofs.Cuts.{lacks_front, lacks_whole, cut_at}
use Rattle.session_text.proofs.reading.cut_word.Goals as goal

pub returns-then-byte-eq32 : goal.returns-then-byte-eq32
returns-then-byte-eq32 c = (lacks_front 32 c.args.text.now c.loop-place.place (omega arith) c.loop-place.invariant, cut_at 32 c.args.text.now c.loop-place.place c.loop-place-test.true c.if-byte-eq32.true)

pub returns : goal.returns
returns c = lacks_whole 32 c.args.text.now c.loop-place.place c.loop-place-test.false c.loop-place.invariant
