use Rattle.std.proofs.Common.{arith}
use Rattle.std.proofs.KnownBytes.{Keeps-trans}
use Rattle.wire.proofs.Settling.{cause_of, rose_again, write_again}
use Rattle.system.proofs.stream.write_counted.Goals as goal

pub returns-in-Some-clause-cause : goal.returns-in-Some-clause-cause
returns-in-Some-clause-cause g c = cause_of c.write-answer.result _ c.in-Some.settled _ _ _ c.loop-turn.invariant.later c.in-Some.ensures.later c.in-Some.ensures.settles

pub loop-turn-preserved : goal.loop-turn-preserved
loop-turn-preserved g c = record {
  later = omega (arith, c.loop-turn.invariant.later, c.in_default.ensures.later);
  rose = λ _. rose_again c.write-answer.result _ _ _ _ c.loop-turn.invariant.later c.in_default.ensures.settles;
  kept = Keeps-trans _ _ _ c.loop-turn.invariant.kept (write_again c.write-answer.result _ _ _ _ _ _ c.in_default.ensures.settles c.write-answer.ensures.bytes);
}
