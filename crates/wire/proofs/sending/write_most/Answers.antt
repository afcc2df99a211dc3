-- One more write adds the next part of the piece.
use Rattle.std.proofs.Common.{◌≡◌, ◌-◌, ◌∙◌, [], refl, arith, take, drop, length, length-drop}
use Rattle.std.proofs.Math.Seq.{take-add}
use Rattle.std.proofs.lemmas.List.{take_all}
use Rattle.wire.proofs.Flowing.{Moves-none, Moves-trans}
use Rattle.wire.proofs.sending.write_most.Goals as goal

pub loop-at-init : goal.loop-at-init
loop-at-init g c = record {
  within = omega arith;
  taken = Moves-none _;
  later = omega arith;
  other = refl;
  peer = refl;
}

pub loop-at-preserved : goal.loop-at-preserved
loop-at-preserved g c =
    let rest = drop c.loop-at.at c.args.piece.now in
    let all : take (length c.args.piece.now - c.loop-at.at) rest ≡ rest =
    take_all _ rest (omega (arith, length-drop c.loop-at.at c.args.piece.now)) in
    let wrote = rw all at c.in-Ok.ensures.bytes in
    record {
      within = omega (arith, c.in-Ok.ensures.bound, length-drop c.loop-at.at c.args.piece.now);
      taken = rw take-add (Moves-trans _ _ _ [] [] _ _ c.loop-at.invariant.taken wrote);
      later = omega (arith, c.in-Ok.ensures.cause.later);
      other = c.in-Ok.ensures.other ∙ c.loop-at.invariant.other;
      peer = c.in-Ok.ensures.peer ∙ c.loop-at.invariant.peer;
    }
