-- One more write adds the next part of the piece.
use Rattle.std.proofs.Common.{◌≡◌, ◌-◌, arith, take, drop, length, length-drop}
use Rattle.std.proofs.Math.Seq.{take-add}
use Rattle.std.proofs.KnownBytes.{Appends-trans}
use Rattle.std.proofs.lemmas.List.{take_all}
use Rattle.wire.proofs.copying.write_all.Goals as goal

pub loop-at-preserved : goal.loop-at-preserved
loop-at-preserved g c =
    let rest = drop c.loop-at.at c.args.piece.now in
    let all : take (length c.args.piece.now - c.loop-at.at) rest ≡ rest =
    take_all _ rest (omega (arith, length-drop c.loop-at.at c.args.piece.now)) in
    let wrote = rw all at c.in-Ok.ensures.bytes in
    record {
      within = omega (arith, c.in-Ok.ensures.bound, length-drop c.loop-at.at c.args.piece.now);
      taken = rw take-add (Appends-trans _ _ _ _ _ c.loop-at.invariant.taken wrote);
      later = omega (arith, c.in-Ok.ensures.cause.later);
    }
