use Rattle.std.proofs.Common.{ℕ, arith}
use Rattle.std.proofs.lemmas.List.{length-take}
use Rattle.varn_audit.proofs.Pieces.{much_read, none_read, piece_read, whole_read}
use Rattle.varn_audit.proofs.reading.read_through.Goals as goal

pub pieces-init : goal.pieces-init
pieces-init g c = record {
  fed = none_read (g.S.Source.left c.args.source.now) c.new-auditor.result c.new-auditor.ensures;
  bound = omega arith;
  room = c.in_ok-room.ensures.len;
  later = omega arith;
}

pub returns-then-taken-eq0-clause-read : goal.returns-then-taken-eq0-clause-read
returns-then-taken-eq0-clause-read g c =
    whole_read (g.S.Source.left c.args.source.now) (g.S.Source.left c.pieces.source) (g.S.Source.left c.take_piece.new.source) c.pieces.auditor c.in_ok-taken.taken.auditor c.pieces.count c.in_ok-taken.taken.count c.pieces.invariant.fed
    c.in_ok-taken.ensures.taken c.if-taken-eq0.true c.pieces.invariant.bound

pub pieces-preserved : goal.pieces-preserved
pieces-preserved g c = record {
  fed = piece_read (g.S.Source.left c.args.source.now) (g.S.Source.left c.pieces.source) (g.S.Source.left c.take_piece.new.source) c.pieces.auditor c.in_ok-taken.taken.auditor c.pieces.count c.in_ok-taken.taken.count c.pieces.invariant.fed
      c.in_ok-taken.ensures.taken;
  bound = omega (arith, length-take {A = ℕ}, c.pieces-test.true, c.in_ok-taken.ensures.few, c.min-wanted.ensures);
  room = c.pieces.invariant.room;
  later = omega (arith, c.pieces.invariant.later, c.take_piece.ensures.later);
}

pub returns-clause-read : goal.returns-clause-read
returns-clause-read g c =
    much_read (g.S.Source.left c.args.source.now) (g.S.Source.left c.pieces.source) c.pieces.auditor c.pieces.count c.pieces.invariant.fed c.pieces.invariant.bound (omega (arith, c.pieces-test.false))
