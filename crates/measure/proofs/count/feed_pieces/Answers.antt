-- One piece more.
use Rattle.std.proofs.Common.{◌+◌, ◌-◌, inr, drop, arith, length-drop}
use Rattle.std.proofs.lemmas.List.{length-take}
use Rattle.http_bodies.proofs.Fronts.{not_refused}
use Rattle.measure.proofs.Pieces.{piece_fed, piece_refused}
use Rattle.measure.proofs.count.feed_pieces.Goals as goal

pub loop-at-preserved : goal.loop-at-preserved
loop-at-preserved c =
    let t = c.in-Ok.ensures.taken in
    let fed = piece_fed c.args.reader.now c.loop-at.reader c.feed.new.self c.args.input.now c.loop-at.at (c.loop-at.at + c.min-wanted.result - c.loop-at.at) c.in-Ok.count
    c.loop-at.invariant.within c.loop-at.invariant.follows t.0.within t.1 in
    record { within = fed.0; follows = fed.1; kept = inr (not_refused c.in-Ok.count c.loop-at.reader c.feed.new.self _ t.0 t.1) }

pub returns-then-count-wanted-clause-taken : goal.returns-then-count-wanted-clause-taken
returns-then-count-wanted-clause-taken c =
    let t = c.in-Ok.ensures.taken in
    piece_fed c.args.reader.now c.loop-at.reader c.feed.new.self c.args.input.now c.loop-at.at (c.loop-at.at + c.min-wanted.result - c.loop-at.at) c.in-Ok.count
    c.loop-at.invariant.within c.loop-at.invariant.follows t.0.within t.1

pub returns-then-count-wanted-clause-end : goal.returns-then-count-wanted-clause-end
returns-then-count-wanted-clause-end c less =
    c.in-Ok.ensures.end (omega (
      arith,
      c.if-count-wanted.true,
      c.min-wanted.ensures,
      length-take (c.loop-at.at + c.min-wanted.result - c.loop-at.at) (drop c.loop-at.at c.args.input.now),
      length-drop c.loop-at.at c.args.input.now,
    ))

pub returns-then-count-wanted-clause-kept : goal.returns-then-count-wanted-clause-kept
returns-then-count-wanted-clause-kept c =
    let t = c.in-Ok.ensures.taken in
    inr (not_refused c.in-Ok.count c.loop-at.reader c.feed.new.self _ t.0 t.1)

pub returns-in-Err-clause-refused : goal.returns-in-Err-clause-refused
returns-in-Err-clause-refused c other =
    let i = c.loop-at.invariant in
    piece_refused c.args.reader.now c.loop-at.reader c.args.input.now c.loop-at.at (c.loop-at.at + c.min-wanted.result - c.loop-at.at) c.in-Err.error
    i.within i.follows i.kept (c.in-Err.ensures.refused other).1
