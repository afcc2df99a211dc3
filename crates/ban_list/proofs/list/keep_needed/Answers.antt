use Rattle.std.proofs.Common.{arith, ◌-◌}
use Rattle.ban_list.proofs.NeededLemmas.{turns_first, turns_on, turns_end, sums_same, count_within}
use Rattle.ban_list.proofs.list.keep_needed.Goals as goal

pub loop-left-init : goal.loop-left-init
loop-left-init c =
    turns_first c.args.lines.now.items c.args.placed.now.items c.args.marked.now.items c.args.equals.now c.len-left.result
    c.turn_last-placed_below.result c.turn_last-marked_below.result c.turn_last-placed_below.new.counts.items c.turn_last-marked_below.new.counts.items
    c.requires.places c.requires.marks c.requires.index (omega (arith, c.len-left.ensures, c.args.lines.now.ok))
    c.turn_last-placed_below.ensures c.turn_last-marked_below.ensures

pub turn_last-placed_below-requires-in-loop-left-clause-few :
    goal.turn_last-placed_below-requires-in-loop-left-clause-few
turn_last-placed_below-requires-in-loop-left-clause-few c =
    let same = sums_same _ _ _ _ _ _ _ _ _ _ c.loop-left.invariant in omega (arith, same.0, c.requires.places.few)

pub overflow_add-placed_below : goal.overflow_add-placed_below
overflow_add-placed_below c =
    let turns = c.loop-left.invariant in
    let within =
    count_within c.args.placed.now.items turns.newer_placed turns.older_placed c.loop-left.placed.items _ c.loop-left.left c.loop-left.placed_below c.turn_last-placed_below-in-loop-left.result
    c.turn_oldest-stays.result _ turns.whole_placed turns.long_placed c.loop-left-test.true turns.placed_are turns.placed_sum c.turn_last-placed_below-in-loop-left.ensures in
    omega (arith, within, c.requires.places.few)

pub turn_last-marked_below-requires-in-loop-left-clause-few :
    goal.turn_last-marked_below-requires-in-loop-left-clause-few
turn_last-marked_below-requires-in-loop-left-clause-few c =
    let same = sums_same _ _ _ _ _ _ _ _ _ _ c.loop-left.invariant in omega (arith, same.1, c.requires.marks.few)

pub overflow_add-marked_below : goal.overflow_add-marked_below
overflow_add-marked_below c =
    let turns = c.loop-left.invariant in
    let within =
    count_within c.args.marked.now.items turns.newer_marked turns.older_marked c.loop-left.marked.items _ c.loop-left.left c.loop-left.marked_below c.turn_last-marked_below-in-loop-left.result
    c.turn_oldest-stays.result _ turns.whole_marked turns.long_marked c.loop-left-test.true turns.marked_are turns.marked_sum c.turn_last-marked_below-in-loop-left.ensures in
    omega (arith, within, c.requires.marks.few)

pub loop-left-preserved : goal.loop-left-preserved
loop-left-preserved c =
    turns_on c.requires.falling.0 c.args.lines.now.items c.args.placed.now.items c.args.marked.now.items c.loop-left.left (c.loop-left.left - 1)
    c.loop-left.placed_below c.loop-left.marked_below c.loop-left.lines.items c.turn_oldest-stays.new.lines.items
    c.loop-left.placed.items c.turn_last-placed_below-in-loop-left.new.counts.items c.loop-left.marked.items c.turn_last-marked_below-in-loop-left.new.counts.items
    c.loop-left.equals c.turn_oldest-stays.new.equals c.turn_oldest-stays.result c.turn_last-placed_below-in-loop-left.result c.turn_last-marked_below-in-loop-left.result
    c.requires.falling.1 c.requires.completed (omega (arith, c.loop-left-test.true)) c.loop-left.invariant
    (λ others oldest is. (c.turn_oldest-stays.ensures.needed others oldest is, c.turn_oldest-stays.ensures.lines others oldest is, c.turn_oldest-stays.ensures.index others oldest is))
    c.turn_last-placed_below-in-loop-left.ensures c.turn_last-marked_below-in-loop-left.ensures

pub returns-clause-lines : goal.returns-clause-lines
returns-clause-lines c = (turns_end _ _ _ _ _ _ _ _ _ _ c.loop-left.invariant (omega (arith, c.loop-left-test.false))).lines_are

pub returns-clause-index : goal.returns-clause-index
returns-clause-index c = (turns_end _ _ _ _ _ _ _ _ _ _ c.loop-left.invariant (omega (arith, c.loop-left-test.false))).index

pub returns-clause-places : goal.returns-clause-places
returns-clause-places c = (turns_end _ _ _ _ _ _ _ _ _ _ c.loop-left.invariant (omega (arith, c.loop-left-test.false))).placed_are

pub returns-clause-marks : goal.returns-clause-marks
returns-clause-marks c = (turns_end _ _ _ _ _ _ _ _ _ _ c.loop-left.invariant (omega (arith, c.loop-left-test.false))).marked_are
