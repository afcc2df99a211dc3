use Rattle.std.proofs.Common.{rules, arith, ◌≡◌, ◌<◌, ◌++◌, length}
use Rattle.history_audit.specs.Listing.{taken_line}
use Rattle.history_audit.proofs.Lines.{begins_passing, finds_all, lacks_some, passes_one}
use Rattle.history_audit.proofs.listing.lines_of.Goals as goal

pub bans-init : goal.bans-init
bans-init c = begins_passing c.args.bans.now.items c.args.shown.now c.new-lines.result.items c.new-lines.ensures.items

pub bans-preserved : goal.bans-preserved
bans-preserved c =
    let below : c.bans.place < length c.args.bans.now.items = omega (arith, c.args.bans.now.ok) in
    passes_one c.args.bans.now.items c.args.shown.now c.bans.place c.bans.lines.items c.take.new.lines.items c.bans.wanted.now c.in_ok-wanted.wanted.now c.index.result.now c.bans.invariant below c.index.ensures
    c.in_ok-wanted.ensures.lines c.in_ok-wanted.ensures.rest

pub returns-then-is_empty : goal.returns-then-is_empty
returns-then-is_empty c =
    finds_all c.args.bans.now.items c.args.shown.now c.bans.place c.bans.lines.items c.bans.wanted.now c.bans.invariant (omega (arith, c.args.bans.now.ok)) c.if-is_empty.ensures

pub returns-else-is_empty : goal.returns-else-is_empty
returns-else-is_empty c =
    lacks_some c.args.bans.now.items c.args.shown.now c.bans.place c.bans.lines.items c.bans.wanted.now c.bans.invariant (omega (arith, c.args.bans.now.ok)) c.if-is_empty.ensures
