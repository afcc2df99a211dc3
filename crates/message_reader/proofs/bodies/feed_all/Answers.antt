-- What was fed, and what came behind it.
use Rattle.std.proofs.Common.{◌++◌, [], List, ℕ, take, inl, inr, ◌∙◌, ap, arith}
use Rattle.wire.proofs.Flowing.{Moves-trans}
use Rattle.message_reader.specs.BodiesTold.{FeedTold}
use Rattle.message_reader.specs.Inputs.{Hears}
use Rattle.message_reader.proofs.BodyFacts.{fed_more, used_more, all_taken, unfilled_feed, joined_more}
use Rattle.message_reader.proofs.Errors.{at_err}
use Rattle.message_reader.proofs.bodies.feed_all.Goals as goal

pub returns-then-branch-clause-told : goal.returns-then-branch-clause-told
returns-then-branch-clause-told g c =
    let heard = c.loop-turn.invariant.heard in
    let fed = c.in_ok-feed_held.ensures in
    let held = c.loop-turn.held in
    let rest = c.feed_held.new.held in
    let input = c.args.held.now ++ heard.0 in (
      heard.0,
      heard.1,
      all_taken c.args.reader.now c.loop-turn.reader c.feed_held.new.reader (g.L.Link.flow c.loop-turn.link) heard.2.0 held rest input fed.0 heard.2.2 fed.1 fed.2 fed.3
          (used_more heard.2.0 held rest input fed.0 heard.2.1 fed.3) (inl (fed.4 c.if-branch.true)),
    )

pub returns-in_err-fill-clause-told : goal.returns-in_err-fill-clause-told
returns-in_err-fill-clause-told g c =
    let first = g.L.Link.flow c.args.link.now in
    let second = g.L.Link.flow c.loop-turn.link in
    let third = g.L.Link.flow c.fill.new.link in
    let heard = c.loop-turn.invariant.heard in
    let came = c.in_err-fill.ensures.told in
    let stop = c.in_err-fill.field-0.0 in
    let rest = c.feed_held.new.held in
    let now = c.fill.new.held in
    at_err c.from_residual-in_err-fill.result stop (λ r. Hears first third c.args.held.now (FeedTold c.args.reader.now c.feed_held.new.reader third now r))
    c.from_residual-in_err-fill.ensures.1 (
      heard.0 ++ came.0,
      Moves-trans first second third heard.0 came.0 [] [] heard.1 came.1,
      unfilled_feed c.args.reader.now third rest now (rest ++ came.0) (c.args.held.now ++ (heard.0 ++ came.0)) stop came.2,
    )

pub returns-then-branch-eq0-clause-told : goal.returns-then-branch-eq0-clause-told
returns-then-branch-eq0-clause-told g c =
    let first = g.L.Link.flow c.args.link.now in
    let second = g.L.Link.flow c.loop-turn.link in
    let third = g.L.Link.flow c.fill.new.link in
    let heard = c.loop-turn.invariant.heard in
    let fed = c.in_ok-feed_held.ensures in
    let came = c.in_ok-fill.ensures.told in
    let held = c.loop-turn.held in
    let rest = c.feed_held.new.held in
    let used = heard.2.0 ++ take fed.0 held in
    let before = used_more heard.2.0 held rest (c.args.held.now ++ heard.0) fed.0 heard.2.1 fed.3 in
    let after = ap (λ (l : List ℕ). used ++ l) came.2.0 ∙ joined_more used rest c.args.held.now heard.0 came.0 before in
    let over = came.2.1 c.if-branch-eq0.true in (
      heard.0 ++ came.0,
      Moves-trans first second third heard.0 came.0 [] [] heard.1 came.1,
      all_taken c.args.reader.now c.loop-turn.reader c.feed_held.new.reader third heard.2.0 held c.fill.new.held (c.args.held.now ++ (heard.0 ++ came.0)) fed.0 heard.2.2 fed.1 fed.2
          (over.0 ∙ fed.3) after (inr over.1),
    )

pub loop-turn-preserved : goal.loop-turn-preserved
loop-turn-preserved g c =
    let first = g.L.Link.flow c.args.link.now in
    let second = g.L.Link.flow c.loop-turn.link in
    let third = g.L.Link.flow c.fill.new.link in
    let heard = c.loop-turn.invariant.heard in
    let fed = c.in_ok-feed_held.ensures in
    let came = c.in_ok-fill.ensures.told in
    let held = c.loop-turn.held in
    let rest = c.feed_held.new.held in
    let used = heard.2.0 ++ take fed.0 held in
    let before = used_more heard.2.0 held rest (c.args.held.now ++ heard.0) fed.0 heard.2.1 fed.3 in
    let after = ap (λ (l : List ℕ). used ++ l) came.2.0 ∙ joined_more used rest c.args.held.now heard.0 came.0 before in
    record {
      heard = (
        heard.0 ++ came.0,
        Moves-trans first second third heard.0 came.0 [] [] heard.1 came.1,
        (used, after, fed_more c.args.reader.now c.loop-turn.reader c.feed_held.new.reader heard.2.0 held fed.0 heard.2.2 fed.1 fed.2),
      );
      later = omega (arith, c.in_ok-fill.ensures.later);
      other = c.in_ok-fill.ensures.other ∙ c.loop-turn.invariant.other;
      peer = c.in_ok-fill.ensures.peer ∙ c.loop-turn.invariant.peer;
    }
