-- What the reader told of all that came.
use Rattle.std.proofs.Common.{◌++◌, Err, refl, sym, subst}
use Rattle.message_reader.specs.BodiesTold.{BodyTold}
use Rattle.message_reader.specs.Inputs.{Hears}
use Rattle.message_reader.specs.declared.stop.Stop.{Stop}
use Rattle.message_reader.proofs.BodyFacts.{body_found, body_unfinished, body_stopped}
use Rattle.message_reader.proofs.Errors.{at_err}
use Rattle.message_reader.proofs.bodies.read_body.Goals as goal

pub returns-in_err-feed_all-clause-told : goal.returns-in_err-feed_all-clause-told
returns-in_err-feed_all-clause-told g c =
    let first = g.L.Link.flow c.args.link.now in
    let second = g.L.Link.flow c.feed_all.new.link in
    let fed = c.in_err-feed_all.ensures.told in
    let stop = c.in_err-feed_all.field-0.0 in
    let rest = c.feed_all.new.held in
    at_err c.from_residual.result stop (λ r. Hears first second c.args.held.now (BodyTold c.args.framing c.args.limit second rest r)) c.from_residual.ensures.1
    (fed.0, fed.1, body_stopped c.args.framing c.args.limit c.of-reader.result second rest (c.args.held.now ++ fed.0) stop c.of-reader.ensures.starts fed.2)

pub returns-in-Ok-clause-told : goal.returns-in-Ok-clause-told
returns-in-Ok-clause-told g c =
    let fed = c.in_ok-feed_all.ensures.told in (
      fed.0,
      fed.1,
      body_found c.args.framing c.args.limit c.of-reader.result c.feed_all.new.reader (g.L.Link.flow c.feed_all.new.link) c.feed_all.new.held (c.args.held.now ++ fed.0) c.in-Ok.body
          c.of-reader.ensures.starts fed.2 c.in-Ok.ensures.whole,
    )

pub returns-in-Err-clause-told : goal.returns-in-Err-clause-told
returns-in-Err-clause-told g c =
    let second = g.L.Link.flow c.feed_all.new.link in
    let fed = c.in_ok-feed_all.ensures.told in
    let input = c.args.held.now ++ fed.0 in
    let rest = c.feed_all.new.held in
    let told = body_unfinished c.args.framing c.args.limit c.of-reader.result c.feed_all.new.reader second rest input (Err c.in-Err.error) c.in-Err.error c.of-reader.ensures.starts fed.2
    refl c.in-Err.ensures.found c.in-Err.ensures.kinds in
    (fed.0, fed.1, subst (λ (s : Stop). BodyTold c.args.framing c.args.limit second rest (Err s) input) (sym c.stop_of_body.ensures) told)
