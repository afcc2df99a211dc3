-- A read that failed behind the tries.
use Rattle.std.proofs.Common.{◌++◌, []}
use Rattle.wire.proofs.Flowing.{Moves-trans}
use Rattle.message_reader.specs.HeadsTold.{HeadTold}
use Rattle.message_reader.specs.Inputs.{Hears}
use Rattle.message_reader.proofs.HeadFacts.{unfilled_head}
use Rattle.message_reader.proofs.Errors.{at_err}
use Rattle.message_reader.proofs.heads.read_head.Goals as goal

pub returns-in_err-ended-clause-told : goal.returns-in_err-ended-clause-told
returns-in_err-ended-clause-told g c =
    let first = g.L.Link.flow c.args.link.now in
    let second = g.L.Link.flow c.reading.link in
    let third = g.L.Link.flow c.fill.new.link in
    let now = c.fill.new.held in
    let heard = c.reading.invariant.heard in
    let came = c.in_err-ended.ensures.told in
    let stop = c.in_err-ended.field-0.0 in
    at_err c.from_residual-in_err-ended.result stop (λ r. Hears first third c.args.held.now (HeadTold {H = g.row.H.Denot} g.H.Head.answers third now r))
    c.from_residual-in_err-ended.ensures.1 (
      heard.0 ++ came.0,
      Moves-trans first second third heard.0 came.0 [] [] heard.1 came.1,
      unfilled_head {H = g.row.H.Denot} g.H.Head.answers third c.take_due.new.held now (c.take_due.new.held ++ came.0) now (c.args.held.now ++ (heard.0 ++ came.0)) stop came.2,
    )
