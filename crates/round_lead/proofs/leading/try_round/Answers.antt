-- Without memory for its request a round never begins.
use Rattle.turnstile.specs.Handles.{known}
use Rattle.round_lead.specs.declared.cut.Cut.TheVariants.{NoMemory}
use Rattle.round_lead.proofs.Did.{did_none}
use Rattle.round_lead.proofs.Responses.{led_none}
use Rattle.wire.specs.Telling.{told_by}
use Rattle.round_lead.proofs.leading.try_round.Goals as goal

pub returns-in-Err-clause-led : goal.returns-in-Err-clause-led
returns-in-Err-clause-led g c =
    let first = c.requires.first in
    (led_none _ (told_by g.D.Link.Link.flow g.D.Link.Link.read_faults g.D.Link.Link.write_faults g.D.Link.Link.peer g.D.Link.Link.is_open) c.args.request.now c.args.peer _ (known c.args.shift.now.pass) (g.L.Link.flow c.args.link.now) _ _ _ c.args.progress.now c.requires.legal.beginning NoMemory
    c.requires.legal.begins first.no_place first.no_exchange first.nothing_sent first.stays (record { did = λ backends. did_none (told_by g.D.Link.Link.flow g.D.Link.Link.read_faults g.D.Link.Link.write_faults g.D.Link.Link.peer g.D.Link.Link.is_open) backends _; why = tt })).0

pub returns-in-Ok-clause-led : goal.returns-in-Ok-clause-led
returns-in-Ok-clause-led g c = rw c.in-Ok.ensures at c.make_round.ensures.led
