-- The first word is drawn, and the Begin is made or not.
use Rattle.round_lead.proofs.Going.{begins, begin_declined}
use Rattle.wire.specs.Telling.{told_by, dialer_told_by}
use Rattle.round_lead.proofs.leading.begin.Goals as goal

pub returns-in-Ok-clause-began : goal.returns-in-Ok-clause-began
returns-in-Ok-clause-began g c = λ over.
    let made = rw c.word.ensures.readings at c.in-Ok.ensures.made in
    begins (told_by g.D.Link.Link.flow g.D.Link.Link.read_faults g.D.Link.Link.write_faults g.D.Link.Link.peer g.D.Link.Link.is_open) over (dialer_told_by g.D.Dialer.talks g.D.Dialer.dial_faults c.args.shift.now.kit.dialer) _ _ _ _ _ _ _ c.args.progress.now c.call_on.new.progress c.word.result c.word.ensures.word c.in-Ok.ensures.words
    c.in-Ok.told made

pub returns-in-Err-clause-began : goal.returns-in-Err-clause-began
returns-in-Err-clause-began g c = λ over.
    let made = rw c.word.ensures.readings at c.in-Err.ensures.declined in
    rw c.cut_at.ensures (begin_declined (told_by g.D.Link.Link.flow g.D.Link.Link.read_faults g.D.Link.Link.write_faults g.D.Link.Link.peer g.D.Link.Link.is_open) over (dialer_told_by g.D.Dialer.talks g.D.Dialer.dial_faults c.args.shift.now.kit.dialer) _ _ _ _ _ _ _ c.args.progress.now c.call_on.new.progress c.word.result
    c.word.ensures.word c.in-Err.ensures.words c.in-Err.error made)
