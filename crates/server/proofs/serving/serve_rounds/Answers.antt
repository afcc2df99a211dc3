-- The rounds of a connection, from the first to the last.
use Rattle.std.proofs.Common.{arith}
use Rattle.wire.specs.Telling.{told_by}
use Rattle.server.proofs.Leads.{tells_rounds, sound_last, pass_last}
use Rattle.server.proofs.serving.serve_rounds.Goals as goal

pub returns-clause-tells : goal.returns-clause-tells
returns-clause-tells g c =
    rw c.into_parts-shift.ensures
    (tells_rounds _ _ c.new-held.result c.serve-ended.new.held _ c.serve-ended.new.responder c.serve-ended.result c.serve-ended.ensures.told _
    (told_by g.D.Link.Link.flow g.D.Link.Link.read_faults g.D.Link.Link.write_faults g.D.Link.Link.peer g.D.Link.Link.is_open) g.N.Keeper.Told g.D.Dialer.talks g.D.Dialer.dial_faults
    g.K.Clock.readings g.K.Clock.words (λ s t turn done. (done.1, done.3)) c.new-held.ensures)

pub returns-clause-pass : goal.returns-clause-pass
returns-clause-pass g c =
    let last = sound_last _ _ c.new-held.result c.serve-ended.new.held _ c.serve-ended.new.responder c.serve-ended.result c.serve-ended.ensures.told g.N.Keeper.room (λ s t turn done. (done.0, done.2))
    (record { pass = c.requires.pass; idle = c.requires.idle; legal = c.requires.legal; room = let some = c.requires.room in omega arith }) in
    rw c.into_parts-shift.ensures (pass_last _ _ c.new-held.result c.serve-ended.new.held _ c.serve-ended.new.responder c.serve-ended.result c.serve-ended.ensures.told g.N.Keeper.room last)

pub returns-clause-idle : goal.returns-clause-idle
returns-clause-idle g c =
    let last = sound_last _ _ c.new-held.result c.serve-ended.new.held _ c.serve-ended.new.responder c.serve-ended.result c.serve-ended.ensures.told g.N.Keeper.room (λ s t turn done. (done.0, done.2))
    (record { pass = c.requires.pass; idle = c.requires.idle; legal = c.requires.legal; room = let some = c.requires.room in omega arith }) in
    rw c.into_parts-shift.ensures last.1.idle

pub returns-clause-legal : goal.returns-clause-legal
returns-clause-legal g c =
    let last = sound_last _ _ c.new-held.result c.serve-ended.new.held _ c.serve-ended.new.responder c.serve-ended.result c.serve-ended.ensures.told g.N.Keeper.room (λ s t turn done. (done.0, done.2))
    (record { pass = c.requires.pass; idle = c.requires.idle; legal = c.requires.legal; room = let some = c.requires.room in omega arith }) in
    rw c.into_parts-shift.ensures last.1.legal

pub returns-clause-room : goal.returns-clause-room
returns-clause-room g c =
    let last = sound_last _ _ c.new-held.result c.serve-ended.new.held _ c.serve-ended.new.responder c.serve-ended.result c.serve-ended.ensures.told g.N.Keeper.room (λ s t turn done. (done.0, done.2))
    (record { pass = c.requires.pass; idle = c.requires.idle; legal = c.requires.legal; room = let some = c.requires.room in omega arith }) in
    rw c.into_parts-shift.ensures last.1.room
