use Rattle.cache_law.specs.Beginning.{beginning_of}
use Rattle.varn_program.proofs.Outcomes.{has_ended, wanting_ended}
use Rattle.varn_program.proofs.Sessions.{session-vcl}
use Rattle.varn_program.proofs.playing.play.Goals as goal

pub returns-in-Err-clause-ended : goal.returns-in-Err-clause-ended
returns-in-Err-clause-ended g c = wanting_ended c.args.vmods.now.stored c.args.params.now c.args.session (g.K.Sink.held c.args.sink.now) c.stopped.result c.stopped.ensures

pub returns-in-Err-copy-clause-ended : goal.returns-in-Err-copy-clause-ended
returns-in-Err-copy-clause-ended g c = wanting_ended c.args.vmods.now.stored c.args.params.now c.args.session (g.K.Sink.held c.args.sink.now) c.stopped-in-Err-copy.result c.stopped-in-Err-copy.ensures

pub returns-clause-ended : goal.returns-clause-ended
returns-clause-ended g c =
    has_ended c.args.vmods.now.stored c.args.params.now c.args.session _ _ c.in-Ok.boot c.run_session-replayed.result.played.history c.run_session-replayed.result.played.swept c.run_session-replayed.result.refusal c.ended.result c.in-Ok.ensures c.ended.ensures
    (session-vcl _ _ (beginning_of c.args.params.now c.in-Ok.boot) c.args.vmods.now.stored c.args.session c.run_session-replayed.result.played.history _ _ c.run_session-replayed.result.refusal (rw c.deref.ensures at c.run_session-replayed.ensures.replayed))
