use Rattle.std.proofs.Common.{Option, subst}
use Rattle.cache_law.proofs.Histories.{Legal-beginning_of}
use Rattle.replay.specs.Plan.{plan_of}
use Rattle.replay.specs.declared.session.ReplayError.{ReplayError}
use Rattle.replay.specs.Pieces.{pieces}
use Rattle.replay.specs.Replayed.{IsWritten}
use Rattle.replay.specs.Went.{Stage, stage_of}
use Rattle.replay.proofs.Ending.{ends_at, nothing_played}
use Rattle.replay.proofs.Resting.{opens_settled}
use Rattle.replay.proofs.Sweeping.{swept_so}
use Rattle.replay.proofs.session.play_session.Goals as goal

pub returns-in-Err-clause-replayed : goal.returns-in-Err-clause-replayed
returns-in-Err-clause-replayed g c = rw c.unplayed.ensures (nothing_played (plan_of g.P.Policy.wants _) c.args.script (g.K.Sink.held c.args.sink.now) (Legal-beginning_of c.args.params.now c.args.boot))

pub returns-clause-replayed : goal.returns-clause-replayed
returns-clause-replayed g c =
    let cache = g.C.CacheCore in
    let policy = g.P.Policy in
    let played = c.play_events-played in
    let kept = played.ensures.keeps.core in
    let start : Stage g.row.P.Denot = record { moment = 0; waiting = c.new.result.items; parked = c.new-2.result.items; history = cache.history c.in-Ok.core } in
    let stage = stage_of cache.history played.new.play in
    let before = g.K.Sink.held c.args.sink.now in
    let middle = g.K.Sink.held played.new.sink in
    let now = g.K.Sink.held c.written-refusal.new.sink in
    ends_at policy.wants policy.stands c.args.params.now c.args.boot (cache.beginning c.in-Ok.core) (cache.beginning played.new.play.core) c.args.script start stage c.into_history.result before middle now c.new-3.result.items played.new.play.unwritten.items played.result c.has_nobody-nobody_waits.result c.written-refusal.result
    c.in-Ok.ensures.begins kept.same c.in-Ok.ensures.history c.into_history.ensures c.new-3.ensures.items kept.legal c.has_nobody-nobody_waits.ensures
    played.ensures.plays
    (subst (λ (ending : Option ReplayError). IsWritten (pieces middle played.new.play.unwritten.items) now ending c.written-refusal.result) c.refusal-ending.ensures c.written-refusal.ensures.written)

pub play_events-played-requires-clause-settled : goal.play_events-played-requires-clause-settled
play_events-played-requires-clause-settled g c =
    opens_settled c.args.params.now c.args.boot (g.C.CacheCore.beginning c.in-Ok.core) (record { moment = 0; waiting = c.new.result.items; parked = c.new-2.result.items; history = g.C.CacheCore.history c.in-Ok.core })
    c.in-Ok.ensures.begins c.in-Ok.ensures.history c.new.ensures.items c.new-2.ensures.items

pub returns-clause-swept : goal.returns-clause-swept
returns-clause-swept g c =
    let played = c.play_events-played in
    rw c.from_vec.ensures
    (swept_so c.args.script.events _ c.args.script.end played.result c.has_nobody-nobody_waits.result _ (g.K.Sink.held c.written-refusal.new.sink) c.refusal-ending.result c.written-refusal.result
    played.ensures.heard c.refusal-ending.ensures c.written-refusal.ensures.written)
