use Rattle.replay.specs.Plan.{plan_of}
use Rattle.replay.specs.Pieces.{pieces}
use Rattle.replay.specs.Scene.{AtRest}
use Rattle.replay.specs.Went.{stage_of}
use Rattle.replay.proofs.Hearing.{comes_at, comes_then}
use Rattle.replay.proofs.Playing.{changed}
use Rattle.replay.proofs.waking.lead.Goals as goal

pub returns-in-Ok-clause-went : goal.returns-in-Ok-clause-went
returns-in-Ok-clause-went g c = λ scene stage turn.
    let cache = g.C.CacheCore in
    let policy = g.P.Policy in
    let first = cache.beginning c.args.play.now.core in
    let now = cache.beginning c.run_round.new.play.core in
    let start = stage_of cache.history c.args.play.now in
    let middle = stage_of cache.history c.run_round.new.play in
    let after = stage_of cache.history c.settle.new.play in
    let none = pieces (g.K.Sink.held c.args.sink.now) c.args.play.now.unwritten.items in
    let some = pieces (g.K.Sink.held c.run_round.new.sink) c.run_round.new.play.unwritten.items in
    let more = pieces (g.K.Sink.held c.settle.new.sink) c.settle.new.play.unwritten.items in
    comes_then (plan_of policy.wants first) policy.stands AtRest scene start.history middle.history after.history start middle after none some more c.settle.result (c.in-Ok.ensures.went scene stage turn)
    (comes_at policy.wants policy.stands AtRest first now middle (changed middle after some more) middle.history after.history c.settle.result c.in-Ok.ensures.keeps.core.same c.settle.ensures.went)
