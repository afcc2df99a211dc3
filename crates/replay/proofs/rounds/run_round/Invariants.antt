use Rattle.std.proofs.Common.{◌*◌, ◌+◌, ◌≤◌, [], cond}
use Rattle.replay.specs.Plan.{plan_of}
use Rattle.replay.specs.Policy.{is_response}
use Rattle.replay.specs.Pieces.{pieces}
use Rattle.replay.specs.Scene.{Scene}
use Rattle.replay.specs.Waits.{RunsAlone}
use Rattle.replay.specs.Went.{Went, CanLead, HasTurn, IsStage, KeepsCore, IsInStep, spare, stage_of}
use Rattle.replay.proofs.Turns.{SoFar}
use Rattle.replay.proofs.rounds.run_round.Given as goal

-- so far the round made these calls and wrote this, and wants the next thing
abbrev pub invariant-wants : goal.invariant-wants
invariant-wants g l =
    let cache = g.C.CacheCore in
    let policy = g.P.Policy in
    let sink = g.K.Sink in
    record {
      went : (scene : Scene) → IsStage (plan_of policy.wants (cache.beginning l.fn.play.core)) policy.stands (stage_of cache.history l.fn.play) scene → HasTurn policy.wants policy.stands l.fn.policy l.fn.client l.fn.want scene
          → Went (plan_of policy.wants (cache.beginning l.fn.play.core)) scene [] (cache.history l.fn.play.core) (cache.history l.play.core)
          (SoFar (plan_of policy.wants (cache.beginning l.fn.play.core)) policy.stands l.fn.client (stage_of cache.history l.play) l.policy l.want (pieces (sink.held l.fn.sink) l.fn.play.unwritten.items) (pieces (sink.held l.sink) l.play.unwritten.items));
      can : CanLead policy.wants policy.stands l.policy l.fn.client l.want;
      alone : RunsAlone (cache.beginning l.play.core) (stage_of cache.history l.play) l.fn.client l.want;
      core : KeepsCore cache.beginning cache.history l.fn.play.core l.play.core;
      in_step : IsInStep (cache.beginning l.play.core) (cache.history l.play.core) l.play.moment;
      later : sink.faults l.fn.sink ≤ sink.faults l.sink;
    }

-- what is left of the history, and whether a response is wanted, which takes no entry
abbrev pub decreases-wants : goal.decreases-wants
decreases-wants g l = 2 * spare (g.C.CacheCore.beginning l.play.core) (g.C.CacheCore.history l.play.core) + cond (is_response l.want) 1 0
