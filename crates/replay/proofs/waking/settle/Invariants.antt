use Rattle.std.proofs.Common.{◌≤◌, [], Ok}
use Rattle.replay.specs.Plan.{plan_of}
use Rattle.replay.specs.Scene.{Scene}
use Rattle.replay.specs.Waits.{IsSettled}
use Rattle.replay.specs.Went.{Went, ComesTo, IsStage, IsSet, KeepsCore, IsInStep, NobodyRuns, change_of, spare, stage_of}
use Rattle.replay.proofs.waking.settle.Given as goal

-- so far these rounds woke, and nobody runs
abbrev pub invariant-wakes : goal.invariant-wakes
invariant-wakes g l =
    let cache = g.C.CacheCore in
    let policy = g.P.Policy in
    let sink = g.K.Sink in
    record {
      went : (scene : Scene) → IsStage (plan_of policy.wants (cache.beginning l.fn.play.core)) policy.stands (stage_of cache.history l.fn.play) scene → NobodyRuns scene
          → Went (plan_of policy.wants (cache.beginning l.fn.play.core)) scene [] (cache.history l.fn.play.core) (cache.history l.play.core)
          (ComesTo (plan_of policy.wants (cache.beginning l.fn.play.core)) policy.stands NobodyRuns (change_of cache.history sink.held l.fn.play l.play l.fn.sink l.sink) (Ok tt));
      set : IsSet (plan_of policy.wants (cache.beginning l.play.core)) policy.stands (stage_of cache.history l.play);
      settled : IsSettled (cache.beginning l.play.core) (stage_of cache.history l.play);
      core : KeepsCore cache.beginning cache.history l.fn.play.core l.play.core;
      in_step : IsInStep (cache.beginning l.play.core) (cache.history l.play.core) l.play.moment;
      later : sink.faults l.fn.sink ≤ sink.faults l.sink;
    }

abbrev pub decreases-wakes : goal.decreases-wakes
decreases-wakes g l = spare (g.C.CacheCore.beginning l.play.core) (g.C.CacheCore.history l.play.core)
