use Rattle.std.proofs.Common.{◌≡◌, ◌≤◌, ◌++◌, Ok, length, sum_by}
use Rattle.std.specs.Vec.Iter.{into_iter_items, into_iter_len}
use Rattle.replay.specs.Plan.{plan_of}
use Rattle.replay.specs.Scene.{AtRest, opening_scene}
use Rattle.replay.specs.Swept.{lurks}
use Rattle.replay.specs.Waits.{IsSettled}
use Rattle.replay.specs.Went.{Went, ComesTo, KeepsCore, IsInStep, change_of, events_in, stage_of}
use Rattle.replay.proofs.schedule.play_events.Given as goal

-- the events so far are played
abbrev pub invariant-loop-numbered : goal.invariant-loop-numbered
invariant-loop-numbered g l =
    let cache = g.C.CacheCore in
    let policy = g.P.Policy in
    let sink = g.K.Sink in
    record {
      taken : l.yielded ++ into_iter_items l.numbered-iterator ≡ into_iter_items l.initial.numbered-iterator;
      counted : into_iter_len l.numbered-iterator ≡ length (into_iter_items l.numbered-iterator);
      plays : Went (plan_of policy.wants (cache.beginning l.fn.play.core)) (opening_scene (plan_of policy.wants (cache.beginning l.fn.play.core))) (events_in l.yielded) (cache.history l.fn.play.core) (cache.history l.play.core)
          (ComesTo (plan_of policy.wants (cache.beginning l.fn.play.core)) policy.stands AtRest (change_of cache.history sink.held l.fn.play l.play l.fn.sink l.sink) (Ok tt));
      heard : length l.swept.items ≡ sum_by lurks l.yielded;
      settled : IsSettled (cache.beginning l.play.core) (stage_of cache.history l.play);
      core : KeepsCore cache.beginning cache.history l.fn.play.core l.play.core;
      in_step : IsInStep (cache.beginning l.play.core) (cache.history l.play.core) l.play.moment;
      later : sink.faults l.fn.sink ≤ sink.faults l.sink;
    }
