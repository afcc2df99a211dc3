use Rattle.std.proofs.Common.{◌≡◌, Ok, Err, None, [], subst, arith, ap, sym, ◌∙◌, List}
use Rattle.std.specs.Prelude.{position}
use Rattle.cache_law.specs.Beginning.{Beginning}
use Rattle.cache_law.specs.History.{reached}
use Rattle.cache_law.specs.State.{is_closed}
use Rattle.replay.specs.Plan.{plan_of}
use Rattle.replay.specs.declared.rounds.Kept.{Kept}
use Rattle.replay.specs.Pieces.{pieces}
use Rattle.replay.specs.Scene.{AtRest}
use Rattle.replay.specs.Went.{NobodyRuns, stage_of}
use Rattle.replay.proofs.Hearing.{comes_at, comes_then, rests_now, set_on, set_still}
use Rattle.replay.proofs.Playing.{changed}
use Rattle.replay.proofs.Runs.{went-here, went-map}
use Rattle.replay.proofs.Taking.{Takes-nil}
use Rattle.replay.proofs.Turns.{KeepsCore-then, KeepsCore-none}
use Rattle.replay.proofs.waking.settle.Goals as goal

pub wakes-init : goal.wakes-init
wakes-init g c =
    record {
      went = λ scene stage rests. went-here _ scene _ _ (rests, stage, Takes-nil _);
      set = c.requires.set;
      settled = c.requires.settled;
      core = KeepsCore-none g.C.CacheCore.beginning g.C.CacheCore.history _;
      in_step = c.requires.in_step;
      later = omega arith;
    }

pub wakes-preserved : goal.wakes-preserved
wakes-preserved g c =
    let cache = g.C.CacheCore in
    let policy = g.P.Policy in
    let first = cache.beginning c.args.play.now.core in
    let now = cache.beginning c.wakes.play.core in
    let start = stage_of cache.history c.args.play.now in
    let before = stage_of cache.history c.wakes.play in
    let after = stage_of cache.history c.wake.new.play in
    let none = pieces (g.K.Sink.held c.args.sink.now) c.args.play.now.unwritten.items in
    let some = pieces (g.K.Sink.held c.wakes.sink) c.wakes.play.unwritten.items in
    let more = pieces (g.K.Sink.held c.wake.new.sink) c.wake.new.play.unwritten.items in
    let still = set_still policy.wants policy.stands now before c.wakes.invariant.set in
    record {
      went = λ scene stage rests.
          comes_then (plan_of policy.wants first) policy.stands NobodyRuns scene start.history before.history after.history start before after none some more (Ok tt) (c.wakes.invariant.went scene stage rests)
          (comes_at policy.wants policy.stands NobodyRuns first now before (changed before after some more) before.history after.history (Ok tt) c.wakes.invariant.core.same c.in-Ok.ensures.went);
      set = set_on policy.wants policy.stands NobodyRuns now (cache.beginning c.wake.new.play.core) still.0 [] (changed before after some more) before.history after.history c.in-Ok.ensures.keeps.core.same (c.in-Ok.ensures.went still.0 still.1 still.2);
      settled = c.in-Ok.ensures.settled;
      core = KeepsCore-then cache.beginning cache.history _ _ _ c.wakes.invariant.core c.in-Ok.ensures.keeps.core;
      in_step = c.in-Ok.ensures.keeps.in_step;
      later = omega (arith, c.wakes.invariant.later, c.in-Ok.ensures.keeps.sink_used.later);
    }

pub returns-in-Err-clause-went : goal.returns-in-Err-clause-went
returns-in-Err-clause-went g c = λ scene stage rests.
    let cache = g.C.CacheCore in
    let policy = g.P.Policy in
    let first = cache.beginning c.args.play.now.core in
    let now = cache.beginning c.wakes.play.core in
    let start = stage_of cache.history c.args.play.now in
    let before = stage_of cache.history c.wakes.play in
    let after = stage_of cache.history c.wake.new.play in
    let none = pieces (g.K.Sink.held c.args.sink.now) c.args.play.now.unwritten.items in
    let some = pieces (g.K.Sink.held c.wakes.sink) c.wakes.play.unwritten.items in
    let more = pieces (g.K.Sink.held c.wake.new.sink) c.wake.new.play.unwritten.items in
    comes_then (plan_of policy.wants first) policy.stands AtRest scene start.history before.history after.history start before after none some more (Err c.in-Err.broken) (c.wakes.invariant.went scene stage rests)
    (comes_at policy.wants policy.stands NobodyRuns first now before (changed before after some more) before.history after.history (Err c.in-Err.broken) c.wakes.invariant.core.same c.in-Err.ensures.went)

pub returns-clause-went : goal.returns-clause-went
returns-clause-went g c = λ scene stage rests.
    let cache = g.C.CacheCore in
    let policy = g.P.Policy in
    let first = cache.beginning c.args.play.now.core in
    let now = cache.beginning c.wakes.play.core in
    let before = stage_of cache.history c.wakes.play in
    let nobody : position (λ (k : Kept g.row.P.Denot). is_closed (reached now before.history).fetches k.token) c.wakes.play.parked.items ≡ None =
    ap (λ (kept : List (Kept g.row.P.Denot)). position (λ (k : Kept g.row.P.Denot). is_closed (reached now before.history).fetches k.token) kept) (sym c.as_slice.ensures.value) ∙ sym c.first_free.ensures ∙ c.in_default.is in
    let none : position (λ (k : Kept g.row.P.Denot). is_closed (reached first before.history).fetches k.token) c.wakes.play.parked.items ≡ None =
    subst (λ (b : Beginning). position (λ (k : Kept g.row.P.Denot). is_closed (reached b before.history).fetches k.token) c.wakes.play.parked.items ≡ None) c.wakes.invariant.core.same nobody in
    went-map (plan_of policy.wants first) scene [] _ _ _ _ (λ next text f. (rests_now policy.wants policy.stands first before next f.1 f.0 none, f.1, f.2)) (c.wakes.invariant.went scene stage rests)
