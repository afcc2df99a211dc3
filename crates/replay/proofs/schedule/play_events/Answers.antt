use Rattle.std.proofs.Common.{◌≡◌, ℕ, List, Ok, Err, length, sum_by, refl, sym, ◌∙◌, ap, arith}
use Rattle.std.specs.Vec.Iter.{into_iter_items}
use Rattle.replay.specs.Plan.{plan_of}
use Rattle.replay.specs.declared.event.NumberedEvent.{NumberedEvent}
use Rattle.replay.specs.Pieces.{pieces}
use Rattle.replay.specs.Scene.{AtRest, opening_scene}
use Rattle.replay.specs.Went.{events_in, stage_of}
use Rattle.replay.proofs.Hearing.{set_on}
use Rattle.replay.proofs.Playing.{changed, plays_at, played_more, idle_at, broken_at, all_played}
use Rattle.replay.proofs.Runs.{went-here}
use Rattle.replay.specs.Swept.{lurks}
use Rattle.replay.proofs.Sweeping.{heard_more, heard_some}
use Rattle.replay.proofs.Taking.{Takes-nil}
use Rattle.replay.proofs.Turns.{KeepsCore-then, KeepsCore-none}
use Rattle.replay.proofs.Yielded.{one_taken, stood_between, all_taken, one_less}
use Rattle.replay.proofs.schedule.play_events.Goals as goal

pub loop-numbered-init : goal.loop-numbered-init
loop-numbered-init g c =
    record {
      taken = refl;
      counted = c.into_iter-numbered-iterator.ensures.into_iter_gives.1 ∙ (c.into_vec-numbered-items.result.ok.0 ∙ ap (λ (es : List NumberedEvent). length es) (sym c.into_iter-numbered-iterator.ensures.into_iter_gives.0));
      plays = went-here _ _ _ _ (record { nobody_runs = refl; nobody_is_free = refl }, c.requires.opens, Takes-nil _);
      heard = ap (λ (ns : List ℕ). length ns) c.requires.fresh;
      settled = c.requires.settled;
      core = KeepsCore-none g.C.CacheCore.beginning g.C.CacheCore.history _;
      in_step = c.requires.in_step;
      later = omega arith;
    }

pub play_event-requires-clause-set : goal.play_event-requires-clause-set
play_event-requires-clause-set g c =
    let cache = g.C.CacheCore in
    let policy = g.P.Policy in
    let at = c.loop-numbered in
    let first = cache.beginning c.args.play.now.core in
    let start = stage_of cache.history c.args.play.now in
    let before = stage_of cache.history at.play in
    let none = pieces (g.K.Sink.held c.args.sink.now) c.args.play.now.unwritten.items in
    let some = pieces (g.K.Sink.held at.sink) at.play.unwritten.items in
    set_on policy.wants policy.stands AtRest first (cache.beginning at.play.core) (opening_scene (plan_of policy.wants first)) (events_in at.yielded) (changed start before none some) start.history before.history at.invariant.core.same at.invariant.plays

pub returns-in-Idle-clause-heard : goal.returns-in-Idle-clause-heard
returns-in-Idle-clause-heard g c =
    let at = c.loop-numbered in
    let events : into_iter_items c.into_iter-numbered-iterator.result ≡ c.args.events = c.into_iter-numbered-iterator.ensures.into_iter_gives.0 ∙ c.into_vec-numbered-items.ensures in (
      at.yielded,
      c.in-Some.numbered,
      _,
      stood_between at.yielded (into_iter_items at.numbered-iterator) _ _ c.in-Some.numbered (at.invariant.taken ∙ events) c.in-Some.ensures.steps.0,
      refl,
      ap (λ (ns : List ℕ). length ns) c.in-Err.ensures.unnoted ∙ at.invariant.heard,
    )

pub returns-in-Broken-clause-heard : goal.returns-in-Broken-clause-heard
returns-in-Broken-clause-heard g c =
    let at = c.loop-numbered in
    let events : into_iter_items c.into_iter-numbered-iterator.result ≡ c.args.events = c.into_iter-numbered-iterator.ensures.into_iter_gives.0 ∙ c.into_vec-numbered-items.ensures in
    heard_some c.args.events at.yielded c.in-Some.numbered _ _
    (stood_between at.yielded (into_iter_items at.numbered-iterator) _ _ c.in-Some.numbered (at.invariant.taken ∙ events) c.in-Some.ensures.steps.0)
    (ap (λ (ns : List ℕ). length ns) c.in-Err.ensures.unnoted ∙ at.invariant.heard)

pub returns-clause-heard : goal.returns-clause-heard
returns-clause-heard g c =
    let at = c.loop-numbered in
    let events : into_iter_items c.into_iter-numbered-iterator.result ≡ c.args.events = c.into_iter-numbered-iterator.ensures.into_iter_gives.0 ∙ c.into_vec-numbered-items.ensures in
    at.invariant.heard ∙ ap (λ (es : List NumberedEvent). sum_by lurks es) (all_taken at.yielded (into_iter_items at.numbered-iterator) _ _ (at.invariant.taken ∙ events) at.invariant.counted c.in-None.ensures.steps.0)

pub returns-in-Idle-clause-plays : goal.returns-in-Idle-clause-plays
returns-in-Idle-clause-plays g c =
    let cache = g.C.CacheCore in
    let policy = g.P.Policy in
    let at = c.loop-numbered in
    let first = cache.beginning c.args.play.now.core in
    let start = stage_of cache.history c.args.play.now in
    let before = stage_of cache.history at.play in
    let none = pieces (g.K.Sink.held c.args.sink.now) c.args.play.now.unwritten.items in
    let some = pieces (g.K.Sink.held at.sink) at.play.unwritten.items in
    let now = cache.beginning at.play.core in
    let after = stage_of cache.history c.play_event.new.play in
    let more = pieces (g.K.Sink.held c.play_event.new.sink) c.play_event.new.play.unwritten.items in
    let events : into_iter_items c.into_iter-numbered-iterator.result ≡ c.args.events = c.into_iter-numbered-iterator.ensures.into_iter_gives.0 ∙ c.into_vec-numbered-items.ensures in
    idle_at (plan_of policy.wants first) policy.stands c.args.events at.yielded start before after none some more at.invariant.plays c.in-Some.numbered _ c.in-Err.stop c.in-Idle.is
    (stood_between at.yielded (into_iter_items at.numbered-iterator) _ _ c.in-Some.numbered (at.invariant.taken ∙ events) c.in-Some.ensures.steps.0)
    (plays_at policy.wants policy.stands first now before (changed before after some more) c.in-Some.numbered.event (Err c.in-Err.stop) at.invariant.core.same c.in-Err.ensures.plays)

pub returns-in-Broken-clause-plays : goal.returns-in-Broken-clause-plays
returns-in-Broken-clause-plays g c =
    let cache = g.C.CacheCore in
    let policy = g.P.Policy in
    let at = c.loop-numbered in
    let first = cache.beginning c.args.play.now.core in
    let start = stage_of cache.history c.args.play.now in
    let before = stage_of cache.history at.play in
    let none = pieces (g.K.Sink.held c.args.sink.now) c.args.play.now.unwritten.items in
    let some = pieces (g.K.Sink.held at.sink) at.play.unwritten.items in
    let now = cache.beginning at.play.core in
    let after = stage_of cache.history c.play_event.new.play in
    let more = pieces (g.K.Sink.held c.play_event.new.sink) c.play_event.new.play.unwritten.items in
    let events : into_iter_items c.into_iter-numbered-iterator.result ≡ c.args.events = c.into_iter-numbered-iterator.ensures.into_iter_gives.0 ∙ c.into_vec-numbered-items.ensures in
    broken_at (plan_of policy.wants first) policy.stands c.args.events at.yielded start before after none some more at.invariant.plays c.in-Some.numbered _ c.in-Broken.broken c.in-Err.stop c.in-Broken.is
    (stood_between at.yielded (into_iter_items at.numbered-iterator) _ _ c.in-Some.numbered (at.invariant.taken ∙ events) c.in-Some.ensures.steps.0)
    (plays_at policy.wants policy.stands first now before (changed before after some more) c.in-Some.numbered.event (Err c.in-Err.stop) at.invariant.core.same c.in-Err.ensures.plays)

pub loop-numbered-preserved : goal.loop-numbered-preserved
loop-numbered-preserved g c =
    let cache = g.C.CacheCore in
    let policy = g.P.Policy in
    let at = c.loop-numbered in
    let first = cache.beginning c.args.play.now.core in
    let start = stage_of cache.history c.args.play.now in
    let before = stage_of cache.history at.play in
    let none = pieces (g.K.Sink.held c.args.sink.now) c.args.play.now.unwritten.items in
    let some = pieces (g.K.Sink.held at.sink) at.play.unwritten.items in
    let now = cache.beginning at.play.core in
    let after = stage_of cache.history c.play_event.new.play in
    let more = pieces (g.K.Sink.held c.play_event.new.sink) c.play_event.new.play.unwritten.items in
    let next = c.in-Some.ensures.steps in
    record {
      taken = one_taken at.yielded (into_iter_items at.numbered-iterator) _ _ c.in-Some.numbered at.invariant.taken next.0;
      counted = one_less (into_iter_items at.numbered-iterator) _ c.in-Some.numbered _ _ next.0 at.invariant.counted (sym next.1);
      plays =
          played_more (plan_of policy.wants first) policy.stands c.args.events at.yielded start before after none some more at.invariant.plays c.in-Some.numbered
          (plays_at policy.wants policy.stands first now before (changed before after some more) c.in-Some.numbered.event (Ok tt) at.invariant.core.same c.in-Ok.ensures.plays);
      heard = heard_more at.yielded c.in-Some.numbered _ _ at.invariant.heard c.in-Ok.ensures.noted;
      settled = c.in-Ok.ensures.settled;
      core = KeepsCore-then cache.beginning cache.history _ _ _ at.invariant.core c.in-Ok.ensures.keeps.core;
      in_step = c.in-Ok.ensures.keeps.in_step;
      later = omega (arith, at.invariant.later, c.in-Ok.ensures.keeps.sink_used.later);
    }

pub returns-clause-plays : goal.returns-clause-plays
returns-clause-plays g c =
    let cache = g.C.CacheCore in
    let policy = g.P.Policy in
    let at = c.loop-numbered in
    let first = cache.beginning c.args.play.now.core in
    let start = stage_of cache.history c.args.play.now in
    let before = stage_of cache.history at.play in
    let none = pieces (g.K.Sink.held c.args.sink.now) c.args.play.now.unwritten.items in
    let some = pieces (g.K.Sink.held at.sink) at.play.unwritten.items in
    let events : into_iter_items c.into_iter-numbered-iterator.result ≡ c.args.events = c.into_iter-numbered-iterator.ensures.into_iter_gives.0 ∙ c.into_vec-numbered-items.ensures in
    all_played (plan_of policy.wants first) policy.stands c.args.events at.yielded start before before none some some at.invariant.plays
    (all_taken at.yielded (into_iter_items at.numbered-iterator) _ _ (at.invariant.taken ∙ events) at.invariant.counted c.in-None.ensures.steps.0)
