use Rattle.std.proofs.Common.{Ok, Err, inl, arith}
use Rattle.replay.specs.Plan.{plan_of}
use Rattle.replay.specs.declared.policy.Want.TheVariants as wants
use Rattle.replay.specs.Pieces.{pieces}
use Rattle.replay.specs.Went.{NobodyRuns, stage_of}
use Rattle.replay.proofs.Hearing.{led_at, rests_then}
use Rattle.replay.proofs.Playing.{changed}
use Rattle.replay.proofs.Resting.{alone_behind, alone_still, ask_waits_not, free_to_ask, respond_waits_not, told_nothing, wants_same}
use Rattle.replay.proofs.Runs.{went-here}
use Rattle.replay.proofs.Taking.{Takes-nil}
use Rattle.replay.proofs.Turns.{KeepsCore-then, KeepsCore-none, asked_at, goes_on, breaks_off}
use Rattle.replay.proofs.rounds.run_round.Goals as goal

pub wants-init : goal.wants-init
wants-init g c =
    record {
      went = λ scene stage turn. went-here _ scene _ _ (record { has_turn = turn; is_stage = stage; takes = Takes-nil _ });
      can = c.requires.can;
      alone = c.requires.alone;
      core = KeepsCore-none g.C.CacheCore.beginning g.C.CacheCore.history _;
      in_step = c.requires.in_step;
      later = omega arith;
    }

pub wants-preserved-in-Ok : goal.wants-preserved-in-Ok
wants-preserved-in-Ok g c =
    record {
      went = λ scene stage turn.
          goes_on _ g.P.Policy.stands c.args.client c.wants.play.moment c.wants.play.waiting.items c.wants.play.parked.items scene _ _ _ _ _ _ _ c.ask.new.policy _ _ c.in-Ok.next c.in-Ask.is (c.wants.invariant.went scene stage turn)
          (asked_at g.P.Policy.wants g.P.Policy.stands _ _ _ _ c.wants.play.moment _ c.ask.new.policy c.args.client _ (Ok c.in-Ok.next) c.wants.invariant.core.same c.in-Ok.ensures.asked (pieces (g.K.Sink.held c.wants.sink) c.wants.play.unwritten.items));
      can = c.in-Ok.ensures.can;
      alone =
          let free = wants_same (g.C.CacheCore.beginning c.wants.play.core) (stage_of g.C.CacheCore.history c.wants.play) c.args.client _ (wants.Ask c.in-Ask.call) c.in-Ask.is c.wants.invariant.alone in
          let none = told_nothing (g.C.CacheCore.beginning c.wants.play.core) (stage_of g.C.CacheCore.history c.wants.play) c.args.client _ (ask_waits_not _) free in
          alone_behind (g.C.CacheCore.beginning c.wants.play.core) (stage_of g.C.CacheCore.history c.wants.play) _ _ c.args.client _ c.in-Ok.next free c.in-Ok.ensures.others (c.in-Ok.ensures.own (inl none));
      core = KeepsCore-then g.C.CacheCore.beginning g.C.CacheCore.history _ _ _ c.wants.invariant.core c.in-Ok.ensures.kept;
      in_step = c.in-Ok.ensures.in_step;
      later = c.wants.invariant.later;
    }

pub returns-in-Err-clause-went : goal.returns-in-Err-clause-went
returns-in-Err-clause-went g c = λ scene stage turn.
    breaks_off _ g.P.Policy.stands c.args.client c.wants.play.moment c.wants.play.waiting.items c.wants.play.parked.items scene _ _ _ _ _ _ _ c.ask.new.policy _ _ c.in-Err.broken c.in-Ask.is (c.wants.invariant.went scene stage turn)
    (asked_at g.P.Policy.wants g.P.Policy.stands _ _ _ _ c.wants.play.moment _ c.ask.new.policy c.args.client _ (Err c.in-Err.broken) c.wants.invariant.core.same c.in-Err.ensures.asked (pieces (g.K.Sink.held c.wants.sink) c.wants.play.unwritten.items))

pub wants-preserved : goal.wants-preserved
wants-preserved g c =
    record {
      went = λ scene stage turn.
          goes_on _ g.P.Policy.stands c.args.client c.wants.play.moment c.wants.play.waiting.items c.wants.play.parked.items scene _ _ _ _ _ _ _ c.respond.new.policy _ _ c.in-Ok-respond.next c.in-Respond.is (c.wants.invariant.went scene stage turn)
          (λ s at led. c.in-Ok-respond.ensures.sent _ _ c.wants.play.moment s at led);
      can = c.in-Ok-respond.ensures.can;
      alone = alone_still (g.C.CacheCore.beginning c.wants.play.core) (stage_of g.C.CacheCore.history c.wants.play) c.args.client _ c.in-Ok-respond.next (respond_waits_not _) (wants_same _ _ c.args.client _ _ c.in-Respond.is c.wants.invariant.alone);
      core = c.wants.invariant.core;
      in_step = c.wants.invariant.in_step;
      later = omega (arith, c.wants.invariant.later, c.in-Ok-respond.ensures.sink.later);
    }

pub returns-in-Err-respond-clause-went : goal.returns-in-Err-respond-clause-went
returns-in-Err-respond-clause-went g c = λ scene stage turn.
    breaks_off _ g.P.Policy.stands c.args.client c.wants.play.moment c.wants.play.waiting.items c.wants.play.parked.items scene _ _ _ _ _ _ _ c.respond.new.policy _ _ c.in-Err-respond.broken c.in-Respond.is (c.wants.invariant.went scene stage turn)
    (λ s at led. c.in-Err-respond.ensures.sent _ _ c.wants.play.moment s at led)

pub ask-requires-clause-waited : goal.ask-requires-clause-waited
ask-requires-clause-waited g c =
    free_to_ask (g.C.CacheCore.beginning c.wants.play.core) (stage_of g.C.CacheCore.history c.wants.play) c.args.client _ _ c.in-Ask.is c.wants.invariant.alone

pub returns-in_default-clause-went : goal.returns-in_default-clause-went
returns-in_default-clause-went g c = λ scene stage turn.
    let cache = g.C.CacheCore in
    let policy = g.P.Policy in
    let first = cache.beginning c.args.play.now.core in
    let now = cache.beginning c.wants.play.core in
    let start = stage_of cache.history c.args.play.now in
    let middle = stage_of cache.history c.wants.play in
    let after = stage_of cache.history c.rest.new.play in
    let none = pieces (g.K.Sink.held c.args.sink.now) c.args.play.now.unwritten.items in
    let some = pieces (g.K.Sink.held c.wants.sink) c.wants.play.unwritten.items in
    let more = pieces (g.K.Sink.held c.rest.new.sink) c.rest.new.play.unwritten.items in
    rests_then (plan_of policy.wants first) policy.stands scene start.history middle.history after.history c.wants.policy c.args.client c.wants.want start middle after none some more c.rest.result (c.wants.invariant.went scene stage turn)
    (led_at policy.wants policy.stands NobodyRuns first now middle (changed middle after some more) middle.history after.history c.wants.policy c.args.client c.wants.want c.rest.result c.wants.invariant.core.same c.rest.ensures.went)
