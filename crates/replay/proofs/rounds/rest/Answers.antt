use Rattle.std.proofs.Common.{refl}
use Rattle.replay.specs.Went.{stage_of}
use Rattle.replay.proofs.Resting.{done_waits_not, exchange_waits_not, settles_done, settles_parked, settles_pending, wants_same, where_ok}
use Rattle.replay.proofs.Runs.{went-here}
use Rattle.replay.proofs.Taking.{Takes-nil}
use Rattle.replay.proofs.Turns.{exchange_rests, park_rests, done_rests}
use Rattle.replay.proofs.rounds.rest.Goals as goal

pub returns-in-Exchange-clause-went : goal.returns-in-Exchange-clause-went
returns-in-Exchange-clause-went g c = λ scene stage turn.
    exchange_rests _ g.P.Policy.stands c.args.client c.args.play.now.moment c.args.play.now.waiting.items c.args.play.now.parked.items scene _ _ _ _ _ _ _ _ _ _ c.begin_exchange.result refl c.asks_for_head-to_head.ensures c.in-Exchange.is
    c.begin_exchange.ensures.told c.begin_exchange.ensures.waits (went-here _ scene _ _ (record { has_turn = turn; is_stage = stage; takes = Takes-nil _ })) (stage_of g.C.CacheCore.history c.args.play.now)

pub returns-in-Await-clause-went : goal.returns-in-Await-clause-went
returns-in-Await-clause-went g c = λ scene stage turn.
    park_rests _ g.P.Policy.stands c.args.client c.args.play.now.moment c.args.play.now.waiting.items c.args.play.now.parked.items scene _ _ _ _ _ _ _ c.park.result refl c.in-Await.is
    c.park.ensures.parks c.park.ensures.only (went-here _ scene _ _ (record { has_turn = turn; is_stage = stage; takes = Takes-nil _ })) (stage_of g.C.CacheCore.history c.args.play.now)

pub returns-in-Done-clause-went : goal.returns-in-Done-clause-went
returns-in-Done-clause-went g c = λ scene stage turn.
    done_rests _ g.P.Policy.stands c.args.client c.args.play.now.moment c.args.play.now.waiting.items c.args.play.now.parked.items scene _ _ _ _ _ _ c.in-Done.is
    (went-here _ scene _ _ (record { has_turn = turn; is_stage = stage; takes = Takes-nil _ })) (stage_of g.C.CacheCore.history c.args.play.now)

pub returns-in-Exchange-clause-settled : goal.returns-in-Exchange-clause-settled
returns-in-Exchange-clause-settled g c =
    let now = g.C.CacheCore.beginning c.args.play.now.core in
    let stage = stage_of g.C.CacheCore.history c.args.play.now in
    let alone = wants_same now stage c.args.client _ _ c.in-Exchange.is c.requires.alone in
    where_ok c.begin_exchange.result _ _ c.begin_exchange.ensures.waits (settles_pending now stage c.args.client _ alone (exchange_waits_not _ _ _) _ _ refl)

pub returns-in-Await-clause-settled : goal.returns-in-Await-clause-settled
returns-in-Await-clause-settled g c =
    let now = g.C.CacheCore.beginning c.args.play.now.core in
    let stage = stage_of g.C.CacheCore.history c.args.play.now in
    where_ok c.park.result _ _ c.park.ensures.parks (settles_parked now stage c.args.client _ c.requires.alone _ _ refl c.in-Await.is)

pub returns-in-Done-clause-settled : goal.returns-in-Done-clause-settled
returns-in-Done-clause-settled g c =
    let now = g.C.CacheCore.beginning c.args.play.now.core in
    let stage = stage_of g.C.CacheCore.history c.args.play.now in
    settles_done now stage c.args.client _ (wants_same now stage c.args.client _ _ c.in-Done.is c.requires.alone) done_waits_not
