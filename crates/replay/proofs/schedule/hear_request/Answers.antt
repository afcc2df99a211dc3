use Rattle.std.proofs.Common.{◌≡◌, ◌||◌, ◌==◌, [], ◌∷◌, true, false, refl}
use Rattle.std.specs.List.{list_any}
use Rattle.replay.specs.declared.rounds.Pending.{Pending}
use Rattle.replay.specs.declared.rounds.Kept.{Kept}
use Rattle.replay.specs.declared.event.Event.TheVariants as events
use Rattle.replay.specs.Scene.{begun, is_under_way, with_running}
use Rattle.replay.specs.Went.{stage_of}
use Rattle.replay.proofs.Hearing.{begins_at, under_way, request_heard, stage_like}
use Rattle.replay.proofs.Resting.{begins_alone}
use Rattle.replay.proofs.Runs.{went-here}
use Rattle.replay.proofs.Taking.{Takes-nil}
use Rattle.replay.proofs.schedule.hear_request.Goals as goal

pub returns-then-is_busy-clause-plays : goal.returns-then-is_busy-clause-plays
returns-then-is_busy-clause-plays g c = λ scene stage rests.
    let same = under_way g.P.Policy.wants g.P.Policy.stands c.args.play.now.waiting.items c.args.play.now.parked.items scene c.args.request.client stage.waiting_are stage.parked_are in
    let here : is_under_way c.args.request.client scene ≡ true = cc in
    (here, refl, Takes-nil _)

pub returns-in-Err-clause-plays : goal.returns-in-Err-clause-plays
returns-in-Err-clause-plays g c = λ scene stage rests.
    ([], events.Request c.args.request ∷ [], refl, went-here _ scene _ _ (Takes-nil _))

pub lead-requires : goal.lead-requires
lead-requires g c =
    let set = c.requires.set in
    let scene = with_running set.scene (begun set.scene.moment c.args.request) in
    let free : (list_any (λ (kept : Pending g.row.P.Denot). kept.client == c.args.request.client) c.args.play.now.waiting.items || list_any (λ (kept : Kept g.row.P.Denot). kept.client == c.args.request.client) c.args.play.now.parked.items) ≡ false = cc in
    record {
      in_step = c.requires.in_step;
      alone = begins_alone _ (stage_of g.C.CacheCore.history c.args.play.now) c.requires.settled c.args.request.client _ free;
      turn = (
        scene,
        stage_like _ g.P.Policy.stands (stage_of g.C.CacheCore.history c.args.play.now) set.scene scene set.is_stage refl refl refl refl,
        begins_at g.P.Policy.wants g.P.Policy.stands _ _ set.scene c.args.request c.args.play.now.moment set.is_stage.at.moment_is c.in-Ok.ensures.0 c.in-Ok.ensures.1,
      );
    }

pub returns-in-Ok-lead-clause-plays : goal.returns-in-Ok-lead-clause-plays
returns-in-Ok-lead-clause-plays g c = λ scene stage rests.
    let same = under_way g.P.Policy.wants g.P.Policy.stands c.args.play.now.waiting.items c.args.play.now.parked.items scene c.args.request.client stage.waiting_are stage.parked_are in
    let free : is_under_way c.args.request.client scene ≡ false = cc in
    let next = with_running scene (begun scene.moment c.args.request) in
    request_heard _ scene c.args.request _ _ _ rests free
    (c.in-Ok-lead.ensures.went next (stage_like _ g.P.Policy.stands (stage_of g.C.CacheCore.history c.args.play.now) scene next stage refl refl refl refl)
    (begins_at g.P.Policy.wants g.P.Policy.stands _ _ scene c.args.request c.args.play.now.moment stage.at.moment_is c.in-Ok.ensures.0 c.in-Ok.ensures.1))

pub returns-in-Err-lead-clause-plays : goal.returns-in-Err-lead-clause-plays
returns-in-Err-lead-clause-plays g c = λ scene stage rests.
    let same = under_way g.P.Policy.wants g.P.Policy.stands c.args.play.now.waiting.items c.args.play.now.parked.items scene c.args.request.client stage.waiting_are stage.parked_are in
    let free : is_under_way c.args.request.client scene ≡ false = cc in
    let next = with_running scene (begun scene.moment c.args.request) in (
      events.Request c.args.request ∷ [],
      [],
      refl,
      request_heard _ scene c.args.request _ _ _ rests free
          (c.in-Err-lead.ensures.went next (stage_like _ g.P.Policy.stands (stage_of g.C.CacheCore.history c.args.play.now) scene next stage refl refl refl refl)
          (begins_at g.P.Policy.wants g.P.Policy.stands _ _ scene c.args.request c.args.play.now.moment stage.at.moment_is c.in-Ok.ensures.0 c.in-Ok.ensures.1)),
    )
