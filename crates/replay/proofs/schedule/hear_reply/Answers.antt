use Rattle.std.proofs.Common.{◌≡◌, ◌==◌, Bool, [], ◌∷◌, None, Some, refl, subst}
use Rattle.std.specs.Prelude.{position}
use Rattle.replay.specs.declared.event.Event.TheVariants as events
use Rattle.replay.specs.declared.rounds.Pending.{Pending}
use Rattle.replay.specs.Scene.{IsHeardAs}
use Rattle.replay.specs.Went.{stage_of}
use Rattle.replay.proofs.Alike.{position_within}
use Rattle.replay.proofs.Asking.{due}
use Rattle.replay.proofs.Heards.{heard_over}
use Rattle.replay.proofs.Hearing.{found_waiting, nobody_waiting, reply_heard, reply_stage, reply_turn, replied}
use Rattle.replay.proofs.Resting.{replied_alone}
use Rattle.replay.proofs.Runs.{went-here}
use Rattle.replay.proofs.Taking.{Takes-nil}
use Rattle.replay.proofs.schedule.hear_reply.Goals as goal

pub returns-in-None-clause-plays : goal.returns-in-None-clause-plays
returns-in-None-clause-plays g c = λ scene stage rests.
    let at : position (λ (kept : Pending g.row.P.Denot). kept.number == c.args.fetch) c.args.play.now.waiting.items ≡ None = cc in
    (nobody_waiting g.P.Policy.wants g.P.Policy.stands c.args.play.now.waiting.items scene.waiting c.args.fetch stage.waiting_are at, refl, Takes-nil _)

pub returns-in-Err-clause-plays : goal.returns-in-Err-clause-plays
returns-in-Err-clause-plays g c = λ scene stage rests.
    ([], events.Reply c.args.fetch c.args.heard ∷ [], refl, went-here _ scene _ _ (Takes-nil _))

pub resume-requires : goal.resume-requires
resume-requires g c =
    let set = c.requires.set in
    let at : position (λ (kept : Pending g.row.P.Denot). kept.number == c.args.fetch) c.args.play.now.waiting.items ≡ Some c.in-Some.place = cc in
    let it = found_waiting g.P.Policy.wants g.P.Policy.stands c.args.play.now.waiting.items set.scene.waiting c.args.fetch c.in-Some.place c.remove-client.result set.is_stage.waiting_are at c.remove-client.ensures.value in
    due g.P.Policy.wants g.P.Policy.stands _ _ _ _ (record { round = it.one.round; leads = it.is_same.leads }) (heard_over c.remove-client.result.to_head c.args.heard c.in-Ok.exchange c.in-Ok.ensures)

pub returns-in-Err-resume-clause-plays : goal.returns-in-Err-resume-clause-plays
returns-in-Err-resume-clause-plays g c = λ scene stage rests.
    ([], events.Reply c.args.fetch c.args.heard ∷ [], refl, went-here _ scene _ _ (Takes-nil _))

pub lead-requires : goal.lead-requires
lead-requires g c =
    let set = c.requires.set in
    let at : position (λ (kept : Pending g.row.P.Denot). kept.number == c.args.fetch) c.args.play.now.waiting.items ≡ Some c.in-Some.place = cc in
    let it = found_waiting g.P.Policy.wants g.P.Policy.stands c.args.play.now.waiting.items set.scene.waiting c.args.fetch c.in-Some.place c.remove-client.result set.is_stage.waiting_are at c.remove-client.ensures.value in
    record {
      in_step = c.requires.in_step;
      alone =
          replied_alone _ (stage_of g.C.CacheCore.history c.args.play.now) c.requires.settled c.in-Some.place c.remove-client.result _ c.in-Ok-resume.want (position_within _ c.args.play.now.waiting.items c.in-Some.place at)
          c.remove-client.ensures.value c.remove-client.ensures.items;
      turn = (
        replied set.scene c.args.fetch c.in-Ok.exchange it.one,
        reply_stage g.P.Policy.wants g.P.Policy.stands _ (stage_of g.C.CacheCore.history c.args.play.now) set.scene c.args.fetch c.in-Ok.exchange c.in-Some.place c.remove-client.result it _ c.remove-client.ensures.items set.is_stage,
        reply_turn g.P.Policy.wants g.P.Policy.stands set.scene c.args.fetch c.in-Ok.exchange c.args.play.now.moment c.args.play.now.waiting.items c.in-Some.place c.remove-client.result it c.resume.new.self c.in-Ok-resume.want set.is_stage.at.moment_is c.in-Ok-resume.ensures.stands c.in-Ok-resume.ensures.wanted,
      );
    }

pub returns-in-Ok-lead-clause-plays : goal.returns-in-Ok-lead-clause-plays
returns-in-Ok-lead-clause-plays g c = λ scene stage rests.
    let at : position (λ (kept : Pending g.row.P.Denot). kept.number == c.args.fetch) c.args.play.now.waiting.items ≡ Some c.in-Some.place = cc in
    let it = found_waiting g.P.Policy.wants g.P.Policy.stands c.args.play.now.waiting.items scene.waiting c.args.fetch c.in-Some.place c.remove-client.result stage.waiting_are at c.remove-client.ensures.value in
    reply_heard _ scene c.args.fetch c.args.heard c.in-Ok.exchange it.one _ _ _ rests it.is_first
    (subst (λ (b : Bool). IsHeardAs b c.args.heard c.in-Ok.exchange) it.is_same.to_head_is c.in-Ok.ensures)
    (c.in-Ok-lead.ensures.went (replied scene c.args.fetch c.in-Ok.exchange it.one)
    (reply_stage g.P.Policy.wants g.P.Policy.stands _ (stage_of g.C.CacheCore.history c.args.play.now) scene c.args.fetch c.in-Ok.exchange c.in-Some.place c.remove-client.result it _ c.remove-client.ensures.items stage)
    (reply_turn g.P.Policy.wants g.P.Policy.stands scene c.args.fetch c.in-Ok.exchange c.args.play.now.moment c.args.play.now.waiting.items c.in-Some.place c.remove-client.result it c.resume.new.self c.in-Ok-resume.want stage.at.moment_is c.in-Ok-resume.ensures.stands c.in-Ok-resume.ensures.wanted))

pub returns-in-Err-lead-clause-plays : goal.returns-in-Err-lead-clause-plays
returns-in-Err-lead-clause-plays g c = λ scene stage rests.
    let at : position (λ (kept : Pending g.row.P.Denot). kept.number == c.args.fetch) c.args.play.now.waiting.items ≡ Some c.in-Some.place = cc in
    let it = found_waiting g.P.Policy.wants g.P.Policy.stands c.args.play.now.waiting.items scene.waiting c.args.fetch c.in-Some.place c.remove-client.result stage.waiting_are at c.remove-client.ensures.value in (
      events.Reply c.args.fetch c.args.heard ∷ [],
      [],
      refl,
      reply_heard _ scene c.args.fetch c.args.heard c.in-Ok.exchange it.one _ _ _ rests it.is_first
          (subst (λ (b : Bool). IsHeardAs b c.args.heard c.in-Ok.exchange) it.is_same.to_head_is c.in-Ok.ensures)
          (c.in-Err-lead.ensures.went (replied scene c.args.fetch c.in-Ok.exchange it.one)
          (reply_stage g.P.Policy.wants g.P.Policy.stands _ (stage_of g.C.CacheCore.history c.args.play.now) scene c.args.fetch c.in-Ok.exchange c.in-Some.place c.remove-client.result it _ c.remove-client.ensures.items stage)
          (reply_turn g.P.Policy.wants g.P.Policy.stands scene c.args.fetch c.in-Ok.exchange c.args.play.now.moment c.args.play.now.waiting.items c.in-Some.place c.remove-client.result it c.resume.new.self c.in-Ok-resume.want stage.at.moment_is c.in-Ok-resume.ensures.stands c.in-Ok-resume.ensures.wanted)),
    )
