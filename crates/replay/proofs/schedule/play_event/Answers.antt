use Rattle.std.proofs.Common.{ℕ, ◌+◌, [], ◌∷◌, Ok, Err, length, max, refl, sym, ap, subst, ◌∙◌, arith}
use Rattle.std.proofs.lemmas.List.{append-nil}
use Rattle.replay.specs.declared.event.Event.{Event}
use Rattle.replay.specs.declared.event.Event.TheVariants as events
use Rattle.replay.specs.declared.event.Aside.TheVariants as asides
use Rattle.replay.specs.declared.schedule.Stop.TheVariants.{Idle, Broken}
use Rattle.replay.specs.Pieces.{pieces}
use Rattle.replay.specs.Plan.{plan_of}
use Rattle.replay.specs.Scene.{hears}
use Rattle.replay.specs.Swept.{lurks_of}
use Rattle.replay.specs.Went.{Plays, Stage, stage_of}
use Rattle.replay.proofs.Playing.{changed}
use Rattle.replay.proofs.Runs.{went-one}
use Rattle.replay.proofs.Sweeping.{core_same, lurked, lurked_not, settled_same, step_same}
use Rattle.replay.proofs.Taking.{Takes-nil}
use Rattle.replay.proofs.schedule.play_event.Goals as goal

pub returns-in-Moment-clause-plays : goal.returns-in-Moment-clause-plays
returns-in-Moment-clause-plays g c = λ scene stage rests.
    rw c.in-Moment.is
    (went-one _ scene (record scene { moment = max scene.moment c.in-Moment.moment }) (hears (events.Moment c.in-Moment.moment)) _ _ _ (rests, refl) (sym (append-nil _)) (
      record { nobody_runs = rests.nobody_runs; nobody_is_free = rests.nobody_is_free },
      record {
        at = record { moment_is = c.max-play.ensures ∙ ap (λ (m : ℕ). max m c.in-Moment.moment) stage.at.moment_is; state_is = stage.at.state_is };
        waiting_are = stage.waiting_are;
        parked_are = stage.parked_are;
      },
      Takes-nil _,
    ))

pub returns-in-Moment-clause-settled : goal.returns-in-Moment-clause-settled
returns-in-Moment-clause-settled g c = record { once = c.requires.settled.once; told = c.requires.settled.told }

pub returns-in-Ok-clause-plays : goal.returns-in-Ok-clause-plays
returns-in-Ok-clause-plays g c = λ scene stage rests.
    let plan = plan_of g.P.Policy.wants (g.C.CacheCore.beginning c.args.play.now.core) in
    let before = stage_of g.C.CacheCore.history c.args.play.now in
    let after : Stage g.row.P.Denot = record before { history = g.C.CacheCore.history c.lurk.new.core } in
    let kept = pieces (g.K.Sink.held c.args.sink.now) c.args.play.now.unwritten.items in
    subst (λ (e : Event). Plays plan g.P.Policy.stands (changed before after kept kept) scene e (Ok tt)) (sym (c.in-Aside-Lurk.is ∙ ap events.Aside c.in-Aside-Lurk.field-0-is))
    (lurked plan g.P.Policy.stands before after.history kept c.in-Aside-Lurk.count scene c.lurk.ensures.history stage rests)

pub returns-in-Err-clause-plays : goal.returns-in-Err-clause-plays
returns-in-Err-clause-plays g c = λ scene stage rests.
    let plan = plan_of g.P.Policy.wants (g.C.CacheCore.beginning c.args.play.now.core) in
    let before = stage_of g.C.CacheCore.history c.args.play.now in
    let after : Stage g.row.P.Denot = record before { history = g.C.CacheCore.history c.lurk.new.core } in
    let kept = pieces (g.K.Sink.held c.args.sink.now) c.args.play.now.unwritten.items in
    subst (λ (e : Event). Plays plan g.P.Policy.stands (changed before after kept kept) scene e (Err (Broken c.in-Err.broken))) (sym (c.in-Aside-Lurk.is ∙ ap events.Aside c.in-Aside-Lurk.field-0-is))
    ([], events.Aside (asides.Lurk c.in-Aside-Lurk.count) ∷ [], refl, lurked_not plan g.P.Policy.stands before after.history kept c.in-Aside-Lurk.count scene c.lurk.ensures.history c.in-Err.broken c.in-Err.ensures.only)

pub returns-in-Ok-clause-settled : goal.returns-in-Ok-clause-settled
returns-in-Ok-clause-settled g c = settled_same _ _ (stage_of g.C.CacheCore.history c.args.play.now) _ c.lurk.ensures.same c.lurk.ensures.history c.requires.settled

pub returns-in-Ok-clause-keeps : goal.returns-in-Ok-clause-keeps
returns-in-Ok-clause-keeps g c =
    record {
      core = core_same g.C.CacheCore.beginning g.C.CacheCore.history _ _ c.lurk.ensures.same c.lurk.ensures.history;
      in_step = step_same _ _ _ _ _ c.lurk.ensures.same c.lurk.ensures.history c.requires.in_step;
      sink_used = record { later = omega arith; cause = λ failed. absurd (cc) };
    }

pub returns-in-Err-clause-keeps : goal.returns-in-Err-clause-keeps
returns-in-Err-clause-keeps g c =
    record {
      core = core_same g.C.CacheCore.beginning g.C.CacheCore.history _ _ c.lurk.ensures.same c.lurk.ensures.history;
      in_step = step_same _ _ _ _ _ c.lurk.ensures.same c.lurk.ensures.history c.requires.in_step;
      sink_used = record { later = omega arith; cause = λ failed. let only = c.in-Err.ensures.only in absurd (cc) };
    }

pub returns-in-Ok-clause-noted : goal.returns-in-Ok-clause-noted
returns-in-Ok-clause-noted g c =
    c.in-Ok.ensures.noted ∙ ap (λ (e : Event). length c.args.swept.now.items + lurks_of e) (sym (c.in-Aside-Lurk.is ∙ ap events.Aside c.in-Aside-Lurk.field-0-is))

pub returns-in-Aside-Probe-clause-plays : goal.returns-in-Aside-Probe-clause-plays
returns-in-Aside-Probe-clause-plays g c = λ scene stage rests.
    let plan = plan_of g.P.Policy.wants (g.C.CacheCore.beginning c.args.play.now.core) in
    let before = stage_of g.C.CacheCore.history c.args.play.now in
    let kept = pieces (g.K.Sink.held c.args.sink.now) c.args.play.now.unwritten.items in
    subst (λ (e : Event). Plays plan g.P.Policy.stands (changed before before kept kept) scene e (Err Idle)) (sym (c.in-Aside-Probe.is ∙ ap events.Aside c.in-Aside-Probe.field-0-is))
    (tt, refl, Takes-nil _)
