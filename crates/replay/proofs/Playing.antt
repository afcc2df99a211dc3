-- Events, one after another.
use Rattle.std.proofs.Common.{◌≡◌, List, [], ◌∷◌, ◌++◌, Ok, Err, Result, refl, sym, ◌∙◌, ap, subst}
use Rattle.std.proofs.lemmas.List.{append-nil, append_assoc, map-append}
use Rattle.cache_law.specs.Beginning.{Beginning}
use Rattle.replay.specs.declared.policy.Request.{Request}
use Rattle.replay.specs.declared.policy.Given.{Given}
use Rattle.replay.specs.declared.policy.Want.{Want}
use Rattle.replay.specs.declared.event.Event.{Event}
use Rattle.replay.specs.declared.event.NumberedEvent.{NumberedEvent}
use Rattle.replay.specs.declared.rounds.Break.{Break}
use Rattle.replay.specs.declared.schedule.Stop.{Stop}
use Rattle.replay.specs.declared.schedule.Stop.TheVariants.{Idle, Broken}
use Rattle.replay.specs.declared.schedule.Halt.TheVariants as halts
use Rattle.replay.specs.Plan.{Plan, plan_of}
use Rattle.replay.specs.Scene.{Scene, AtRest, opening_scene}
use Rattle.replay.specs.Endings.{IsIdle}
use Rattle.replay.specs.Pieces.{Pieces, Takes}
use Rattle.replay.specs.Went.{Went, Stage, Change, IsStage, ComesTo, Plays, PlaysAll, events_in}
use Rattle.replay.proofs.Hearing.{comes_behind}
use Rattle.replay.proofs.Runs.{went-at, went-map, went-still}
use Rattle.replay.proofs.Taking.{Takes-then}

abbrev pub changed : {P : Type 0} → Stage P → Stage P → Pieces → Pieces → Change P
changed before after old new = record { before = before; after = after; old = old; new = new }

module _ {P : Type 0} (wants : Request → List Given → Want → Type 0) (stands : P → Request → List Given → Type 0) where
  -- an event's playing, from the beginning that the cache has
  pub plays_at : (one two : Beginning) (stage : Stage P) (change : Change P) (event : Event) (result : Result (Unit {0}) Stop) → two ≡ one → ((scene : Scene) → IsStage (plan_of wants two) stands stage scene → AtRest scene → Plays (plan_of wants two) stands change scene event result) → (scene : Scene) → IsStage (plan_of wants one) stands stage scene → AtRest scene → Plays (plan_of wants one) stands change scene event result
  plays_at one two stage change event result same plays =
      subst (λ (b : Beginning). (scene : Scene) → IsStage (plan_of wants b) stands stage scene → AtRest scene → Plays (plan_of wants b) stands change scene event result) same plays

module _ {P : Type 0} (plan : Plan) (stands : P → Request → List Given → Type 0) (events front : List NumberedEvent) (before middle after : Stage P) (one two three : Pieces) (so : Went plan (opening_scene plan) (events_in front) before.history middle.history (ComesTo plan stands AtRest (changed before middle one two) (Ok tt))) where
  pub played_more : (numbered : NumberedEvent) → ((scene : Scene) → IsStage plan stands middle scene → AtRest scene → Plays plan stands (changed middle after two three) scene numbered.event (Ok tt)) → Went plan (opening_scene plan) (events_in (front ++ numbered ∷ [])) before.history after.history (ComesTo plan stands AtRest (changed before after one three) (Ok tt))
  played_more numbered plays =
      subst (λ (es : List Event). Went plan (opening_scene plan) es before.history after.history (ComesTo plan stands AtRest (changed before after one three) (Ok tt))) (sym (map-append (λ (n : NumberedEvent). n.event) front (numbered ∷ [])))
      (went-at plan (opening_scene plan) (events_in front) (numbered.event ∷ []) before.history middle.history after.history _ _ so
      (went-map plan so.scene (numbered.event ∷ []) middle.history after.history _ _ (λ next more c. comes_behind plan stands AtRest before middle after one two three (Ok tt) next so.text more so.fact.2 c) (plays so.scene so.fact.1 so.fact.0)))

  pub idle_at : (numbered : NumberedEvent) (back : List NumberedEvent) (stop : Stop) → stop ≡ Idle → events ≡ front ++ numbered ∷ back → ((scene : Scene) → IsStage plan stands middle scene → AtRest scene → Plays plan stands (changed middle after two three) scene numbered.event (Err stop)) → PlaysAll plan stands (changed before after one three) events (Err (halts.Idle numbered.number))
  idle_at numbered back stop idle split plays =
      let p = subst (λ (s : Stop). Plays plan stands (changed middle after two three) so.scene numbered.event (Err s)) idle (plays so.scene so.fact.1 so.fact.0) in (
        front,
        numbered,
        back,
        split,
        refl,
        subst (λ (es : List Event). Went plan (opening_scene plan) es before.history after.history (λ next text. AtRest next × IsIdle next numbered.event × Takes one three text)) (append-nil (events_in front))
            (went-at plan (opening_scene plan) (events_in front) [] before.history middle.history after.history _ _ so
            (went-still plan so.scene middle.history after.history _ p.1 (so.fact.0, p.0, Takes-then one two three so.text [] so.fact.2 p.2))),
      )

  pub broken_at : (numbered : NumberedEvent) (back : List NumberedEvent) (broken : Break) (stop : Stop) → stop ≡ Broken broken → events ≡ front ++ numbered ∷ back → ((scene : Scene) → IsStage plan stands middle scene → AtRest scene → Plays plan stands (changed middle after two three) scene numbered.event (Err stop)) → PlaysAll plan stands (changed before after one three) events (Err (halts.Broken broken))
  broken_at numbered back broken stop breaks split plays =
      let p = subst (λ (s : Stop). Plays plan stands (changed middle after two three) so.scene numbered.event (Err s)) breaks (plays so.scene so.fact.1 so.fact.0) in
      let heard = events_in front in
      let rest = events_in back in
      let whole : events_in events ≡ (heard ++ p.0) ++ (p.1 ++ rest) =
      ap events_in split
      ∙ (map-append (λ (n : NumberedEvent). n.event) front (numbered ∷ back)
      ∙ (ap (λ (es : List Event). heard ++ (es ++ rest)) p.2
      ∙ (ap (λ (es : List Event). heard ++ es) (append_assoc p.0 p.1 rest) ∙ sym (append_assoc heard p.0 (p.1 ++ rest))))) in (
        heard ++ p.0,
        p.1 ++ rest,
        whole,
        went-at plan (opening_scene plan) heard p.0 before.history middle.history after.history _ _ so
            (went-map plan so.scene p.0 middle.history after.history _ _ (λ next more b. comes_behind plan stands AtRest before middle after one two three (Err broken) next so.text more so.fact.2 b) p.3),
      )

  pub all_played : front ≡ events → PlaysAll plan stands (changed before middle one two) events (Ok tt)
  all_played all = subst (λ (es : List NumberedEvent). Went plan (opening_scene plan) (events_in es) before.history middle.history (ComesTo plan stands AtRest (changed before middle one two) (Ok tt))) all so
