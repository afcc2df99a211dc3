-- How a session ends.
use Rattle.std.proofs.Common.{◌≡◌, ℕ, Bool, true, false, ◌==◌, ◌&&◌, ◌⊎◌, inl, inr, List, [], ◌∷◌, ◌++◌, Option, Some, None, Result, Ok, Err, length, refl, sym, ◌∙◌, ap, subst}
use Rattle.std.proofs.lemmas.Bool.{eqb-true}
use Rattle.std.proofs.lemmas.List.{append-nil, nil_from_length, map-append}
use Rattle.std.specs.Io.KnownBytes.{Appends}
use Rattle.cache_law.specs.declared.call.Entry.{Entry}
use Rattle.cache_law.specs.declared.setting.Params.{Params}
use Rattle.cache_law.specs.declared.setting.Boot.{Boot}
use Rattle.cache_law.specs.Beginning.{Beginning, beginning_of}
use Rattle.cache_law.proofs.Histories.{Legal-beginning_of}
use Rattle.cache_law.specs.History.{Legal}
use Rattle.replay.specs.declared.policy.Request.{Request}
use Rattle.replay.specs.declared.policy.Given.{Given}
use Rattle.replay.specs.declared.policy.Want.{Want}
use Rattle.replay.specs.declared.event.Event.{Event}
use Rattle.replay.specs.declared.event.NumberedEvent.{NumberedEvent}
use Rattle.replay.specs.declared.event.Script.{Script}
use Rattle.replay.specs.declared.rounds.Break.TheVariants as breaks
use Rattle.replay.specs.declared.schedule.Halt.{Halt}
use Rattle.replay.specs.declared.schedule.Halt.TheVariants as halts
use Rattle.replay.specs.declared.session.ReplayError.{ReplayError}
use Rattle.replay.specs.declared.session.ReplayError.TheVariants.{Idle, Unanswered, WriteFault, HistoryFull, NoMemory}
use Rattle.replay.specs.Plan.{Plan, plan_of}
use Rattle.replay.specs.Scene.{Scene, opening_scene}
use Rattle.replay.specs.Pieces.{Pieces, pieces, Takes, LosesEnd}
use Rattle.replay.specs.Went.{Went, Stage, IsStage, IsPending, IsParked, PlaysAll, events_in}
use Rattle.replay.specs.Replayed.{EndsSo, IsWritten, refusal_of, CameTo, NobodyWaits}
use Rattle.replay.proofs.Alike.{alike-nil, alike-some}
use Rattle.replay.proofs.Playing.{changed}
use Rattle.replay.proofs.Runs.{went-map, went-here}
use Rattle.replay.proofs.Taking.{Appends-nil, Takes-then, Takes-at, LosesEnd-behind, LosesEnd-at, lost_end, all_taken}

both : (a b : Bool) → a && b ≡ true → (a ≡ true) × (b ≡ true)
both true b e = (refl, e)
both false b e = absurd (cc)

-- nothing is kept where the lengths say so
is_nil : {X : Type 0} (xs : List X) → (length xs == 0) ≡ true → xs ≡ []
is_nil xs e = nil_from_length xs (eqb-true (length xs) 0 e)

nothing_kept : {X Y : Type 0} (xs : List X) (ys : List Y) → xs ≡ [] → ys ≡ [] → (length xs == 0) && (length ys == 0) ≡ true
nothing_kept {X} {Y} xs ys p q = ap (λ (zs : List X). (length zs == 0) && (length ys == 0)) p ∙ ap (λ (zs : List Y). length zs == 0) q

nobody_waits : {P : Type 0} (plan : Plan) (stands : P → Request → List Given → Type 0) (stage : Stage P) (scene : Scene) → IsStage plan stands stage scene → (length stage.waiting == 0) && (length stage.parked == 0) ≡ true → NobodyWaits scene
nobody_waits plan stands stage scene is none =
    let parts = both (length stage.waiting == 0) (length stage.parked == 0) none in
    record {
      for_replies = alike-nil (IsPending plan.wants stands) stage.waiting scene.waiting is.waiting_are (is_nil stage.waiting parts.0);
      for_tokens = alike-nil (IsParked plan.wants stands) stage.parked scene.parked is.parked_are (is_nil stage.parked parts.1);
    }

somebody_waits : {P : Type 0} (plan : Plan) (stands : P → Request → List Given → Type 0) (stage : Stage P) (scene : Scene) → IsStage plan stands stage scene → (length stage.waiting == 0) && (length stage.parked == 0) ≡ false → NobodyWaits scene → ⊥
somebody_waits plan stands stage scene is some nobody =
    let none = nothing_kept stage.waiting stage.parked (alike-some (IsPending plan.wants stands) stage.waiting scene.waiting is.waiting_are nobody.for_replies) (alike-some (IsParked plan.wants stands) stage.parked scene.parked is.parked_are nobody.for_tokens) in
    cc

-- what was taken is written, or its end is lost
all_written : (before middle now : Option (List ℕ)) (unwritten text : List ℕ) → Takes (pieces before []) (pieces middle unwritten) text → Takes (pieces middle unwritten) (pieces now []) [] → Appends before now text
all_written before middle now unwritten text first rest = all_taken before now text (Takes-at (pieces before []) (pieces now []) (text ++ []) text (append-nil text) (Takes-then (pieces before []) (pieces middle unwritten) (pieces now []) text [] first rest))

some_lost : (before middle now : Option (List ℕ)) (unwritten text : List ℕ) → Takes (pieces before []) (pieces middle unwritten) text → LosesEnd (pieces middle unwritten) now [] → LosesEnd (pieces before []) now text
some_lost before middle now unwritten text first rest = LosesEnd-at (pieces before []) now (text ++ []) text (append-nil text) (LosesEnd-behind (pieces before []) (pieces middle unwritten) now text [] first rest)

-- the same by cases on the ending
Writing : Pieces → Option (List ℕ) → Option ReplayError → Option ReplayError → Type 0
Writing old held (Some WriteFault) told = (told ≡ Some WriteFault) × (held ≡ old.held)
Writing old held ending told = ((told ≡ ending) × Takes old (pieces held []) []) ⊎ ((told ≡ Some WriteFault) × LosesEnd old held [])

writing : (old : Pieces) (held : Option (List ℕ)) (ending told : Option ReplayError) → IsWritten old held ending told → Writing old held ending told
unfolding Writing
writing old held (Some WriteFault) told is = is.fault refl
writing old held None told is = is.other refl
writing old held (Some (Idle line)) told is = is.other refl
writing old held (Some (Unanswered line)) told is = is.other refl
writing old held (Some HistoryFull) told is = is.other refl
writing old held (Some NoMemory) told is = is.other refl

module _ {P : Type 0} (plan : Plan) (stands : P → Request → List Given → Type 0) (script : Script) (start stage : Stage P) (before middle now : Option (List ℕ)) (unwritten : List ℕ) (start_is : start.history ≡ []) (legal : Legal plan.beginning stage.history) where
  came : {H H' : Scene → List ℕ → Type 0} {heard : List Event} → ((scene : Scene) (text : List ℕ) → H scene text → H' scene text) → Went plan (opening_scene plan) heard start.history stage.history H → CameTo plan heard stage.history H'
  came {H} {H'} {heard} f w =
      record {
        went = went-map plan (opening_scene plan) heard [] stage.history _ _ f (subst (λ (h : List Entry). Went plan (opening_scene plan) heard h stage.history H) start_is w);
        legal = legal;
      }

  -- the sink's fault behind some of the events
  faulty : {H : Scene → List ℕ → Type 0} (heard rest : List Event) → events_in script.events ≡ heard ++ rest → ((scene : Scene) (text : List ℕ) → H scene text → LosesEnd (pieces before []) now text) → Went plan (opening_scene plan) heard start.history stage.history H → EndsSo plan script stage.history before now (Some WriteFault)
  faulty heard rest split lost w = (heard, rest, split, came (λ scene text f. lost_end before now text (lost scene text f)) w)

  told_so : (ending told : Option ReplayError) → told ≡ ending → EndsSo plan script stage.history before now ending → EndsSo plan script stage.history before now told
  told_so ending told same ends = subst (λ (e : Option ReplayError). EndsSo plan script stage.history before now e) (sym same) ends

  ends_so : (played : Result (Unit {0}) Halt) (empty : Bool) (told : Option ReplayError) → empty ≡ (length stage.waiting == 0) && (length stage.parked == 0) → PlaysAll plan stands (changed start stage (pieces before []) (pieces middle unwritten)) script.events played → Writing (pieces middle unwritten) now (refusal_of played empty script.end) told → EndsSo plan script stage.history before now told
  unfolding Writing
  ends_so (Ok u) true told is plays (inl w) =
      told_so None told w.0 (came (λ scene text f. (f.0, nobody_waits plan stands stage scene f.1 (sym is), all_written before middle now unwritten text f.2 w.1)) plays)
  ends_so (Ok u) true told is plays (inr w) =
      told_so (Some WriteFault) told w.0 (faulty (events_in script.events) [] (sym (append-nil (events_in script.events))) (λ scene text f. some_lost before middle now unwritten text f.2 w.1) plays)
  ends_so (Ok u) false told is plays (inl w) =
      told_so (Some (Unanswered script.end)) told w.0 (refl, came (λ scene text f. (f.0, somebody_waits plan stands stage scene f.1 (sym is), all_written before middle now unwritten text f.2 w.1)) plays)
  ends_so (Ok u) false told is plays (inr w) =
      told_so (Some WriteFault) told w.0 (faulty (events_in script.events) [] (sym (append-nil (events_in script.events))) (λ scene text f. some_lost before middle now unwritten text f.2 w.1) plays)
  ends_so (Err (halts.Idle line)) empty told is plays (inl w) =
      told_so (Some (Idle line)) told w.0 (plays.0, plays.1, plays.2, plays.3, plays.4, came (λ scene text f. (f.0, f.1, all_written before middle now unwritten text f.2 w.1)) plays.5)
  ends_so (Err (halts.Idle line)) empty told is plays (inr w) =
      told_so (Some WriteFault) told w.0 (faulty (events_in plays.0) (events_in (plays.1 ∷ plays.2)) (ap events_in plays.3 ∙ map-append (λ (n : NumberedEvent). n.event) plays.0 (plays.1 ∷ plays.2)) (λ scene text f. some_lost before middle now unwritten text f.2 w.1) plays.5)
  ends_so (Err (halts.Broken breaks.WriteFault)) empty told is plays w =
      told_so (Some WriteFault) told w.0 (faulty plays.0 plays.1 plays.2 (λ scene text b. subst (λ (held : Option (List ℕ)). LosesEnd (pieces before []) held text) (sym w.1) b) plays.3)
  ends_so (Err (halts.Broken breaks.HistoryFull)) empty told is plays (inl w) =
      told_so (Some HistoryFull) told w.0 (plays.0, plays.1, plays.2, came (λ scene text b. (b.0, all_written before middle now unwritten text b.1 w.1)) plays.3)
  ends_so (Err (halts.Broken breaks.HistoryFull)) empty told is plays (inr w) =
      told_so (Some WriteFault) told w.0 (faulty plays.0 plays.1 plays.2 (λ scene text b. some_lost before middle now unwritten text b.1 w.1) plays.3)
  ends_so (Err (halts.Broken breaks.NoMemory)) empty told is plays (inl w) =
      told_so (Some NoMemory) told w.0 (plays.0, plays.1, plays.2, came (λ scene text b. all_written before middle now unwritten text b w.1) plays.3)
  ends_so (Err (halts.Broken breaks.NoMemory)) empty told is plays (inr w) =
      told_so (Some WriteFault) told w.0 (faulty plays.0 plays.1 plays.2 (λ scene text b. some_lost before middle now unwritten text b w.1) plays.3)

-- no cache could be made
pub nothing_played : (plan : Plan) (script : Script) (before : Option (List ℕ)) → Legal plan.beginning [] → EndsSo plan script [] before before (Some NoMemory)
nothing_played plan script before legal =
    ([], events_in script.events, refl, record { went = went-here plan (opening_scene plan) [] _ (Appends-nil before); legal = legal })

-- the same, as the calls of a whole session tell it
pub ends_at : {P : Type 0} (wants : Request → List Given → Want → Type 0) (stands : P → Request → List Given → Type 0) (params : Params) (boot : Boot) (one two : Beginning) (script : Script) (start stage : Stage P) (history : List Entry) (before middle now : Option (List ℕ)) (fresh unwritten : List ℕ) (played : Result (Unit {0}) Halt) (empty : Bool) (told : Option ReplayError)
    → one ≡ beginning_of params boot → two ≡ one → start.history ≡ [] → history ≡ stage.history → fresh ≡ [] → (Legal one start.history → Legal two stage.history)
    → empty ≡ (length stage.waiting == 0) && (length stage.parked == 0)
    → PlaysAll (plan_of wants one) stands (changed start stage (pieces before fresh) (pieces middle unwritten)) script.events played
    → IsWritten (pieces middle unwritten) now (refusal_of played empty script.end) told
    → EndsSo (plan_of wants (beginning_of params boot)) script history before now told
ends_at wants stands params boot one two script start stage history before middle now fresh unwritten played empty told begins same start_is history_is fresh_is legal is plays written =
    let begun : Legal one start.history = subst (λ (b : Beginning). Legal b start.history) (sym begins) (subst (λ (h : List Entry). Legal (beginning_of params boot) h) (sym start_is) (Legal-beginning_of params boot)) in
    let lawful : Legal one stage.history = subst (λ (b : Beginning). Legal b stage.history) same (legal begun) in
    subst (λ (b : Beginning). EndsSo (plan_of wants b) script history before now told) begins
    (subst (λ (h : List Entry). EndsSo (plan_of wants one) script h before now told) (sym history_is)
    (ends_so (plan_of wants one) stands script start stage before middle now unwritten start_is lawful played empty told is
    (subst (λ (f : List ℕ). PlaysAll (plan_of wants one) stands (changed start stage (pieces before f) (pieces middle unwritten)) script.events played) fresh_is plays) (writing (pieces middle unwritten) now (refusal_of played empty script.end) told written)))
