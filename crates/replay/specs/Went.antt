-- How far a part of a session has come, as the functions that play it tell.
use Rattle.std.specs.Prelude.{◌≡◌, ℕ, false, Option, None, Some, List, [], ◌∷◌, ◌++◌, ◌≤◌, ◌-◌, map, Result, Ok, Err}
use Rattle.http_heads.specs.declared.exchange.BackendRequest.{BackendRequest}
use Rattle.cache_law.specs.declared.call.Entry.{Entry}
use Rattle.cache_law.specs.Beginning.{Beginning}
use Rattle.cache_law.specs.History.{Legal, reached, bytes_of_all}
use Rattle.replay.specs.declared.policy.Request.{Request}
use Rattle.replay.specs.declared.policy.Given.{Given}
use Rattle.replay.specs.declared.policy.Want.{Want}
use Rattle.replay.specs.declared.policy.Want.TheVariants.{Exchange, Await}
use Rattle.replay.specs.declared.event.Event.{Event}
use Rattle.replay.specs.declared.event.NumberedEvent.{NumberedEvent}
use Rattle.replay.specs.declared.rounds.Pending.{Pending}
use Rattle.replay.specs.declared.rounds.Kept.{Kept}
use Rattle.replay.specs.declared.rounds.Break.{Break}
use Rattle.replay.specs.declared.rounds.Break.TheVariants.{WriteFault, HistoryFull, NoMemory}
use Rattle.replay.specs.declared.rounds.Play.{Play}
use Rattle.replay.specs.declared.schedule.Stop.{Stop}
use Rattle.replay.specs.declared.schedule.Stop.TheVariants.{Idle, Broken}
use Rattle.replay.specs.declared.schedule.Halt.{Halt}
use Rattle.replay.specs.declared.schedule.Halt.TheVariants as halts
use Rattle.replay.specs.Plan.{Plan}
use Rattle.replay.specs.Scene.{Round, Waiting, Parked, Scene, AtRest, Run, opening_scene}
use Rattle.replay.specs.Pieces.{Pieces, pieces, Takes, LosesEnd, UsesSink}
use Rattle.replay.specs.Endings.{WantsTooMuch, IsIdle}

-- From a scene on, some moves read these events, led from one history to another and to a scene and a text of
-- which this holds.
pub record Went (plan : Plan) (old : Scene) (events_read : List Event) (before now : List Entry) (holds : Scene → List ℕ → Type 0) : Type 0 where
  pub scene : Scene
  pub entries : List Entry
  pub text : List ℕ
  pub run : Run plan old scene events_read entries text
  pub history : now ≡ before ++ entries
  pub fact : holds scene text

-- the policy leads a round of the client, which wants this
pub record Leads {P : Type 0} (wants : Request → List Given → Want → Type 0) (stands : P → Request → List Given → Type 0) (policy : P) (client : ℕ) (want : Want) (round : Round) : Type 0 where
  pub client_is : round.request.client ≡ client
  pub stands_at : stands policy round.request round.givens
  pub wanted : wants round.request round.givens want

-- the same, of some round
pub record CanLead {P : Type 0} (wants : Request → List Given → Want → Type 0) (stands : P → Request → List Given → Type 0) (policy : P) (client : ℕ) (want : Want) : Type 0 where
  pub round : Round
  pub leads : Leads wants stands policy client want round

-- and it is the round's turn
pub record HasTurn {P : Type 0} (wants : Request → List Given → Want → Type 0) (stands : P → Request → List Given → Type 0) (policy : P) (client : ℕ) (want : Want) (scene : Scene) : Type 0 where
  pub round : Round
  pub turn : scene.running ≡ Some round
  pub leads : Leads wants stands policy client want round

-- a kept round is one that waits for a reply
pub record IsPending {P : Type 0} (wants : Request → List Given → Want → Type 0) (stands : P → Request → List Given → Type 0) (kept : Pending P) (one : Waiting) : Type 0 where
  pub number_is : kept.number ≡ one.number
  pub to_head_is : kept.to_head ≡ one.to_head
  pub backend : List ℕ
  pub request : BackendRequest
  pub leads : Leads wants stands kept.policy kept.client (Exchange kept.number backend request) one.round

-- a kept round is one that is parked
pub record IsParked {P : Type 0} (wants : Request → List Given → Want → Type 0) (stands : P → Request → List Given → Type 0) (kept : Kept P) (one : Parked) : Type 0 where
  pub token_is : kept.token ≡ one.token
  pub leads : Leads wants stands kept.policy kept.client (Await kept.token) one.round

-- one list stands for another, item by item
abbrev pub AllAlike : {X Y : Type 0} → (X → Y → Type 0) → List X → List Y → Type 0
AllAlike same [] [] = Unit {0}
AllAlike same [] (y ∷ ys) = ⊥
AllAlike same (x ∷ xs) [] = ⊥
AllAlike same (x ∷ xs) (y ∷ ys) = same x y × AllAlike same xs ys

-- what is kept of a scene: its moment, its rounds, and the history of its cache
pub record Stage (P : Type 0) : Type 0 where
  pub moment : ℕ
  pub waiting : List (Pending P)
  pub parked : List (Kept P)
  pub history : List Entry

-- what a part of a session changes: its stage, and what was taken of its text
pub record Change (P : Type 0) : Type 0 where
  pub before : Stage P
  pub after : Stage P
  pub old : Pieces
  pub new : Pieces

abbrev pub stage_of : {C P : Type 0} → (C → List Entry) → Play C P → Stage P
stage_of history play = record { moment = play.moment; waiting = play.waiting.items; parked = play.parked.items; history = history play.core }

abbrev pub change_of : {C P K : Type 0} → (C → List Entry) → (K → Option (List ℕ)) → Play C P → Play C P → K → K → Change P
change_of history held old new sink sink_after =
    record {
      before = stage_of history old;
      after = stage_of history new;
      old = pieces (held sink) old.unwritten.items;
      new = pieces (held sink_after) new.unwritten.items;
    }

-- the moment and the cache's history are the scene's
pub record IsAt (beginning : Beginning) (history : List Entry) (moment : ℕ) (scene : Scene) : Type 0 where
  pub moment_is : moment ≡ scene.moment
  pub state_is : scene.state ≡ reached beginning history

-- the stage is the scene's
pub record IsStage {P : Type 0} (plan : Plan) (stands : P → Request → List Given → Type 0) (stage : Stage P) (scene : Scene) : Type 0 where
  pub at : IsAt plan.beginning stage.history stage.moment scene
  pub waiting_are : AllAlike (IsPending plan.wants stands) stage.waiting scene.waiting
  pub parked_are : AllAlike (IsParked plan.wants stands) stage.parked scene.parked

-- the stage is that of some scene
pub record IsSet {P : Type 0} (plan : Plan) (stands : P → Request → List Given → Type 0) (stage : Stage P) : Type 0 where
  pub scene : Scene
  pub is_stage : IsStage plan stands stage scene

-- no entry is later than this moment, and no segments are kept
pub record IsInStep (beginning : Beginning) (history : List Entry) (moment : ℕ) : Type 0 where
  pub no_later : (reached beginning history).moment ≤ moment
  pub unsegmented : beginning.params.segments ≡ false

-- what a part of a session leaves of its cache as it was, and keeps of it
pub record KeepsCore {C : Type 0} (beginning : C → Beginning) (history : C → List Entry) (old new : C) : Type 0 where
  pub same : beginning new ≡ beginning old
  pub legal : Legal (beginning old) (history old) → Legal (beginning new) (history new)
  pub grows : bytes_of_all (history old) ≤ bytes_of_all (history new)

-- What a part of a session keeps, be it played to its end or not; `failed` says that the sink broke it off.
pub record Keeps {C P K : Type 0} (beginning : C → Beginning) (history : C → List Entry) (faults : K → ℕ) (old new : Play C P) (sink sink_after : K) (failed : Type 0) : Type 0 where
  pub core : KeepsCore beginning history old.core new.core
  pub in_step : IsInStep (beginning new.core) (history new.core) new.moment
  pub sink_used : UsesSink faults sink sink_after failed

-- what a history has left of its limit
abbrev pub spare : Beginning → List Entry → ℕ
spare beginning entries = beginning.params.history - bytes_of_all entries

-- What a break leaves: the text before it was taken. A full history has no room for the call that is wanted, and a
-- write fault loses some of the end of the text.
abbrev pub Breaks : Plan → List Entry → Pieces → Pieces → Break → Scene → List ℕ → Type 0
Breaks plan history old new HistoryFull scene text = WantsTooMuch plan history scene × Takes old new text
Breaks plan history old new WriteFault scene text = LosesEnd old new.held text
Breaks plan history old new NoMemory scene text = Takes old new text

-- nothing but the turn and the cache changed
pub record KeepsRounds (old new : Scene) : Type 0 where
  pub waiting_same : new.waiting ≡ old.waiting
  pub parked_same : new.parked ≡ old.parked

-- what the round wanted was met, and it wants this next
pub record Met {P : Type 0} (plan : Plan) (stands : P → Request → List Given → Type 0) (history : List Entry) (moment : ℕ) (policy : P) (client : ℕ) (want : Want) (old new : Scene) : Type 0 where
  pub has_turn : HasTurn plan.wants stands policy client want new
  pub at : IsAt plan.beginning history moment new
  pub keeps : KeepsRounds old new

-- from a scene in which the round has its turn and wants this, it was met, or the session broke off
abbrev pub Meets : {P : Type 0} → Plan → (P → Request → List Given → Type 0) → List Entry → ℕ → P → ℕ → Pieces → Pieces → Result Want Break → Scene → Scene → List ℕ → Type 0
Meets plan stands history moment policy client old new (Ok want) scene next text =
    Met plan stands history moment policy client want scene next × Takes old new text
Meets plan stands history moment policy client old new (Err broken) scene next text = Breaks plan history old new broken next text

abbrev pub NobodyRuns : Scene → Type 0
NobodyRuns scene = scene.running ≡ None

-- A round was led on to a scene that is still so, or the session broke off.
abbrev pub ComesTo : {P : Type 0} → Plan → (P → Request → List Given → Type 0) → (Scene → Type 0) → Change P → Result (Unit {0}) Break → Scene → List ℕ → Type 0
ComesTo plan stands Still change (Ok u) scene text =
    Still scene × IsStage plan stands change.after scene × Takes change.old change.new text
ComesTo plan stands Still change (Err broken) scene text =
    Breaks plan change.after.history change.old change.new broken scene text

-- What playing one event leads to, or why it isn't played: it can't be here, or it is broken off, before the
-- line is heard or after it.
abbrev pub Plays : {P : Type 0} → Plan → (P → Request → List Given → Type 0) → Change P → Scene → Event → Result (Unit {0}) Stop → Type 0
Plays plan stands change scene event (Ok u) =
    Went plan scene (event ∷ []) change.before.history change.after.history (ComesTo plan stands AtRest change (Ok u))
Plays plan stands change scene event (Err Idle) =
    IsIdle scene event × (change.after.history ≡ change.before.history) × Takes change.old change.new []
Plays plan stands change scene event (Err (Broken broken)) =
    (heard : List Event) × (rest : List Event) × (event ∷ [] ≡ heard ++ rest)
    × Went plan scene heard change.before.history change.after.history (ComesTo plan stands AtRest change (Err broken))

-- the events without their lines' numbers
abbrev pub events_in : List NumberedEvent → List Event
events_in numbered = map (λ (one : NumberedEvent). one.event) numbered

-- What playing events from the opening scene on leads to, or where it halts: at an idle event, behind those
-- before it, or broken off, with some of the events heard.
abbrev pub PlaysAll : {P : Type 0} → Plan → (P → Request → List Given → Type 0) → Change P → List NumberedEvent → Result (Unit {0}) Halt → Type 0
PlaysAll plan stands change events (Ok u) =
    Went plan (opening_scene plan) (events_in events) change.before.history change.after.history (ComesTo plan stands AtRest change (Ok u))
PlaysAll plan stands change events (Err (halts.Idle line)) =
    (played : List NumberedEvent) × (idle : NumberedEvent) × (rest : List NumberedEvent) × (events ≡ played ++ idle ∷ rest) × (idle.number ≡ line)
    × Went plan (opening_scene plan) (events_in played) change.before.history change.after.history (λ next text. AtRest next × IsIdle next idle.event × Takes change.old change.new text)
PlaysAll plan stands change events (Err (halts.Broken broken)) =
    (heard : List Event) × (rest : List Event) × (events_in events ≡ heard ++ rest)
    × Went plan (opening_scene plan) heard change.before.history change.after.history (ComesTo plan stands AtRest change (Err broken))
