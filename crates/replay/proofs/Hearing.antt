-- What an event that is heard, and a round that wakes, do to a scene.
use Rattle.std.proofs.Common.{◌≡◌, ℕ, Bool, false, List, [], ◌∷◌, ◌++◌, ◌||◌, ◌==◌, Some, None, Ok, Err, Result, refl, sym, ◌∙◌, ap, subst}
use Rattle.std.proofs.lemmas.List.{append-nil}
use Rattle.std.specs.Prelude.{find, position, remove, get_or}
use Rattle.std.specs.List.{list_any}
use Rattle.http_heads.specs.declared.exchange.Exchange.{Exchange as What}
use Rattle.cache_law.specs.declared.call.Entry.{Entry}
use Rattle.cache_law.specs.Beginning.{Beginning}
use Rattle.cache_law.specs.History.{reached}
use Rattle.cache_law.specs.State.{State, is_closed}
use Rattle.replay.specs.declared.policy.Request.{Request}
use Rattle.replay.specs.declared.policy.Given.{Given}
use Rattle.replay.specs.declared.policy.Given.TheVariants.{Start, Came, Closed}
use Rattle.replay.specs.declared.policy.Want.{Want}
use Rattle.replay.specs.declared.event.Event.{Event}
use Rattle.replay.specs.declared.event.Event.TheVariants as events
use Rattle.replay.specs.declared.event.Heard.{Heard}
use Rattle.replay.specs.declared.rounds.Pending.{Pending}
use Rattle.replay.specs.declared.rounds.Kept.{Kept}
use Rattle.replay.specs.declared.rounds.Break.{Break}
use Rattle.replay.specs.Plan.{Plan, plan_of}
use Rattle.replay.specs.Scene.{IsHeardAs, Scene, Waiting, Parked, AtRest, hears, wakes, begun, gave, with_running, is_under_way, waits_for, without_first, is_free, without_free}
use Rattle.replay.specs.Pieces.{Pieces, Takes}
use Rattle.replay.specs.Went.{Went, Leads, HasTurn, IsPending, IsParked, AllAlike, Stage, Change, IsStage, IsSet, Meets, NobodyRuns, ComesTo}
use Rattle.replay.proofs.Alike.{alike-any, Found, found, not_found}
use Rattle.replay.proofs.Asking.{leads_on}
use Rattle.replay.proofs.Runs.{went-then, went-one, went-map}
use Rattle.replay.proofs.Taking.{Takes-then}
use Rattle.replay.proofs.Turns.{Breaks-behind, SoFar, at_like}

module _ {P : Type 0} (wants : Request → List Given → Want → Type 0) (stands : P → Request → List Given → Type 0) where
  pending_client : (client : ℕ) (kept : Pending P) (one : Waiting) → IsPending wants stands kept one → (kept.client == client) ≡ (one.round.request.client == client)
  pending_client client kept one is = ap (λ (n : ℕ). n == client) (sym is.leads.client_is)

  parked_client : (client : ℕ) (kept : Kept P) (one : Parked) → IsParked wants stands kept one → (kept.client == client) ≡ (one.round.request.client == client)
  parked_client client kept one is = ap (λ (n : ℕ). n == client) (sym is.leads.client_is)

  pub under_way : (pending : List (Pending P)) (parked : List (Kept P)) (scene : Scene) (client : ℕ) → AllAlike (IsPending wants stands) pending scene.waiting → AllAlike (IsParked wants stands) parked scene.parked → (list_any (λ (kept : Pending P). kept.client == client) pending || list_any (λ (kept : Kept P). kept.client == client) parked) ≡ is_under_way client scene
  under_way pending parked scene client are too =
      ap (λ (b : Bool). b || list_any (λ (kept : Kept P). kept.client == client) parked) (alike-any (IsPending wants stands) (λ (kept : Pending P). kept.client == client) (λ (one : Waiting). one.round.request.client == client) (pending_client client) pending scene.waiting are)
      ∙ ap (λ (b : Bool). list_any (λ (one : Waiting). one.round.request.client == client) scene.waiting || b) (alike-any (IsParked wants stands) (λ (kept : Kept P). kept.client == client) (λ (one : Parked). one.round.request.client == client) (parked_client client) parked scene.parked too)

  pub pending_number : (number : ℕ) (kept : Pending P) (one : Waiting) → IsPending wants stands kept one → (kept.number == number) ≡ waits_for number one
  pending_number number kept one is = ap (λ (n : ℕ). n == number) is.number_is

  abbrev pub FoundWaiting : List (Pending P) → List Waiting → ℕ → ℕ → Pending P → Type 0
  FoundWaiting pending waiting number place kept = Found (IsPending wants stands) (λ (k : Pending P). k.number == number) (waits_for number) (pending_number number) pending waiting place kept

  pub found_waiting : (pending : List (Pending P)) (waiting : List Waiting) (number place : ℕ) (kept : Pending P) → AllAlike (IsPending wants stands) pending waiting → position (λ (k : Pending P). k.number == number) pending ≡ Some place → kept ≡ get_or pending place kept → FoundWaiting pending waiting number place kept
  found_waiting pending waiting number place kept are at is = found (IsPending wants stands) (λ (k : Pending P). k.number == number) (waits_for number) (pending_number number) pending waiting place kept are at is

  pub nobody_waiting : (pending : List (Pending P)) (waiting : List Waiting) (number : ℕ) → AllAlike (IsPending wants stands) pending waiting → position (λ (k : Pending P). k.number == number) pending ≡ None → find (waits_for number) waiting ≡ None
  nobody_waiting pending waiting number are at = not_found (IsPending wants stands) (λ (k : Pending P). k.number == number) (waits_for number) (pending_number number) pending waiting are at

  pub parked_free : (state : State) (kept : Kept P) (one : Parked) → IsParked wants stands kept one → is_closed state.fetches kept.token ≡ is_free state one
  parked_free state kept one is = ap (λ (n : ℕ). is_closed state.fetches n) is.token_is

  abbrev pub FoundFree : State → List (Kept P) → List Parked → ℕ → Kept P → Type 0
  FoundFree state kept parked place one = Found (IsParked wants stands) (λ (k : Kept P). is_closed state.fetches k.token) (is_free state) (parked_free state) kept parked place one

  pub found_free : (state : State) (kept : List (Kept P)) (parked : List Parked) (place : ℕ) (one : Kept P) → AllAlike (IsParked wants stands) kept parked → position (λ (k : Kept P). is_closed state.fetches k.token) kept ≡ Some place → one ≡ get_or kept place one → FoundFree state kept parked place one
  found_free state kept parked place one are at is = found (IsParked wants stands) (λ (k : Kept P). is_closed state.fetches k.token) (is_free state) (parked_free state) kept parked place one are at is

  pub nobody_free : (state : State) (kept : List (Kept P)) (parked : List Parked) → AllAlike (IsParked wants stands) kept parked → position (λ (k : Kept P). is_closed state.fetches k.token) kept ≡ None → find (is_free state) parked ≡ None
  nobody_free state kept parked are at = not_found (IsParked wants stands) (λ (k : Kept P). is_closed state.fetches k.token) (is_free state) (parked_free state) kept parked are at

-- the scene in which a round has its reply
abbrev pub replied : Scene → ℕ → What → Waiting → Scene
replied scene number exchange one = record scene {
  running = Some (gave one.round (Came (record { moment = scene.moment; exchange = exchange })));
  waiting = without_first number scene.waiting;
}

-- the scene in which a round is awake
abbrev pub woken : Scene → Parked → Scene
woken scene one = record scene { running = Some (gave one.round Closed); parked = without_free scene.state scene.parked }

module _ (plan : Plan) where
  -- a request that begins a round
  pub request_heard : (scene : Scene) (request : Request) (h0 h1 : List Entry) (H : Scene → List ℕ → Type 0) → AtRest scene → is_under_way request.client scene ≡ false → Went plan (with_running scene (begun scene.moment request)) [] h0 h1 H → Went plan scene (events.Request request ∷ []) h0 h1 H
  request_heard scene request h0 h1 H rests free went =
      went-then plan scene (events.Request request ∷ []) [] h0 h0 h1 (λ next text. (next ≡ with_running scene (begun scene.moment request)) × (text ≡ [])) H
      (went-one plan scene (with_running scene (begun scene.moment request)) (hears (events.Request request)) h0 h0 _ (rests, free, refl) (sym (append-nil h0)) (refl, refl))
      (λ next text at. subst (λ (s : Scene). Went plan s [] h0 h1 (λ t more. H t (text ++ more))) (sym at.0) (subst (λ (x : List ℕ). Went plan (with_running scene (begun scene.moment request)) [] h0 h1 (λ t more. H t (x ++ more))) (sym at.1) went))

  -- a reply that a round waits for
  pub reply_heard : (scene : Scene) (number : ℕ) (heard : Heard) (exchange : What) (one : Waiting) (h0 h1 : List Entry) (H : Scene → List ℕ → Type 0) → AtRest scene → find (waits_for number) scene.waiting ≡ Some one → IsHeardAs one.to_head heard exchange → Went plan (replied scene number exchange one) [] h0 h1 H → Went plan scene (events.Reply number heard ∷ []) h0 h1 H
  reply_heard scene number heard exchange one h0 h1 H rests is heard_as went =
      went-then plan scene (events.Reply number heard ∷ []) [] h0 h0 h1 (λ next text. (next ≡ replied scene number exchange one) × (text ≡ [])) H
      (went-one plan scene (replied scene number exchange one) (hears (events.Reply number heard)) h0 h0 _ (one, rests, is, exchange, heard_as, refl) (sym (append-nil h0)) (refl, refl))
      (λ next text at. subst (λ (s : Scene). Went plan s [] h0 h1 (λ t more. H t (text ++ more))) (sym at.0) (subst (λ (x : List ℕ). Went plan (replied scene number exchange one) [] h0 h1 (λ t more. H t (x ++ more))) (sym at.1) went))

  -- a round that wakes
  pub round_wakes : (scene : Scene) (one : Parked) (h0 h1 : List Entry) (H : Scene → List ℕ → Type 0) → NobodyRuns scene → find (is_free scene.state) scene.parked ≡ Some one → Went plan (woken scene one) [] h0 h1 H → Went plan scene [] h0 h1 H
  round_wakes scene one h0 h1 H rests is went =
      went-then plan scene [] [] h0 h0 h1 (λ next text. (next ≡ woken scene one) × (text ≡ [])) H
      (went-one plan scene (woken scene one) wakes h0 h0 _ (one, rests, is, refl) (sym (append-nil h0)) (refl, refl))
      (λ next text at. subst (λ (s : Scene). Went plan s [] h0 h1 (λ t more. H t (text ++ more))) (sym at.0) (subst (λ (x : List ℕ). Went plan (woken scene one) [] h0 h1 (λ t more. H t (x ++ more))) (sym at.1) went))

  -- what is taken before a part that comes to somewhere
  pub comes_behind : {P : Type 0} (stands : P → Request → List Given → Type 0) (Still : Scene → Type 0) (before middle after : Stage P) (one two three : Pieces) (result : Result (Unit {0}) Break) (scene : Scene) (text more : List ℕ) → Takes one two text → ComesTo plan stands Still (record { before = middle; after = after; old = two; new = three }) result scene more → ComesTo plan stands Still (record { before = before; after = after; old = one; new = three }) result scene (text ++ more)
  comes_behind stands Still before middle after one two three (Ok u) scene text more takes comes = (comes.0, comes.1, Takes-then one two three text more takes comes.2)
  comes_behind stands Still before middle after one two three (Err broken) scene text more takes comes = Breaks-behind plan after.history one two three broken scene text more takes comes

  -- the stage of a scene is that of another with the same rounds
  pub stage_like : {P : Type 0} (stands : P → Request → List Given → Type 0) (stage : Stage P) (one two : Scene) → IsStage plan stands stage one → two.moment ≡ one.moment → two.state ≡ one.state → two.waiting ≡ one.waiting → two.parked ≡ one.parked → IsStage plan stands stage two
  stage_like stands stage one two is m s w p =
      record {
        at = at_like plan.beginning stage.history stage.moment one two is.at m s;
        waiting_are = subst (λ (ws : List Waiting). AllAlike (IsPending plan.wants stands) stage.waiting ws) (sym w) is.waiting_are;
        parked_are = subst (λ (ps : List Parked). AllAlike (IsParked plan.wants stands) stage.parked ps) (sym p) is.parked_are;
      }

  -- a call that was answered, and what the round then comes to
  pub asked_and_led : {P : Type 0} (stands : P → Request → List Given → Type 0) (scene : Scene) (h0 h1 h2 : List Entry) (moment : ℕ) (policy : P) (client : ℕ) (want : Want) (waiting : List (Pending P)) (parked : List (Kept P)) (before after : Stage P) (one two : Pieces) (result : Result (Unit {0}) Break)
      → AllAlike (IsPending plan.wants stands) waiting scene.waiting → AllAlike (IsParked plan.wants stands) parked scene.parked
      → Went plan scene [] h0 h1 (Meets plan stands h1 moment policy client one one (Ok want) scene)
      → ((s : Scene) → IsStage plan stands (record { moment = moment; waiting = waiting; parked = parked; history = h1 }) s → HasTurn plan.wants stands policy client want s → Went plan s [] h1 h2 (ComesTo plan stands NobodyRuns (record { before = record { moment = moment; waiting = waiting; parked = parked; history = h1 }; after = after; old = one; new = two }) result))
      → Went plan scene [] h0 h2 (ComesTo plan stands NobodyRuns (record { before = before; after = after; old = one; new = two }) result)
  asked_and_led stands scene h0 h1 h2 moment policy client want waiting parked before after one two result are too met led =
      went-then plan scene [] [] h0 h1 h2 (Meets plan stands h1 moment policy client one one (Ok want) scene) _ met
      (λ s text m. went-map plan s [] h1 h2 _ _ (λ next more c. comes_behind stands NobodyRuns before (record { moment = moment; waiting = waiting; parked = parked; history = h1 }) after one one two result next text more m.1 c)
      (led s (record {
        at = m.0.at;
        waiting_are = subst (λ (ws : List Waiting). AllAlike (IsPending plan.wants stands) waiting ws) (sym m.0.keeps.waiting_same) are;
        parked_are = subst (λ (ps : List Parked). AllAlike (IsParked plan.wants stands) parked ps) (sym m.0.keeps.parked_same) too;
      }) m.0.has_turn))

  -- one part, and another behind it, from where nobody runs
  pub comes_then : {P : Type 0} (stands : P → Request → List Given → Type 0) (Still : Scene → Type 0) (scene : Scene) (h0 h1 h2 : List Entry) (before middle after : Stage P) (one two three : Pieces) (result : Result (Unit {0}) Break)
      → Went plan scene [] h0 h1 (ComesTo plan stands NobodyRuns (record { before = before; after = middle; old = one; new = two }) (Ok tt))
      → ((s : Scene) → IsStage plan stands middle s → NobodyRuns s → Went plan s [] h1 h2 (ComesTo plan stands Still (record { before = middle; after = after; old = two; new = three }) result))
      → Went plan scene [] h0 h2 (ComesTo plan stands Still (record { before = before; after = after; old = one; new = three }) result)
  comes_then stands Still scene h0 h1 h2 before middle after one two three result first then_ =
      went-then plan scene [] [] h0 h1 h2 (ComesTo plan stands NobodyRuns (record { before = before; after = middle; old = one; new = two }) (Ok tt)) _ first
      (λ s text f. went-map plan s [] h1 h2 _ _ (λ next more c. comes_behind stands Still before middle after one two three result next text more f.2 c) (then_ s f.1 f.0))

  -- a round that has come so far, and rests from there
  pub rests_then : {P : Type 0} (stands : P → Request → List Given → Type 0) (scene : Scene) (h0 h1 h2 : List Entry) (policy : P) (client : ℕ) (want : Want) (before middle after : Stage P) (one two three : Pieces) (result : Result (Unit {0}) Break)
      → Went plan scene [] h0 h1 (SoFar plan stands client middle policy want one two)
      → ((s : Scene) → IsStage plan stands middle s → HasTurn plan.wants stands policy client want s → Went plan s [] h1 h2 (ComesTo plan stands NobodyRuns (record { before = middle; after = after; old = two; new = three }) result))
      → Went plan scene [] h0 h2 (ComesTo plan stands NobodyRuns (record { before = before; after = after; old = one; new = three }) result)
  rests_then stands scene h0 h1 h2 policy client want before middle after one two three result so rest =
      went-then plan scene [] [] h0 h1 h2 (SoFar plan stands client middle policy want one two) _ so
      (λ s text f. went-map plan s [] h1 h2 _ _ (λ next more c. comes_behind stands NobodyRuns before middle after one two three result next text more f.takes c) (rest s f.is_stage f.has_turn))

module _ {P : Type 0} (wants : Request → List Given → Want → Type 0) (stands : P → Request → List Given → Type 0) where
  -- what a part comes to, from the beginning that the cache has
  pub comes_at : (Still : Scene → Type 0) (one two : Beginning) (stage : Stage P) (change : Change P) (h0 h1 : List Entry) (result : Result (Unit {0}) Break) → two ≡ one
      → ((scene : Scene) → IsStage (plan_of wants two) stands stage scene → NobodyRuns scene → Went (plan_of wants two) scene [] h0 h1 (ComesTo (plan_of wants two) stands Still change result))
      → (scene : Scene) → IsStage (plan_of wants one) stands stage scene → NobodyRuns scene → Went (plan_of wants one) scene [] h0 h1 (ComesTo (plan_of wants one) stands Still change result)
  comes_at Still one two stage change h0 h1 result same comes =
      subst (λ (b : Beginning). (scene : Scene) → IsStage (plan_of wants b) stands stage scene → NobodyRuns scene → Went (plan_of wants b) scene [] h0 h1 (ComesTo (plan_of wants b) stands Still change result)) same comes

  -- the same of a round that has its turn
  pub led_at : (Still : Scene → Type 0) (one two : Beginning) (stage : Stage P) (change : Change P) (h0 h1 : List Entry) (policy : P) (client : ℕ) (want : Want) (result : Result (Unit {0}) Break) → two ≡ one
      → ((scene : Scene) → IsStage (plan_of wants two) stands stage scene → HasTurn wants stands policy client want scene → Went (plan_of wants two) scene [] h0 h1 (ComesTo (plan_of wants two) stands Still change result))
      → (scene : Scene) → IsStage (plan_of wants one) stands stage scene → HasTurn wants stands policy client want scene → Went (plan_of wants one) scene [] h0 h1 (ComesTo (plan_of wants one) stands Still change result)
  led_at Still one two stage change h0 h1 policy client want result same led =
      subst (λ (b : Beginning). (scene : Scene) → IsStage (plan_of wants b) stands stage scene → HasTurn wants stands policy client want scene → Went (plan_of wants b) scene [] h0 h1 (ComesTo (plan_of wants b) stands Still change result)) same led

  -- a stage's scene in which nobody runs
  pub set_still : (beginning : Beginning) (stage : Stage P) → IsSet (plan_of wants beginning) stands stage → (scene : Scene) × IsStage (plan_of wants beginning) stands stage scene × NobodyRuns scene
  set_still beginning stage set = (record set.scene { running = None }, stage_like (plan_of wants beginning) stands stage set.scene (record set.scene { running = None }) set.is_stage refl refl refl refl, refl)

  -- what a part came to is a stage again
  pub set_on : (Still : Scene → Type 0) (one two : Beginning) (scene : Scene) (events_read : List Event) (change : Change P) (h0 h1 : List Entry) → two ≡ one → Went (plan_of wants one) scene events_read h0 h1 (ComesTo (plan_of wants one) stands Still change (Ok tt)) → IsSet (plan_of wants two) stands change.after
  set_on Still one two scene events_read change h0 h1 same went =
      record { scene = went.scene; is_stage = subst (λ (b : Beginning). IsStage (plan_of wants b) stands change.after went.scene) (sym same) went.fact.1 }

  -- where nobody's token is closed, the schedule is at rest
  pub rests_now : (beginning : Beginning) (stage : Stage P) (scene : Scene) → IsStage (plan_of wants beginning) stands stage scene → NobodyRuns scene → position (λ (k : Kept P). is_closed (reached beginning stage.history).fetches k.token) stage.parked ≡ None → AtRest scene
  rests_now beginning stage scene is still none =
      record { nobody_runs = still; nobody_is_free = nobody_free wants stands scene.state stage.parked scene.parked is.parked_are (subst (λ (s : State). position (λ (k : Kept P). is_closed s.fetches k.token) stage.parked ≡ None) (sym is.at.state_is) none) }

  -- the round that wakes, by the cache's history
  pub found_by_history : (beginning : Beginning) (stage : Stage P) (scene : Scene) (place : ℕ) (one : Kept P) → IsStage (plan_of wants beginning) stands stage scene → position (λ (k : Kept P). is_closed (reached beginning stage.history).fetches k.token) stage.parked ≡ Some place → one ≡ get_or stage.parked place one → FoundFree wants stands scene.state stage.parked scene.parked place one
  found_by_history beginning stage scene place one is at one_is =
      found_free wants stands scene.state stage.parked scene.parked place one is.parked_are (subst (λ (s : State). position (λ (k : Kept P). is_closed s.fetches k.token) stage.parked ≡ Some place) (sym is.at.state_is) at) one_is

  -- the round that begins
  pub begins_at : (policy : P) (want : Want) (scene : Scene) (request : Request) (moment : ℕ) → moment ≡ scene.moment → stands policy request (Start moment ∷ []) → wants request (Start moment ∷ []) want → HasTurn wants stands policy request.client want (with_running scene (begun scene.moment request))
  begins_at policy want scene request moment same at wanted =
      record {
        round = begun scene.moment request;
        turn = refl;
        leads = record {
          client_is = refl;
          stands_at = subst (λ (m : ℕ). stands policy request (Start m ∷ [])) same at;
          wanted = subst (λ (m : ℕ). wants request (Start m ∷ []) want) same wanted;
        };
      }

  -- the stage behind a reply that was heard
  pub reply_stage : (beginning : Beginning) (stage : Stage P) (scene : Scene) (number : ℕ) (exchange : What) (place : ℕ) (kept : Pending P) (it : FoundWaiting wants stands stage.waiting scene.waiting number place kept) (others : List (Pending P)) → others ≡ remove stage.waiting place → IsStage (plan_of wants beginning) stands stage scene → IsStage (plan_of wants beginning) stands (record stage { waiting = others }) (replied scene number exchange it.one)
  reply_stage beginning stage scene number exchange place kept it others is set =
      record {
        at = at_like beginning stage.history stage.moment scene (replied scene number exchange it.one) set.at refl refl;
        waiting_are = subst (λ (ps : List (Pending P)). AllAlike (IsPending wants stands) ps (without_first number scene.waiting)) (sym is) it.others;
        parked_are = set.parked_are;
      }

  -- the round that has its reply
  pub reply_turn : (scene : Scene) (number : ℕ) (exchange : What) (moment : ℕ) (pending : List (Pending P)) (place : ℕ) (kept : Pending P) (it : FoundWaiting wants stands pending scene.waiting number place kept) (after : P) (want : Want) → moment ≡ scene.moment
      → ((request : Request) (givens : List Given) → stands kept.policy request givens → stands after request (Came (record { moment = moment; exchange = exchange }) ∷ givens))
      → ((request : Request) (givens : List Given) → stands kept.policy request givens → wants request (Came (record { moment = moment; exchange = exchange }) ∷ givens) want)
      → HasTurn wants stands after kept.client want (replied scene number exchange it.one)
  reply_turn scene number exchange moment pending place kept it after want same stands_on wanted =
      record {
        round = gave it.one.round (Came (record { moment = scene.moment; exchange = exchange }));
        turn = refl;
        leads = subst (λ (m : ℕ). Leads wants stands after kept.client want (gave it.one.round (Came (record { moment = m; exchange = exchange })))) same
            (leads_on wants stands kept.policy after kept.client _ want it.one.round (Came (record { moment = moment; exchange = exchange })) it.is_same.leads stands_on wanted);
      }

  -- the stage behind a round that woke
  pub woken_stage : (beginning : Beginning) (stage : Stage P) (scene : Scene) (place : ℕ) (one : Kept P) (it : FoundFree wants stands scene.state stage.parked scene.parked place one) (others : List (Kept P)) → others ≡ remove stage.parked place → IsStage (plan_of wants beginning) stands stage scene → IsStage (plan_of wants beginning) stands (record stage { parked = others }) (woken scene it.one)
  woken_stage beginning stage scene place one it others is set =
      record {
        at = at_like beginning stage.history stage.moment scene (woken scene it.one) set.at refl refl;
        waiting_are = set.waiting_are;
        parked_are = subst (λ (ps : List (Kept P)). AllAlike (IsParked wants stands) ps (without_free scene.state scene.parked)) (sym is) it.others;
      }

  -- and the round
  pub woken_turn : (scene : Scene) (pending : List (Kept P)) (place : ℕ) (kept : Kept P) (it : FoundFree wants stands scene.state pending scene.parked place kept) (after : P) (want : Want)
      → ((request : Request) (givens : List Given) → stands kept.policy request givens → stands after request (Closed ∷ givens))
      → ((request : Request) (givens : List Given) → stands kept.policy request givens → wants request (Closed ∷ givens) want)
      → HasTurn wants stands after kept.client want (woken scene it.one)
  woken_turn scene pending place kept it after want stands_on wanted =
      record { round = gave it.one.round Closed; turn = refl; leads = leads_on wants stands kept.policy after kept.client _ want it.one.round Closed it.is_same.leads stands_on wanted }
