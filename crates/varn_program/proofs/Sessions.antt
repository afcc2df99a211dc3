-- A session that is led by what each program of a text does is led by what the text means.
use Rattle.std.proofs.Common.{inl, inr, ℕ, List, [], ◌∷◌, Option, Some, None, sym, ap}
use Rattle.vcl_tree.specs.declared.item.Tree.{Tree}
use Rattle.vcl_store.specs.Joined.{IsJoined}
use Rattle.vmod_host.specs.declared.signature.Stored.{Stored}
use Rattle.session_text.specs.declared.session.Session.{Session}
use Rattle.cache_law.specs.Beginning.{Beginning}
use Rattle.cache_law.specs.declared.call.Entry.{Entry}
use Rattle.cache_law.specs.declared.rounds.Given.{Given as Gift}
use Rattle.cache_law.specs.declared.rounds.Request.{Request as Message}
use Rattle.round_task.specs.declared.want.Want.{Want as RoundWant}
use Rattle.vcl_runs.specs.Evaluators.{IsLike}
use Rattle.round_task.specs.Responses.{text_in}
use Rattle.vcl_runs.specs.Languages.{Language}
use Rattle.round_task.proofs.Alike.{wants-like}
use Rattle.replay.specs.declared.event.Event.{Event}
use Rattle.replay.specs.declared.event.Script.{Script}
use Rattle.replay.specs.declared.policy.Request.{Request}
use Rattle.replay.specs.declared.policy.Message.{Message as Said}
use Rattle.replay.specs.declared.policy.Message.TheVariants.{Whole, Unreadable, Line}
use Rattle.replay.specs.declared.policy.Given.{Given}
use Rattle.replay.specs.declared.policy.Given.TheVariants.{Start, Told, Came, Sent, Closed}
use Rattle.replay.specs.declared.policy.Want.{Want}
use Rattle.replay.specs.declared.policy.Want.TheVariants.{Ask, Exchange, Respond, Await, Done}
use Rattle.replay.specs.declared.session.ReplayError.{ReplayError}
use Rattle.replay.specs.declared.session.ReplayError.TheVariants.{Idle, Unanswered, WriteFault, HistoryFull, NoMemory}
use Rattle.replay.specs.Endings.{WantsTooMuch}
use Rattle.replay.specs.Plan.{plan_of}
use Rattle.replay.specs.Replayed.{CameTo, CutOff, EndsSo, PlayedTo, SessionEnds}
use Rattle.replay.specs.Rounds.{address, gifts, WantedBy, Wanted}
use Rattle.replay.specs.Scene.{Round, Scene, Move, hears, calls, fetches, sends, parks, wakes, ends, Runs, Next, Path, Run}
use Rattle.replay.specs.Turns.{MessageWants, Wants}
use Rattle.replay.specs.Went.{Went}
use Rattle.vcl_library.specs.Functions.{std_functions}
use Rattle.vcl_library.specs.OneMeaning.{like-same}
use Rattle.vcl_library.specs.Meaning.{by_trees, meant, vcl}

-- ---- what a client wants

-- each program of a text does what the text means
abbrev pub IsVcl : {P : Type 0} → Language P → Type 0
IsVcl {P} language = (text : List ℕ) (p : P) → language.programs text p → (tree : Tree) × ∥ IsJoined text tree ∥₁ × IsLike (language.evaluator p) (vcl.evaluator tree)

module _ {P : Type 0} (language : Language P) (link : IsVcl language) where
  by-text : (message : Message) (peer : List ℕ) (given : List Gift) (text : Option (List ℕ)) (want : RoundWant)
      → WantedBy language message peer given text want → WantedBy vcl message peer given text want
  by-text message peer given None want w = w
  by-text message peer given (Some text) want w =
      let l = link text w.0 w.1 in
      (l.0, l.1, wants-like (language.evaluator w.0) (vcl.evaluator l.0) l.2 None message peer given want w.2)

  by-round : (message : Message) (peer : List ℕ) (givens : List Given) (want : Want) → Wanted language message peer givens want → Wanted vcl message peer givens want
  by-round message peer [] want w = w
  by-round message peer (Start moment ∷ before) want w = w
  by-round message peer (Told moment reply ∷ before) want w = (w.0, by-text message peer (gifts (Told moment reply ∷ before)) (text_in (gifts (Told moment reply ∷ before))) w.0 w.1, w.2)
  by-round message peer (Came got ∷ before) want w = (w.0, by-text message peer (gifts (Came got ∷ before)) (text_in (gifts (Came got ∷ before))) w.0 w.1, w.2)
  by-round message peer (Sent ∷ before) want w = (w.0, by-text message peer (gifts (Sent ∷ before)) (text_in (gifts (Sent ∷ before))) w.0 w.1, w.2)
  by-round message peer (Closed ∷ before) want w = (w.0, by-text message peer (gifts (Closed ∷ before)) (text_in (gifts (Closed ∷ before))) w.0 w.1, w.2)

  by-message : (client : ℕ) (message : Said) (givens : List Given) (want : Want) → MessageWants language client message givens want → MessageWants vcl client message givens want
  by-message client (Whole head body) givens want w = by-round (record { head = head; body = body }) (address client) givens want w
  by-message client Unreadable givens want w = w
  by-message client (Line instruction) givens want w = w

  pub wants-vcl : (request : Request) (givens : List Given) (want : Want) → Wants language request givens want → Wants vcl request givens want
  wants-vcl request givens want w = by-message request.client request.message givens want w

-- ---- what a session comes to

module _ (one other : Request → List Given → Want → Type 0) (link : (request : Request) (givens : List Given) (want : Want) → one request givens want → other request givens want) (beginning : Beginning) where
  runs-as : (scene : Scene) (round : Round) (want : Want) → Runs one scene round want → Runs other scene round want
  runs-as scene round want r = record { turn = r.turn; wanted = link round.request round.givens want r.wanted }

  next-as : (old new : Scene) (move : Move) → Next (plan_of one beginning) old move new → Next (plan_of other beginning) old move new
  next-as old new (hears event) h = h
  next-as old new (calls entry) h = (h.0, runs-as old h.0 (Ask entry.call) h.1, h.2, h.3, h.4)
  next-as old new (fetches number backend request) h = (h.0, runs-as old h.0 (Exchange number backend request) h.1, h.2)
  next-as old new (sends client response) h = (h.0, runs-as old h.0 (Respond response) h.1, h.2, h.3)
  next-as old new (parks token) h = (h.0, runs-as old h.0 (Await token) h.1, h.2)
  next-as old new wakes h = h
  next-as old new ends h = (h.0, runs-as old h.0 Done h.1, h.2)

  path-as : (old new : Scene) (moves : List Move) → Path (plan_of one beginning) old moves new → Path (plan_of other beginning) old moves new
  path-as old new [] h = h
  path-as old new (move ∷ moves) h = (h.0, next-as old h.0 move h.1, path-as h.0 new moves h.2)

  run-as : (old new : Scene) (events : List Event) (entries : List Entry) (text : List ℕ) → Run (plan_of one beginning) old new events entries text → Run (plan_of other beginning) old new events entries text
  run-as old new events entries text r = record { moves = r.moves; path = path-as old new r.moves r.path; reads = r.reads; enters = r.enters; writes = r.writes }

  went-as : (old : Scene) (events : List Event) (before now : List Entry) (holds still : Scene → List ℕ → Type 0) → ((scene : Scene) (text : List ℕ) → holds scene text → still scene text)
      → Went (plan_of one beginning) old events before now holds → Went (plan_of other beginning) old events before now still
  went-as old events before now holds still so w =
      record { scene = w.scene; entries = w.entries; text = w.text; run = run-as old w.scene events w.entries w.text w.run; history = w.history; fact = so w.scene w.text w.fact }

  came-as : (events : List Event) (history : List Entry) (holds still : Scene → List ℕ → Type 0) → ((scene : Scene) (text : List ℕ) → holds scene text → still scene text)
      → CameTo (plan_of one beginning) events history holds → CameTo (plan_of other beginning) events history still
  came-as events history holds still so c = record { went = went-as _ events [] history holds still so c.went; legal = c.legal }

  cut-as : (events : List Event) (history : List Entry) (holds still : Scene → List ℕ → Type 0) → ((scene : Scene) (text : List ℕ) → holds scene text → still scene text)
      → CutOff (plan_of one beginning) events history holds → CutOff (plan_of other beginning) events history still
  cut-as events history holds still so c = (c.0, c.1, c.2, came-as c.0 history holds still so c.3)

  too-much-as : (history : List Entry) (scene : Scene) → WantsTooMuch (plan_of one beginning) history scene → WantsTooMuch (plan_of other beginning) history scene
  too-much-as history scene t = record { round = t.round; call = t.call; runs = runs-as scene t.round (Ask t.call) t.runs; full = t.full }

  ends-as : (script : Script) (history : List Entry) (before now : Option (List ℕ)) (ending : Option ReplayError) → EndsSo (plan_of one beginning) script history before now ending → EndsSo (plan_of other beginning) script history before now ending
  ends-as script history before now None e = came-as _ history _ _ (λ scene text h. h) e
  ends-as script history before now (Some (Idle line)) e = (e.0, e.1, e.2, e.3, e.4, came-as _ history _ _ (λ scene text h. h) e.5)
  ends-as script history before now (Some (Unanswered line)) e = (e.0, came-as _ history _ _ (λ scene text h. h) e.1)
  ends-as script history before now (Some WriteFault) e = cut-as _ history _ _ (λ scene text h. h) e
  ends-as script history before now (Some HistoryFull) e = cut-as _ history _ _ (λ scene text h. (too-much-as history scene h.0, h.1)) e
  ends-as script history before now (Some NoMemory) e = cut-as _ history _ _ (λ scene text h. h) e

  played-as : (stored : List Stored) (session : Session) (history : List Entry) (before now : Option (List ℕ)) (ending : Option ReplayError)
      → PlayedTo stored (plan_of one beginning) session history before now ending → PlayedTo stored (plan_of other beginning) session history before now ending
  played-as stored session history before now ending p = (p.0, p.1, ends-as p.0 history before now ending p.2)

  pub session-as : (stored : List Stored) (session : Session) (history : List Entry) (before now : Option (List ℕ)) (ending : Option ReplayError)
      → SessionEnds stored (plan_of one beginning) session history before now ending → SessionEnds stored (plan_of other beginning) session history before now ending
  session-as stored session history before now (Some NoMemory) (inl e) = inl e
  session-as stored session history before now (Some NoMemory) (inr e) = inr (played-as stored session history before now (Some NoMemory) e)
  session-as stored session history before now None e = played-as stored session history before now None e
  session-as stored session history before now (Some (Idle line)) e = played-as stored session history before now (Some (Idle line)) e
  session-as stored session history before now (Some (Unanswered line)) e = played-as stored session history before now (Some (Unanswered line)) e
  session-as stored session history before now (Some WriteFault) e = played-as stored session history before now (Some WriteFault) e
  session-as stored session history before now (Some HistoryFull) e = played-as stored session history before now (Some HistoryFull) e

-- ---- the programs of a library

trees-vcl : {P : Type 0} (tree_of : P → Tree) (stored_of : P → List Stored) → IsVcl (by_trees tree_of stored_of)
trees-vcl tree_of stored_of text p is =
    (tree_of p, is.joined, like-same (meant (tree_of p).items (stored_of p)) (meant (tree_of p).items std_functions) (ap (λ (s : List Stored). meant (tree_of p).items s) (sym is.functions)))

pub session-vcl : {P : Type 0} (tree_of : P → Tree) (stored_of : P → List Stored) (beginning : Beginning) (stored : List Stored) (session : Session) (history : List Entry) (before now : Option (List ℕ)) (ending : Option ReplayError)
    → SessionEnds stored (plan_of (Wants (by_trees tree_of stored_of)) beginning) session history before now ending → SessionEnds stored (plan_of (Wants vcl) beginning) session history before now ending
session-vcl tree_of stored_of beginning stored session history before now ending e =
    session-as (Wants (by_trees tree_of stored_of)) (Wants vcl) (wants-vcl (by_trees tree_of stored_of) (trees-vcl tree_of stored_of)) beginning stored session history before now ending e
