-- Where a session stands, and the moves that lead on from there.
use Rattle.std.specs.Prelude.{◌≡◌, ℕ, Bool, false, Option, Some, None, List, [], ◌∷◌, ◌++◌, ◌==◌, ◌||◌, max, find, codes, remove, if◌then◌else◌}
use Rattle.std.specs.List.{list_any, position_or_len, flat_map}
use Rattle.std.specs.Fmt.{decimal}
use Rattle.units.specs.Quoted.{quote_of}
use Rattle.http_heads.specs.declared.exchange.BackendRequest.{BackendRequest}
use Rattle.http_heads.specs.declared.exchange.Exchange.{Exchange as What}
use Rattle.http_heads.specs.declared.exchange.Exchange.TheVariants as exchanges
use Rattle.backend_link.specs.Exchanges.{asks_head, sent_text}
use Rattle.backend_link.specs.WholeReplies.{IsReplyTo}
use Rattle.cache_law.specs.declared.call.Entry.{Entry}
use Rattle.cache_law.specs.State.{State, is_closed}
use Rattle.cache_law.specs.History.{next_state}
use Rattle.replay.specs.declared.policy.Request.{Request}
use Rattle.replay.specs.declared.policy.Given.{Given}
use Rattle.replay.specs.declared.policy.Given.TheVariants.{Start, Told, Came, Sent, Closed}
use Rattle.replay.specs.declared.policy.Want.{Want}
use Rattle.replay.specs.declared.policy.Want.TheVariants.{Ask, Exchange, Respond, Await, Done}
use Rattle.replay.specs.declared.event.Event.{Event}
use Rattle.replay.specs.declared.event.Event.TheVariants as events
use Rattle.replay.specs.declared.event.Aside.TheVariants as asides
use Rattle.replay.specs.declared.event.Heard.{Heard}
use Rattle.replay.specs.declared.event.Heard.TheVariants.{Bytes, Fault}
use Rattle.replay.specs.Plan.{Plan}

-- a request under way, and what its round was given, newest first
pub record Round : Type 0 where
  pub request : Request
  pub givens : List Given

-- a round that waits for the reply to the fetch of this number, whose request was HEAD or not
pub record Waiting : Type 0 where
  pub number : ℕ
  pub to_head : Bool
  pub round : Round

-- a round that waits until the fetch of this number is closed
pub record Parked : Type 0 where
  pub token : ℕ
  pub round : Round

pub record Scene : Type 0 where
  pub moment : ℕ
  -- the cache's state as the entries so far leave it
  pub state : State
  -- the round whose turn it is
  pub running : Option Round
  -- the rounds that wait for a reply, in the order in which their exchanges began
  pub waiting : List Waiting
  -- the rounds that wait for a token, in the order in which they were told to
  pub parked : List Parked

-- before the first line
abbrev pub opening_scene : Plan → Scene
opening_scene plan = record { moment = 0; state = plan.beginning.base; running = None; waiting = []; parked = [] }

abbrev pub begun : ℕ → Request → Round
begun moment request = record { request = request; givens = Start moment ∷ [] }

-- the round with one given more
abbrev pub gave : Round → Given → Round
gave round given = record { request = round.request; givens = given ∷ round.givens }

-- the client has a round under way
abbrev pub is_under_way : ℕ → Scene → Bool
is_under_way client scene =
    list_any (λ (one : Waiting). one.round.request.client == client) scene.waiting
    || list_any (λ (one : Parked). one.round.request.client == client) scene.parked

abbrev pub waits_for : ℕ → Waiting → Bool
waits_for number one = one.number == number

-- the rounds without the first that waits for this number
abbrev pub without_first : ℕ → List Waiting → List Waiting
without_first number waiting = remove waiting (position_or_len (waits_for number) waiting)

-- its token is closed
abbrev pub is_free : State → Parked → Bool
is_free state one = is_closed state.fetches one.token

-- the rounds without the first whose token is closed
abbrev pub without_free : State → List Parked → List Parked
without_free state parked = remove parked (position_or_len (is_free state) parked)

-- nobody runs, and nobody waits for a token that is closed
pub record AtRest (scene : Scene) : Type 0 where
  pub nobody_runs : scene.running ≡ None
  pub nobody_is_free : find (is_free scene.state) scene.parked ≡ None

-- One move of the schedule: a line is heard; the round whose turn it is makes a call, begins an exchange, sends its
-- response, is parked until a fetch is closed, or ends; or a parked round wakes.
pub data Move : Type 0 where
  hears : Event → Move
  calls : Entry → Move
  fetches : ℕ → List ℕ → BackendRequest → Move
  sends : ℕ → List ℕ → Move
  parks : ℕ → Move
  wakes : Move
  ends : Move

-- what is read, entered and written by a move
abbrev pub events_of : Move → List Event
events_of (hears event) = event ∷ []
events_of (calls entry) = []
events_of (fetches number backend request) = []
events_of (sends client response) = []
events_of (parks token) = []
events_of wakes = []
events_of ends = []

abbrev pub entries_of : Move → List Entry
entries_of (hears event) = []
entries_of (calls entry) = entry ∷ []
entries_of (fetches number backend request) = []
entries_of (sends client response) = []
entries_of (parks token) = []
entries_of wakes = []
entries_of ends = []

-- `fetch`, the number, the backend's name and the request quoted
unfoldable pub fetch_line : ℕ → List ℕ → List ℕ → List ℕ
fetch_line number backend request = codes "fetch " ++ decimal number ++ codes " " ++ backend ++ codes " " ++ quote_of request ++ 10 ∷ []

-- what stands before a response: `resp` and the client, or `cli` for the console, which is client 0
abbrev pub sent_to : ℕ → List ℕ
sent_to client = if client == 0 then codes "cli" else codes "resp " ++ decimal client

-- and the response quoted
unfoldable pub response_line : ℕ → List ℕ → List ℕ
response_line client response = sent_to client ++ codes " " ++ quote_of response ++ 10 ∷ []

abbrev pub text_of : Move → List ℕ
text_of (hears event) = []
text_of (calls entry) = []
text_of (fetches number backend request) = fetch_line number backend (sent_text request)
text_of (sends client response) = response_line client response
text_of (parks token) = []
text_of wakes = []
text_of ends = []

-- Whoever runs wants this: `wants` says what a round wants after its givens, newest first.
pub record Runs (wants : Request → List Given → Want → Type 0) (scene : Scene) (round : Round) (want : Want) : Type 0 where
  pub turn : scene.running ≡ Some round
  pub wanted : wants round.request round.givens want

-- the scene with this round's turn
abbrev pub with_running : Scene → Round → Scene
with_running scene round = record scene { running = Some round }

-- What an exchange comes to that is heard so: its bytes and their end are read by whether the request was HEAD; a fault is
-- that the backend can't be reached.
abbrev pub IsHeardAs : Bool → Heard → What → Type 0
IsHeardAs to_head (Bytes bytes) exchange = IsReplyTo to_head bytes exchange
IsHeardAs to_head Fault exchange = exchange ≡ exchanges.Fault 1

-- A line is heard when the schedule is at rest. A moment never goes back. A request begins a round of a client that has
-- none under way; a reply is read as it is heard, and goes to the first round that waits
-- for it. The lurker leaves all as it is. No backend is probed, so that no probe is heard.
abbrev pub Hears : Scene → Event → Scene → Type 0
Hears old (events.Moment moment) new =
    AtRest old × (new ≡ record old { moment = max old.moment moment })
Hears old (events.Request request) new =
    AtRest old × (is_under_way request.client old ≡ false) × (new ≡ with_running old (begun old.moment request))
Hears old (events.Reply number heard) new =
    (one : Waiting) × AtRest old × (find (waits_for number) old.waiting ≡ Some one)
    × (exchange : What) × IsHeardAs one.to_head heard exchange
    × (new ≡ record old {
      running = Some (gave one.round (Came (record { moment = old.moment; exchange = exchange })));
      waiting = without_first number old.waiting;
    })
Hears old (events.Aside (asides.Lurk count)) new = AtRest old × (new ≡ old)
Hears old (events.Aside (asides.Probe backend good)) new = ⊥

-- Each entry leads to the cache's next state. A round is parked behind those that are parked already,
-- and the first whose token is closed wakes when nobody runs.
abbrev pub Next : Plan → Scene → Move → Scene → Type 0
Next plan old (hears event) new = Hears old event new
Next plan old (calls entry) new =
    (round : Round) × Runs plan.wants old round (Ask entry.call)
    × (entry.caller ≡ round.request.client) × (entry.moment ≡ old.moment)
    × (new ≡ record old { state = next_state plan.beginning.params old.state entry; running = Some (gave round (Told entry.moment entry.reply)) })
Next plan old (fetches number backend request) new =
    (round : Round) × Runs plan.wants old round (Exchange number backend request)
    × (new ≡ record old { running = None; waiting = old.waiting ++ record { number = number; to_head = asks_head request; round = round } ∷ [] })
Next plan old (sends client response) new =
    (round : Round) × Runs plan.wants old round (Respond response) × (client ≡ round.request.client)
    × (new ≡ with_running old (gave round Sent))
Next plan old (parks token) new =
    (round : Round) × Runs plan.wants old round (Await token)
    × (new ≡ record old { running = None; parked = old.parked ++ record { token = token; round = round } ∷ [] })
Next plan old wakes new =
    (one : Parked) × (old.running ≡ None) × (find (is_free old.state) old.parked ≡ Some one)
    × (new ≡ record old { running = Some (gave one.round Closed); parked = without_free old.state old.parked })
Next plan old ends new =
    (round : Round) × Runs plan.wants old round Done × (new ≡ record old { running = None })

-- moves, one after another
abbrev pub Path : Plan → Scene → List Move → Scene → Type 0
Path plan old [] new = old ≡ new
Path plan old (move ∷ moves) new = (between : Scene) × Next plan old move between × Path plan between moves new

-- Moves lead from one scene to another; together they read these events, enter these entries and write this text.
pub record Run (plan : Plan) (old new : Scene) (events_read : List Event) (entries : List Entry) (text : List ℕ) : Type 0 where
  pub moves : List Move
  pub path : Path plan old moves new
  pub reads : flat_map events_of moves ≡ events_read
  pub enters : flat_map entries_of moves ≡ entries
  pub writes : flat_map text_of moves ≡ text
