-- The console waits for nothing: no line of it is idle.
use Rattle.std.proofs.Common.{◌≡◌, ℕ, zero, suc, Bool, true, false, cond, ◌==◌, ◌||◌, List, [], ◌∷◌, ◌++◌, Option, Some, None, refl, sym, ◌∙◌, ap, subst, arith}
use Rattle.std.proofs.lemmas.Bool.{true≢false, ne_eqb}
use Rattle.std.specs.Prelude.{find, remove, if◌then◌else◌}
use Rattle.std.specs.List.{AllByRecursion, flat_map, list_any, position_or_len}
use Rattle.session_text.specs.declared.session.Line.{Line as TextLine}
use Rattle.session_text.specs.declared.session.Line.TheVariants as lines
use Rattle.session_text.specs.declared.session.NumberedLine.{NumberedLine}
use Rattle.vmod_host.specs.declared.signature.Stored.{Stored}
use Rattle.cache_law.specs.declared.call.Call.{Call}
use Rattle.cache_law.specs.declared.call.Reply.{Reply}
use Rattle.cache_law.specs.Beginning.{Beginning}
use Rattle.cli_console.specs.declared.message.Message.{Message as Said}
use Rattle.cli_console.specs.Answers.{is_console, message_to, name_in}
use Rattle.replay.specs.declared.console.Instruction.{Instruction}
use Rattle.replay.specs.declared.console.Instruction.TheVariants as instruction
use Rattle.replay.specs.declared.event.Event.{Event}
use Rattle.replay.specs.declared.event.Event.TheVariants as events
use Rattle.replay.specs.declared.event.Aside.TheVariants as asides
use Rattle.replay.specs.declared.event.NumberedEvent.{NumberedEvent}
use Rattle.replay.specs.declared.policy.Given.{Given}
use Rattle.replay.specs.declared.policy.Given.TheVariants.{Start, Told, Came, Sent, Closed}
use Rattle.replay.specs.declared.policy.Message.{Message}
use Rattle.replay.specs.declared.policy.Message.TheVariants.{Whole, Unreadable, Line}
use Rattle.replay.specs.declared.policy.Request.{Request}
use Rattle.replay.specs.declared.policy.Want.{Want}
use Rattle.replay.specs.declared.policy.Want.TheVariants.{Ask, Exchange, Await, Done}
use Rattle.backend_link.specs.Exchanges.{asks_head}
use Rattle.replay.specs.Build.{IsBuiltAs, IsLine, StandsFor}
use Rattle.replay.specs.Console.{console_want, reply_want, said_want, start_want}
use Rattle.replay.specs.Endings.{IsIdle}
use Rattle.replay.specs.Laws.{ConsoleIsHeard}
use Rattle.replay.specs.Plan.{Plan, plan_of}
use Rattle.replay.specs.Scene.{Round, Waiting, Parked, Scene, Move, hears, calls, fetches, sends, parks, wakes, ends, events_of, Next, Path, begun, gave, is_free, is_under_way, opening_scene, waits_for}
use Rattle.replay.specs.Turns.{Wants, MessageWants}
use Rattle.replay.specs.Went.{events_in}
use Rattle.vcl_runs.specs.Languages.{Language}

-- What the console wants.

-- the round is to be kept until something comes
abbrev is_waiting : Want → Bool
is_waiting (Exchange number backend request) = true
is_waiting (Await token) = true
is_waiting want = false

asks_or_ends : (made : Bool) (c : Call) → is_waiting (if made then Ask c else Done) ≡ false
asks_or_ends true c = refl
asks_or_ends false c = refl

says_or_ends : (said : Option Said) → is_waiting (said_want said) ≡ false
says_or_ends (Some m) = refl
says_or_ends None = refl

start_waits_not : (line : Instruction) (moment : ℕ) → is_waiting (start_want line moment) ≡ false
start_waits_not (instruction.Answer text) moment = refl
start_waits_not instruction.Ping moment = refl
start_waits_not (instruction.Call c) moment = asks_or_ends (is_console c) c

reply_waits_not : (line : Instruction) (reply : Reply) → is_waiting (reply_want line reply) ≡ false
reply_waits_not (instruction.Answer text) reply = refl
reply_waits_not instruction.Ping reply = refl
reply_waits_not (instruction.Call c) reply = says_or_ends (message_to (name_in c) reply)

console_waits_not : (line : Instruction) (given : Given) → is_waiting (console_want line given) ≡ false
console_waits_not line (Start moment) = start_waits_not line moment
console_waits_not line (Told moment reply) = reply_waits_not line reply
console_waits_not line (Came got) = refl
console_waits_not line Sent = refl
console_waits_not line Closed = refl

-- Who waits in a session.

-- the message is a line of the console
abbrev IsFromConsole : Message → Type 0
IsFromConsole (Line line) = Unit {0}
IsFromConsole (Whole head body) = ⊥
IsFromConsole Unreadable = ⊥

-- client 0 sends lines of the console alone
abbrev IsProper : Request → Type 0
IsProper request = request.client ≡ 0 → IsFromConsole request.message

abbrev IsProperEvent : Event → Type 0
IsProperEvent (events.Moment moment) = Unit {0}
IsProperEvent (events.Request request) = IsProper request
IsProperEvent (events.Reply number heard) = Unit {0}
IsProperEvent (events.Aside aside) = Unit {0}

-- the round isn't the console's
abbrev IsOthers : Round → Type 0
IsOthers round = round.request.client ≡ 0 → ⊥

-- the console may have the turn, and waits for nothing
record IsCalm (scene : Scene) : Type 0 where
  runs : (round : Round) → scene.running ≡ Some round → IsProper round.request
  waits : AllByRecursion (λ (one : Waiting). IsOthers one.round) scene.waiting
  parks : AllByRecursion (λ (one : Parked). IsOthers one.round) scene.parked

module _ {P : Type 0} (language : Language P) where
  message_waits_not : (client : ℕ) (message : Message) (givens : List Given) (want : Want) → IsFromConsole message → MessageWants language client message givens want → is_waiting want ≡ false
  message_waits_not client (Line line) [] want from wants = absurd wants
  message_waits_not client (Line line) (given ∷ before) want from wants = ap is_waiting wants ∙ console_waits_not line given
  message_waits_not client (Whole head body) givens want from wants = absurd from
  message_waits_not client Unreadable givens want from wants = absurd from

  who_waits : (round : Round) (want : Want) → IsProper round.request → Wants language round.request round.givens want → is_waiting want ≡ true → IsOthers round
  who_waits round want proper wants waits = λ is. true≢false (sym waits ∙ message_waits_not round.request.client round.request.message round.givens want (proper is) wants)

module _ {X : Type 0} (P : X → Type 0) where
  all_push : (xs : List X) (x : X) → AllByRecursion P xs → P x → AllByRecursion P (xs ++ x ∷ [])
  all_push [] x all is = (is, tt)
  all_push (y ∷ ys) x all is = (all.0, all_push ys x all.1 is)

  all_remove : (place : ℕ) (xs : List X) → AllByRecursion P xs → AllByRecursion P (remove xs place)
  all_remove zero [] all = tt
  all_remove (suc i) [] all = tt
  all_remove zero (x ∷ xs) all = all.1
  all_remove (suc i) (x ∷ xs) all = (all.0, all_remove i xs all.1)

  all_front : (xs ys : List X) → AllByRecursion P (xs ++ ys) → AllByRecursion P xs
  all_front [] ys all = tt
  all_front (x ∷ xs) ys all = (all.0, all_front xs ys all.1)

  all_back : (xs ys : List X) → AllByRecursion P (xs ++ ys) → AllByRecursion P ys
  all_back [] ys all = all
  all_back (x ∷ xs) ys all = all_back xs ys all.1

  first_found : (b : Bool) (x y : X) (rest : Option X) → P x → (rest ≡ Some y → P y) → cond b (Some x) rest ≡ Some y → P y
  first_found true x y rest is later found = let same : x ≡ y = cc in subst P same is
  first_found false x y rest is later found = later found

  all_found : (test : X → Bool) (xs : List X) (x : X) → AllByRecursion P xs → find test xs ≡ Some x → P x
  all_found test [] x all found = absurd (cc)
  all_found test (y ∷ ys) x all found = first_found (test y) y x (find test ys) all.0 (λ later. all_found test ys x all.1 later) found

module _ {X : Type 0} (client : X → ℕ) where
  none_any : (xs : List X) → AllByRecursion (λ (x : X). client x ≡ 0 → ⊥) xs → list_any (λ (x : X). client x == 0) xs ≡ false
  none_any [] all = refl
  none_any (x ∷ xs) all = ap (λ (b : Bool). b || list_any (λ (y : X). client y == 0) xs) (ne_eqb (client x) 0 all.0) ∙ none_any xs all.1

calm_free : (scene : Scene) → IsCalm scene → is_under_way 0 scene ≡ false
calm_free scene calm =
    ap (λ (b : Bool). b || list_any (λ (one : Parked). one.round.request.client == 0) scene.parked) (none_any (λ (one : Waiting). one.round.request.client) scene.waiting calm.waits)
    ∙ none_any (λ (one : Parked). one.round.request.client) scene.parked calm.parks

-- the turn of a round, and nobody's
turn_of : (round : Round) → IsProper round.request → (other : Round) → Some round ≡ Some other → IsProper other.request
turn_of round proper other is = let same : round ≡ other = cc in subst (λ (r : Round). IsProper r.request) same proper

turn_none : (other : Round) → None ≡ Some other → IsProper other.request
turn_none other is = absurd (cc)

calm_on : {P : Type 0} (language : Language P) (beginning : Beginning) (old new : Scene) (move : Move) → AllByRecursion IsProperEvent (events_of move) → IsCalm old → Next (plan_of (Wants language) beginning) old move new → IsCalm new
calm_on language beginning old new (hears (events.Moment moment)) proper calm next =
    subst IsCalm (sym next.1) (record { runs = calm.runs; waits = calm.waits; parks = calm.parks })
calm_on language beginning old new (hears (events.Request request)) proper calm next =
    subst IsCalm (sym next.2) (record { runs = turn_of (begun old.moment request) proper.0; waits = calm.waits; parks = calm.parks })
calm_on language beginning old new (hears (events.Reply number heard)) proper calm next =
    let others : IsOthers next.0.round = all_found (λ (one : Waiting). IsOthers one.round) (waits_for number) old.waiting next.0 calm.waits next.2 in
    subst IsCalm (sym next.5) (record {
      runs = turn_of (gave next.0.round (Came (record { moment = old.moment; exchange = next.3 }))) (λ is. absurd (others is));
      waits = all_remove (λ (one : Waiting). IsOthers one.round) (position_or_len (waits_for number) old.waiting) old.waiting calm.waits;
      parks = calm.parks;
    })
calm_on language beginning old new (hears (events.Aside (asides.Lurk count))) proper calm next = subst IsCalm (sym next.1) calm
calm_on language beginning old new (hears (events.Aside (asides.Probe backend good))) proper calm next = absurd next
calm_on language beginning old new (calls entry) proper calm next =
    subst IsCalm (sym next.4) (record { runs = turn_of (gave next.0 (Told entry.moment entry.reply)) (calm.runs next.0 next.1.turn); waits = calm.waits; parks = calm.parks })
calm_on language beginning old new (fetches number backend request) proper calm next =
    let others : IsOthers next.0 = who_waits language next.0 (Exchange number backend request) (calm.runs next.0 next.1.turn) next.1.wanted refl in
    let one : Waiting = record { number = number; to_head = asks_head request; round = next.0 } in
    subst IsCalm (sym next.2) (record { runs = turn_none; waits = all_push (λ (w : Waiting). IsOthers w.round) old.waiting one calm.waits others; parks = calm.parks })
calm_on language beginning old new (sends client response) proper calm next =
    subst IsCalm (sym next.3) (record { runs = turn_of (gave next.0 Sent) (calm.runs next.0 next.1.turn); waits = calm.waits; parks = calm.parks })
calm_on language beginning old new (parks token) proper calm next =
    let others : IsOthers next.0 = who_waits language next.0 (Await token) (calm.runs next.0 next.1.turn) next.1.wanted refl in
    let one : Parked = record { token = token; round = next.0 } in
    subst IsCalm (sym next.2) (record { runs = turn_none; waits = calm.waits; parks = all_push (λ (p : Parked). IsOthers p.round) old.parked one calm.parks others })
calm_on language beginning old new wakes proper calm next =
    let others : IsOthers next.0.round = all_found (λ (one : Parked). IsOthers one.round) (is_free old.state) old.parked next.0 calm.parks next.2 in
    subst IsCalm (sym next.3) (record {
      runs = turn_of (gave next.0.round Closed) (λ is. absurd (others is));
      waits = calm.waits;
      parks = all_remove (λ (one : Parked). IsOthers one.round) (position_or_len (is_free old.state) old.parked) old.parked calm.parks;
    })
calm_on language beginning old new ends proper calm next =
    subst IsCalm (sym next.2) (record { runs = turn_none; waits = calm.waits; parks = calm.parks })

calm_path : {P : Type 0} (language : Language P) (beginning : Beginning) (old new : Scene) (moves : List Move) → AllByRecursion IsProperEvent (flat_map events_of moves) → IsCalm old → Path (plan_of (Wants language) beginning) old moves new → IsCalm new
calm_path language beginning old new [] proper calm path = subst IsCalm path calm
calm_path language beginning old new (move ∷ moves) proper calm path =
    calm_path language beginning path.0 new moves (all_back IsProperEvent (events_of move) (flat_map events_of moves) proper)
    (calm_on language beginning old path.0 move (all_front IsProperEvent (events_of move) (flat_map events_of moves) proper) calm path.1) path.2

calm_first : (plan : Plan) → IsCalm (opening_scene plan)
calm_first plan = record { runs = turn_none; waits = tt; parks = tt }

-- What the lines of a session stand for.

from_line : (stored : List Stored) (text : List ℕ) (message : Message) → IsLine stored text message → IsFromConsole message
from_line stored text (Line line) is = tt
from_line stored text (Whole head body) is = absurd is
from_line stored text Unreadable is = absurd is

proper_line : (stored : List Stored) (line : TextLine) (event : Event) → StandsFor stored line event → IsProperEvent event
proper_line stored line (events.Moment moment) stands = tt
proper_line stored line (events.Reply number heard) stands = tt
proper_line stored line (events.Aside aside) stands = tt
proper_line stored (lines.Req client text) (events.Request request) stands = λ is. absurd (omega (arith, is, stands.0, stands.2))
proper_line stored (lines.Cli text) (events.Request request) stands = λ is. from_line stored text request.message stands.1
proper_line stored (lines.At moment) (events.Request request) stands = absurd stands
proper_line stored (lines.Reply fetch text) (events.Request request) stands = absurd stands
proper_line stored (lines.Fail fetch) (events.Request request) stands = absurd stands
proper_line stored (lines.Lurk count) (events.Request request) stands = absurd stands
proper_line stored (lines.Probe backend good) (events.Request request) stands = absurd stands

-- the events before an idle one are proper, and it stands for a line of its number
record IsReached (stored : List Stored) (told : List NumberedLine) (played : List NumberedEvent) (idle : NumberedEvent) : Type 0 where
  front : List NumberedLine
  one : NumberedLine
  back : List NumberedLine
  split : told ≡ front ++ one ∷ back
  number : idle.number ≡ one.number
  stands : StandsFor stored one.line idle.event
  proper : AllByRecursion IsProperEvent (events_in played)

reached_line : (stored : List Stored) (told : List NumberedLine) (played : List NumberedEvent) (idle : NumberedEvent) (rest : List NumberedEvent) → IsBuiltAs stored told (played ++ idle ∷ rest) → IsReached stored told played idle
reached_line stored [] [] idle rest built = absurd built
reached_line stored [] (event ∷ more) idle rest built = absurd built
reached_line stored (line ∷ others) [] idle rest built =
    record { front = []; one = line; back = others; split = refl; number = built.0; stands = built.1; proper = tt }
reached_line stored (line ∷ others) (event ∷ more) idle rest built =
    let later = reached_line stored others more idle rest built.2 in
    record {
      front = line ∷ later.front;
      one = later.one;
      back = later.back;
      split = ap (λ (ls : List NumberedLine). line ∷ ls) later.split;
      number = later.number;
      stands = later.stands;
      proper = (proper_line stored line.line event.event built.1, later.proper);
    }

-- a line of the console isn't idle in such a scene
heard_line : (stored : List Stored) (text : List ℕ) (event : Event) (scene : Scene) → IsCalm scene → StandsFor stored (lines.Cli text) event → IsIdle scene event → ⊥
heard_line stored text (events.Moment moment) scene calm stands idle = stands
heard_line stored text (events.Reply number heard) scene calm stands idle = stands
heard_line stored text (events.Aside aside) scene calm stands idle = stands
heard_line stored text (events.Request request) scene calm stands idle =
    true≢false (sym idle ∙ (ap (λ (client : ℕ). is_under_way client scene) stands.0 ∙ calm_free scene calm))

pub console_is_heard : {P : Type 0} (language : Language P) (beginning : Beginning) → ConsoleIsHeard (plan_of (Wants language) beginning)
console_is_heard language beginning stored session history before now line ended =
    let told = ended.2 in
    let built : IsBuiltAs stored session.lines (told.0 ++ told.1 ∷ told.2) = subst (λ (es : List NumberedEvent). IsBuiltAs stored session.lines es) told.3 ended.1.lines_are in
    let at = reached_line stored session.lines told.0 told.1 told.2 built in
    let went = told.5.went in
    let proper : AllByRecursion IsProperEvent (flat_map events_of went.run.moves) = subst (λ (es : List Event). AllByRecursion IsProperEvent es) (sym went.run.reads) at.proper in
    let calm : IsCalm went.scene = calm_path language beginning (opening_scene (plan_of (Wants language) beginning)) went.scene went.run.moves proper (calm_first (plan_of (Wants language) beginning)) went.run.path in
    (at.front, at.one, at.back, at.split, sym at.number ∙ told.4, λ text is. heard_line stored text told.1.event went.scene calm (subst (λ (l : TextLine). StandsFor stored l told.1.event) is at.stands) went.fact.1)
