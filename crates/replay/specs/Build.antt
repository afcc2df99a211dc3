-- Which events the lines of a session stand for.
use Rattle.std.specs.Prelude.{◌≡◌, ◌≤◌, ◌<◌, ℕ, true, List, [], ◌∷◌, ◌++◌}
use Rattle.std.specs.List.{AllByRecursion}
use Rattle.http_heads.specs.declared.message.RequestHead.{RequestHead}
use Rattle.seen_request.specs.Sites.{is_of_one_site}
use Rattle.session_text.specs.declared.session.Line.{Line}
use Rattle.session_text.specs.declared.session.Line.TheVariants as lines
use Rattle.session_text.specs.declared.session.NumberedLine.{NumberedLine}
use Rattle.session_text.specs.declared.session.Session.{Session}
use Rattle.vmod_host.specs.declared.signature.Stored.{Stored}
use Rattle.replay.specs.declared.policy.Message.{Message}
use Rattle.replay.specs.declared.policy.Message.TheVariants.{Whole, Unreadable, Line as ConsoleLine}
use Rattle.replay.specs.declared.event.Event.{Event}
use Rattle.replay.specs.declared.event.Event.TheVariants as events
use Rattle.replay.specs.declared.event.Aside.TheVariants as asides
use Rattle.replay.specs.declared.event.Heard.TheVariants.{Bytes, Fault}
use Rattle.replay.specs.declared.event.NumberedEvent.{NumberedEvent}
use Rattle.replay.specs.declared.event.Script.{Script}
use Rattle.replay.specs.Whole.{HasWholeRequest}
use Rattle.replay.specs.Console.{LeadsTo}

-- the text's first message is a request with this head and body, which says one site at most
abbrev pub HasMessage : List ℕ → RequestHead → List ℕ → Type 0
HasMessage text head body = HasWholeRequest text head body × (is_of_one_site head ≡ true)

-- it is this; or no such request stands at the text's front
abbrev pub IsMessage : List ℕ → Message → Type 0
IsMessage text (Whole head body) = HasMessage text head body
IsMessage text Unreadable = (head : RequestHead) (body : List ℕ) → HasMessage text head body → ⊥
IsMessage text (ConsoleLine instruction) = ⊥

-- the console, which is client 0, gets a line that leads to this
abbrev pub IsLine : List Stored → List ℕ → Message → Type 0
IsLine stored text (ConsoleLine instruction) = LeadsTo stored text instruction
IsLine stored text (Whole head body) = ⊥
IsLine stored text Unreadable = ⊥

-- the line stands for the event: a moment; a request of a client; the bytes of a reply; a backend that can't be reached; a line of
-- the console; the lurker; or a probe
abbrev pub StandsFor : List Stored → Line → Event → Type 0
StandsFor stored (lines.At moment) (events.Moment same) = moment ≡ same
StandsFor stored (lines.Req client text) (events.Request request) =
    (0 < client) × (client ≤ 250) × (request.client ≡ client) × IsMessage text request.message
StandsFor stored (lines.Reply fetch text) (events.Reply number heard) = (number ≡ fetch) × (heard ≡ Bytes text)
StandsFor stored (lines.Fail fetch) (events.Reply number heard) = (number ≡ fetch) × (heard ≡ Fault)
StandsFor stored (lines.Cli text) (events.Request request) = (request.client ≡ 0) × IsLine stored text request.message
StandsFor stored (lines.Lurk count) (events.Aside (asides.Lurk same)) = count ≡ same
StandsFor stored (lines.Probe backend good) (events.Aside (asides.Probe name same)) = (name ≡ backend) × (same ≡ good)
StandsFor stored line event = ⊥

-- line by line, with the same numbers
abbrev pub IsBuiltAs : List Stored → List NumberedLine → List NumberedEvent → Type 0
IsBuiltAs stored [] [] = Unit {0}
IsBuiltAs stored (line ∷ more) (event ∷ events) = (event.number ≡ line.number) × StandsFor stored line.line event.event × IsBuiltAs stored more events
IsBuiltAs stored [] (event ∷ events) = ⊥
IsBuiltAs stored (line ∷ more) [] = ⊥

-- the event of one line more stands behind those before it
pub record IsOneMore (stored : List Stored) (line : NumberedLine) (before now : List NumberedEvent) : Type 0 where
  pub event : NumberedEvent
  pub number_is : event.number ≡ line.number
  pub stands : StandsFor stored line.line event.event
  pub pushed : now ≡ before ++ event ∷ []

-- the line is no client's, or that of a client 1 to 250
abbrev pub IsOfClient : Line → Type 0
IsOfClient (lines.Req client text) = (0 < client) × (client ≤ 250)
IsOfClient line = Unit {0}

-- each line of the session is so
abbrev pub HasClients : Session → Type 0
HasClients session = AllByRecursion (λ (one : NumberedLine). IsOfClient one.line) session.lines

pub record IsBuilt (stored : List Stored) (session : Session) (script : Script) : Type 0 where
  pub lines_are : IsBuiltAs stored session.lines script.events
  pub end_is : script.end ≡ session.end
