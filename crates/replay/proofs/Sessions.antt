-- A session stands for one list of events, and so has one ending, one history and one text.
use Rattle.std.proofs.Common.{◌≡◌, ℕ, Bool, List, [], ◌∷◌, Option, Some, None, drop, refl, sym, ◌∙◌, ap, subst}
use Rattle.std.specs.List.{AllByRecursion}
use Rattle.http_heads.specs.declared.fields.Field.{Field}
use Rattle.http_heads.specs.declared.message.RequestHead.{RequestHead}
use Rattle.http_heads.proofs.SentFacts.{one_request}
use Rattle.http_bodies.specs.declared.framing.Framing.{Framing}
use Rattle.http_bodies.specs.declared.framing.Kind.TheVariants as kinds
use Rattle.http_bodies.specs.Bodies.{BeginsWith}
use Rattle.http_bodies.proofs.FramingFacts.{one_framing}
use Rattle.http_bodies.proofs.Fronts.{one_body}
use Rattle.session_text.specs.declared.session.Line.{Line}
use Rattle.session_text.specs.declared.session.Line.TheVariants as lines
use Rattle.session_text.specs.declared.session.NumberedLine.{NumberedLine}
use Rattle.session_text.specs.declared.session.Session.{Session}
use Rattle.vmod_host.specs.declared.signature.Stored.{Stored}
use Rattle.cache_law.specs.declared.call.Entry.{Entry}
use Rattle.replay.specs.declared.policy.Message.{Message}
use Rattle.replay.specs.declared.policy.Message.TheVariants.{Whole, Unreadable, Line as ConsoleLine}
use Rattle.replay.specs.declared.policy.Request.{Request}
use Rattle.replay.specs.declared.event.Event.{Event}
use Rattle.replay.specs.declared.event.Event.TheVariants as events
use Rattle.replay.specs.declared.event.Aside.TheVariants as asides
use Rattle.replay.specs.declared.event.Heard.{Heard}
use Rattle.replay.specs.declared.event.NumberedEvent.{NumberedEvent}
use Rattle.replay.specs.declared.event.Script.{Script}
use Rattle.replay.specs.declared.session.ReplayError.{ReplayError}
use Rattle.replay.specs.declared.session.ReplayError.TheVariants.{Idle, Unanswered, WriteFault, HistoryFull, NoMemory}
use Rattle.replay.specs.Policy.{HasOneWant}
use Rattle.replay.specs.Whole.{HasFramedBody, HasWholeRequest}
use Rattle.replay.specs.Build.{IsBuilt, IsBuiltAs, IsLine, IsMessage, StandsFor}
use Rattle.replay.specs.Plan.{Plan}
use Rattle.replay.specs.Replayed.{EndsSo, PlayedTo, SessionEnds}
use Rattle.replay.specs.Laws.{IsOwnEnding, IsPlain, LeadsToOne, OneSession}
use Rattle.replay.proofs.Instructions.{one_instruction}
use Rattle.replay.proofs.OneWay.{one_ending}

one_framed : (limit : ℕ) (fields : List Field) (text body other : List ℕ) → HasFramedBody kinds.Request limit fields text body → HasFramedBody kinds.Request limit fields text other → other ≡ body
one_framed limit fields text body other p q =
    let same : q.framing ≡ p.framing = one_framing kinds.Request fields q.framing p.framing q.frames p.frames in
    let reads : BeginsWith p.framing text other q.rest = subst (λ (f : Framing). BeginsWith f text other q.rest) same q.reads in
    (one_body p.framing text other q.rest body p.rest reads p.reads).0

one_whole : (text : List ℕ) (head other : RequestHead) (body more : List ℕ) → HasWholeRequest text head body → HasWholeRequest text other more → (other ≡ head) × (more ≡ body)
one_whole text head other body more p q =
    let heads = one_request text other head q.count p.count q.head_is p.head_is in
    let here : HasFramedBody kinds.Request 1048576 head.fields (drop p.count text) more =
    subst (λ (n : ℕ). HasFramedBody kinds.Request 1048576 head.fields (drop n text) more) heads.1
    (subst (λ (h : RequestHead). HasFramedBody kinds.Request 1048576 h.fields (drop q.count text) more) heads.0 q.body_is) in
    (heads.0, one_framed 1048576 head.fields (drop p.count text) body more p.body_is here)

one_message : (text : List ℕ) (a b : Message) → IsMessage text a → IsMessage text b → b ≡ a
one_message text (Whole head body) (Whole other more) p q =
    let same = one_whole text head other body more p.0 q.0 in
    ap (λ (h : RequestHead). Whole h more) same.0 ∙ ap (λ (t : List ℕ). Whole head t) same.1
one_message text (Whole head body) Unreadable p q = absurd (q head body p)
one_message text Unreadable (Whole head body) p q = absurd (p head body q)
one_message text Unreadable Unreadable p q = refl
one_message text (ConsoleLine line) b p q = absurd p
one_message text (Whole head body) (ConsoleLine line) p q = absurd q
one_message text Unreadable (ConsoleLine line) p q = absurd q

one_line : (stored : List Stored) (text : List ℕ) (a b : Message) → LeadsToOne stored text → IsLine stored text a → IsLine stored text b → b ≡ a
one_line stored text (ConsoleLine one) (ConsoleLine other) only p q = ap ConsoleLine (only one other p q)
one_line stored text (ConsoleLine one) (Whole head body) only p q = absurd q
one_line stored text (ConsoleLine one) Unreadable only p q = absurd q
one_line stored text (Whole head body) b only p q = absurd p
one_line stored text Unreadable b only p q = absurd p

same_request : (a b : Request) → b.client ≡ a.client → b.message ≡ a.message → events.Request b ≡ events.Request a
same_request a b client message =
    let of : ℕ → Message → Event = λ c m. events.Request (record { client = c; message = m }) in
    ap (λ (c : ℕ). of c b.message) client ∙ ap (λ (m : Message). of a.client m) message

same_reply : (number other : ℕ) (heard said : Heard) → other ≡ number → said ≡ heard → events.Reply other said ≡ events.Reply number heard
same_reply number other heard said n h = ap (λ (x : ℕ). events.Reply x said) n ∙ ap (λ (x : Heard). events.Reply number x) h

at_one : (stored : List Stored) (moment : ℕ) (a b : Event) → StandsFor stored (lines.At moment) a → StandsFor stored (lines.At moment) b → b ≡ a
at_one stored moment (events.Moment one) (events.Moment other) p q = ap events.Moment (sym q ∙ p)
at_one stored moment (events.Moment one) (events.Request request) p q = absurd q
at_one stored moment (events.Moment one) (events.Reply number heard) p q = absurd q
at_one stored moment (events.Request request) b p q = absurd p
at_one stored moment (events.Reply number heard) b p q = absurd p
at_one stored moment (events.Moment one) (events.Aside aside) p q = absurd q
at_one stored moment (events.Aside aside) b p q = absurd p

request_one : (stored : List Stored) (client : ℕ) (text : List ℕ) (a b : Event) → StandsFor stored (lines.Req client text) a → StandsFor stored (lines.Req client text) b → b ≡ a
request_one stored client text (events.Request one) (events.Request other) p q = same_request one other (q.2 ∙ sym p.2) (one_message text one.message other.message p.3 q.3)
request_one stored client text (events.Request one) (events.Moment moment) p q = absurd q
request_one stored client text (events.Request one) (events.Reply number heard) p q = absurd q
request_one stored client text (events.Moment moment) b p q = absurd p
request_one stored client text (events.Reply number heard) b p q = absurd p
request_one stored client text (events.Request one) (events.Aside aside) p q = absurd q
request_one stored client text (events.Aside aside) b p q = absurd p

reply_one : (stored : List Stored) (fetch : ℕ) (text : List ℕ) (a b : Event) → StandsFor stored (lines.Reply fetch text) a → StandsFor stored (lines.Reply fetch text) b → b ≡ a
reply_one stored fetch text (events.Reply number heard) (events.Reply other said) p q = same_reply number other heard said (q.0 ∙ sym p.0) (q.1 ∙ sym p.1)
reply_one stored fetch text (events.Reply number heard) (events.Moment moment) p q = absurd q
reply_one stored fetch text (events.Reply number heard) (events.Request request) p q = absurd q
reply_one stored fetch text (events.Moment moment) b p q = absurd p
reply_one stored fetch text (events.Request request) b p q = absurd p
reply_one stored fetch text (events.Reply number heard) (events.Aside aside) p q = absurd q
reply_one stored fetch text (events.Aside aside) b p q = absurd p

fail_one : (stored : List Stored) (fetch : ℕ) (a b : Event) → StandsFor stored (lines.Fail fetch) a → StandsFor stored (lines.Fail fetch) b → b ≡ a
fail_one stored fetch (events.Reply number heard) (events.Reply other said) p q = same_reply number other heard said (q.0 ∙ sym p.0) (q.1 ∙ sym p.1)
fail_one stored fetch (events.Reply number heard) (events.Moment moment) p q = absurd q
fail_one stored fetch (events.Reply number heard) (events.Request request) p q = absurd q
fail_one stored fetch (events.Moment moment) b p q = absurd p
fail_one stored fetch (events.Request request) b p q = absurd p
fail_one stored fetch (events.Reply number heard) (events.Aside aside) p q = absurd q
fail_one stored fetch (events.Aside aside) b p q = absurd p

cli_one : (stored : List Stored) (text : List ℕ) (a b : Event) → LeadsToOne stored text → StandsFor stored (lines.Cli text) a → StandsFor stored (lines.Cli text) b → b ≡ a
cli_one stored text (events.Request one) (events.Request other) only p q = same_request one other (q.0 ∙ sym p.0) (one_line stored text one.message other.message only p.1 q.1)
cli_one stored text (events.Request one) (events.Moment moment) only p q = absurd q
cli_one stored text (events.Request one) (events.Reply number heard) only p q = absurd q
cli_one stored text (events.Moment moment) b only p q = absurd p
cli_one stored text (events.Reply number heard) b only p q = absurd p
cli_one stored text (events.Request one) (events.Aside aside) only p q = absurd q
cli_one stored text (events.Aside aside) b only p q = absurd p

lurk_one : (stored : List Stored) (count : ℕ) (a b : Event) → StandsFor stored (lines.Lurk count) a → StandsFor stored (lines.Lurk count) b → b ≡ a
lurk_one stored count (events.Aside (asides.Lurk one)) (events.Aside (asides.Lurk other)) p q = ap (λ (n : ℕ). events.Aside (asides.Lurk n)) (sym q ∙ p)
lurk_one stored count (events.Aside (asides.Lurk one)) (events.Moment moment) p q = absurd q
lurk_one stored count (events.Aside (asides.Lurk one)) (events.Request request) p q = absurd q
lurk_one stored count (events.Aside (asides.Lurk one)) (events.Reply number heard) p q = absurd q
lurk_one stored count (events.Aside (asides.Lurk one)) (events.Aside (asides.Probe backend good)) p q = absurd q
lurk_one stored count (events.Aside (asides.Probe backend good)) b p q = absurd p
lurk_one stored count (events.Moment moment) b p q = absurd p
lurk_one stored count (events.Request request) b p q = absurd p
lurk_one stored count (events.Reply number heard) b p q = absurd p

probe_one : (stored : List Stored) (backend : List ℕ) (good : Bool) (a b : Event) → StandsFor stored (lines.Probe backend good) a → StandsFor stored (lines.Probe backend good) b → b ≡ a
probe_one stored backend good (events.Aside (asides.Probe one was)) (events.Aside (asides.Probe other is)) p q =
    ap (λ (x : List ℕ). events.Aside (asides.Probe x is)) (q.0 ∙ sym p.0) ∙ ap (λ (x : Bool). events.Aside (asides.Probe one x)) (q.1 ∙ sym p.1)
probe_one stored backend good (events.Aside (asides.Probe one was)) (events.Aside (asides.Lurk count)) p q = absurd q
probe_one stored backend good (events.Aside (asides.Probe one was)) (events.Moment moment) p q = absurd q
probe_one stored backend good (events.Aside (asides.Probe one was)) (events.Request request) p q = absurd q
probe_one stored backend good (events.Aside (asides.Probe one was)) (events.Reply number heard) p q = absurd q
probe_one stored backend good (events.Aside (asides.Lurk count)) b p q = absurd p
probe_one stored backend good (events.Moment moment) b p q = absurd p
probe_one stored backend good (events.Request request) b p q = absurd p
probe_one stored backend good (events.Reply number heard) b p q = absurd p

one_event : (stored : List Stored) (line : Line) (a b : Event) → ((text : List ℕ) → line ≡ lines.Cli text → LeadsToOne stored text) → StandsFor stored line a → StandsFor stored line b → b ≡ a
one_event stored (lines.At moment) a b only p q = at_one stored moment a b p q
one_event stored (lines.Req client text) a b only p q = request_one stored client text a b p q
one_event stored (lines.Reply fetch text) a b only p q = reply_one stored fetch text a b p q
one_event stored (lines.Cli text) a b only p q = cli_one stored text a b (only text refl) p q
one_event stored (lines.Fail fetch) a b only p q = fail_one stored fetch a b p q
one_event stored (lines.Lurk count) a b only p q = lurk_one stored count a b p q
one_event stored (lines.Probe backend good) a b only p q = probe_one stored backend good a b p q

same_event : (a b : NumberedEvent) → b.number ≡ a.number → b.event ≡ a.event → b ≡ a
same_event a b number event =
    let of : ℕ → Event → NumberedEvent = λ n e. record { number = n; event = e } in
    ap (λ (n : ℕ). of n b.event) number ∙ ap (λ (e : Event). of a.number e) event

same_events : (stored : List Stored) (told : List NumberedLine) (xs ys : List NumberedEvent) → AllByRecursion IsPlain told → IsBuiltAs stored told xs → IsBuiltAs stored told ys → ys ≡ xs
same_events stored [] [] [] plain p q = refl
same_events stored [] [] (y ∷ ys) plain p q = absurd q
same_events stored [] (x ∷ xs) ys plain p q = absurd p
same_events stored (line ∷ more) [] ys plain p q = absurd p
same_events stored (line ∷ more) (x ∷ xs) [] plain p q = absurd q
same_events stored (line ∷ more) (x ∷ xs) (y ∷ ys) plain p q =
    let first : y ≡ x = same_event x y (q.0 ∙ sym p.0) (one_event stored line.line x.event y.event (λ text is. one_instruction stored text (plain.0 text is)) p.1 q.1) in
    let rest : ys ≡ xs = same_events stored more xs ys plain.1 p.2 q.2 in
    cc

same_script : (stored : List Stored) (session : Session) (a b : Script) → AllByRecursion IsPlain session.lines → IsBuilt stored session a → IsBuilt stored session b → b ≡ a
same_script stored session a b plain p q =
    let of : List NumberedEvent → ℕ → Script = λ es n. record { events = es; end = n } in
    ap (λ (es : List NumberedEvent). of es b.end) (same_events stored session.lines a.events b.events plain p.lines_are q.lines_are) ∙ ap (λ (n : ℕ). of a.events n) (q.end_is ∙ sym p.end_is)

-- an ending of the session's own is one of its events
played : (plan : Plan) (stored : List Stored) (session : Session) (history : List Entry) (before now : Option (List ℕ)) (ending : Option ReplayError) → IsOwnEnding ending → SessionEnds stored plan session history before now ending → PlayedTo stored plan session history before now ending
played plan stored session history before now None own ends = ends
played plan stored session history before now (Some (Idle line)) own ends = ends
played plan stored session history before now (Some (Unanswered line)) own ends = ends
played plan stored session history before now (Some HistoryFull) own ends = ends
played plan stored session history before now (Some WriteFault) own ends = absurd own
played plan stored session history before now (Some NoMemory) own ends = absurd own

pub one_session : (plan : Plan) → HasOneWant plan.wants → OneSession plan
one_session plan one_want stored session history other before now before2 now2 ending ending2 plain ends too own own2 alike =
    let p = played plan stored session history before now ending own ends in
    let q = played plan stored session other before2 now2 ending2 own2 too in
    let same : q.0 ≡ p.0 = same_script stored session p.0 q.0 plain p.1 q.1 in
    let so : EndsSo plan p.0 other before2 now2 ending2 = subst (λ (s : Script). EndsSo plan s other before2 now2 ending2) same q.2 in
    one_ending plan one_want p.0 history other before now before2 now2 ending ending2 p.2 so own own2 alike
