-- A session that was played is, without its lines of the lurker, one that was played to the same history and text.
use Rattle.std.proofs.Common.{◌≡◌, inr, ℕ, Bool, true, false, not, cond, List, [], ◌∷◌, ◌++◌, Option, None, map, filter, refl, sym, ◌∙◌, ap, subst}
use Rattle.std.specs.List.{AllByRecursion, flat_map}
use Rattle.std.specs.Io.KnownBytes.{Appends}
use Rattle.std.proofs.lemmas.Bool.{false≢true}
use Rattle.session_text.specs.declared.session.Line.{Line}
use Rattle.session_text.specs.declared.session.Line.TheVariants as lines
use Rattle.session_text.specs.declared.session.NumberedLine.{NumberedLine}
use Rattle.session_text.specs.declared.session.Session.{Session}
use Rattle.vmod_host.specs.declared.signature.Stored.{Stored}
use Rattle.cache_law.specs.declared.call.Entry.{Entry}
use Rattle.replay.specs.declared.event.Event.{Event}
use Rattle.replay.specs.declared.event.Event.TheVariants as events
use Rattle.replay.specs.declared.event.Aside.TheVariants as asides
use Rattle.replay.specs.declared.event.NumberedEvent.{NumberedEvent}
use Rattle.replay.specs.declared.event.Script.{Script}
use Rattle.replay.specs.Build.{IsBuilt, IsBuiltAs, StandsFor}
use Rattle.replay.specs.Laws.{AllBound, IsPlain}
use Rattle.replay.specs.Plan.{Plan}
use Rattle.replay.specs.Policy.{HasOneWant}
use Rattle.replay.specs.Replayed.{CameTo, NobodyWaits, PlayedTo}
use Rattle.replay.specs.Scene.{AtRest, Move, Next, Path, Run, Scene, calls, ends, entries_of, events_of, fetches, hears, opening_scene, parks, sends, text_of, wakes}
use Rattle.replay.specs.Went.{Went, events_in}
use Rattle.replay.proofs.Sessions.{one_session}
use Rattle.lurk_lines.specs.Said.{LeaveNoTrace, is_lurk, is_said, said_in}

-- ---- moves

abbrev is_lurker : Event → Bool
is_lurker (events.Aside (asides.Lurk count)) = true
is_lurker event = false

abbrev is_quiet : Event → Bool
is_quiet event = not (is_lurker event)

abbrev is_quiet_move : Move → Bool
is_quiet_move (hears event) = is_quiet event
is_quiet_move move = true

module _ (plan : Plan) where
  -- the lurker leaves the scene as it is
  stays : (old new : Scene) (move : Move) → is_quiet_move move ≡ false → Next plan old move new → old ≡ new
  stays old new (hears (events.Aside (asides.Lurk count))) e next = sym next.1
  stays old new (hears (events.Aside (asides.Probe backend good))) e next = absurd next
  stays old new (hears (events.Moment moment)) e next = absurd (false≢true (sym e))
  stays old new (hears (events.Request request)) e next = absurd (false≢true (sym e))
  stays old new (hears (events.Reply number heard)) e next = absurd (false≢true (sym e))
  stays old new (calls entry) e next = absurd (false≢true (sym e))
  stays old new (fetches number backend request) e next = absurd (false≢true (sym e))
  stays old new (sends client response) e next = absurd (false≢true (sym e))
  stays old new (parks token) e next = absurd (false≢true (sym e))
  stays old new wakes e next = absurd (false≢true (sym e))
  stays old new ends e next = absurd (false≢true (sym e))

  path_step : (b : Bool) (old between new : Scene) (move : Move) (moves : List Move) → is_quiet_move move ≡ b → Next plan old move between → Path plan between moves new → Path plan old (cond b (move ∷ moves) moves) new
  path_step true old between new move moves e next path = (between, next, path)
  path_step false old between new move moves e next path = subst (λ (scene : Scene). Path plan scene moves new) (sym (stays old between move e next)) path

  quiet_path : (old new : Scene) (moves : List Move) → Path plan old moves new → Path plan old (filter is_quiet_move moves) new
  quiet_path old new [] path = path
  quiet_path old new (move ∷ moves) path = path_step (is_quiet_move move) old path.0 new move (filter is_quiet_move moves) refl path.1 (quiet_path path.0 new moves path.2)

reads_step : (b : Bool) (event : Event) (moves : List Move) (rest : List Event) → flat_map events_of moves ≡ filter is_quiet rest
    → flat_map events_of (cond b (hears event ∷ moves) moves) ≡ cond b (event ∷ filter is_quiet rest) (filter is_quiet rest)
reads_step true event moves rest same = ap (λ (es : List Event). event ∷ es) same
reads_step false event moves rest same = same

quiet_reads : (moves : List Move) → flat_map events_of (filter is_quiet_move moves) ≡ filter is_quiet (flat_map events_of moves)
quiet_reads [] = refl
quiet_reads (hears event ∷ moves) = reads_step (is_quiet event) event (filter is_quiet_move moves) (flat_map events_of moves) (quiet_reads moves)
quiet_reads (calls entry ∷ moves) = quiet_reads moves
quiet_reads (fetches number backend request ∷ moves) = quiet_reads moves
quiet_reads (sends client response ∷ moves) = quiet_reads moves
quiet_reads (parks token ∷ moves) = quiet_reads moves
quiet_reads (wakes ∷ moves) = quiet_reads moves
quiet_reads (ends ∷ moves) = quiet_reads moves

same_step : {A : Type 0} (b : Bool) (of : Move → List A) (event : Event) (moves : List Move) (rest : List A) → of (hears event) ≡ [] → flat_map of moves ≡ rest → flat_map of (cond b (hears event ∷ moves) moves) ≡ of (hears event) ++ rest
same_step true of event moves rest none same = ap (λ xs. of (hears event) ++ xs) same
same_step false of event moves rest none same = rw none same

-- nothing is entered or written where a line is heard
quiet_same : {A : Type 0} (of : Move → List A) → ((event : Event) → of (hears event) ≡ []) → (moves : List Move) → flat_map of (filter is_quiet_move moves) ≡ flat_map of moves
quiet_same of none [] = refl
quiet_same of none (hears event ∷ moves) = same_step (is_quiet event) of event (filter is_quiet_move moves) (flat_map of moves) (none event) (quiet_same of none moves)
quiet_same of none (calls entry ∷ moves) = ap (λ xs. of (calls entry) ++ xs) (quiet_same of none moves)
quiet_same of none (fetches number backend request ∷ moves) = ap (λ xs. of (fetches number backend request) ++ xs) (quiet_same of none moves)
quiet_same of none (sends client response ∷ moves) = ap (λ xs. of (sends client response) ++ xs) (quiet_same of none moves)
quiet_same of none (parks token ∷ moves) = ap (λ xs. of (parks token) ++ xs) (quiet_same of none moves)
quiet_same of none (wakes ∷ moves) = ap (λ xs. of wakes ++ xs) (quiet_same of none moves)
quiet_same of none (ends ∷ moves) = ap (λ xs. of ends ++ xs) (quiet_same of none moves)

quiet_run : (plan : Plan) (old new : Scene) (read : List Event) (entries : List Entry) (text : List ℕ) → Run plan old new read entries text → Run plan old new (filter is_quiet read) entries text
quiet_run plan old new read entries text run =
    record {
      moves = filter is_quiet_move run.moves;
      path = quiet_path plan old new run.moves run.path;
      reads = quiet_reads run.moves ∙ ap (filter is_quiet) run.reads;
      enters = quiet_same entries_of (λ event. refl) run.moves ∙ run.enters;
      writes = quiet_same text_of (λ event. refl) run.moves ∙ run.writes;
    }

quiet_went : (plan : Plan) (old : Scene) (read : List Event) (before now : List Entry) (H : Scene → List ℕ → Type 0) → Went plan old read before now H → Went plan old (filter is_quiet read) before now H
quiet_went plan old read before now H went =
    record { scene = went.scene; entries = went.entries; text = went.text; run = quiet_run plan old went.scene read went.entries went.text went.run; history = went.history; fact = went.fact }

-- ---- lines

abbrev unnumbered : Line → NumberedLine
unnumbered line = record { number = 0; line = line }

abbrev unnumbered_event : Event → NumberedEvent
unnumbered_event event = record { number = 0; event = event }

-- what the lines say beside the lurker, as lines with no numbers
abbrev quiet_lines : List Line → List NumberedLine
quiet_lines said = map unnumbered said

abbrev quiet_events : List NumberedEvent → List NumberedEvent
quiet_events all = map unnumbered_event (filter is_quiet (events_in all))

abbrev quiet_session : List Line → Session
quiet_session said = record { lines = quiet_lines said; end = 0 }

abbrev quiet_script : Script → Script
quiet_script script = record { events = quiet_events script.events; end = 0 }

same_quiet : (stored : List Stored) (line : Line) (event : Event) → StandsFor stored line event → not (is_lurk line) ≡ is_quiet event
same_quiet stored (lines.At moment) (events.Moment same) stands = refl
same_quiet stored (lines.Req client text) (events.Request request) stands = refl
same_quiet stored (lines.Reply fetch text) (events.Reply number heard) stands = refl
same_quiet stored (lines.Fail fetch) (events.Reply number heard) stands = refl
same_quiet stored (lines.Cli text) (events.Request request) stands = refl
same_quiet stored (lines.Lurk count) (events.Aside (asides.Lurk same)) stands = refl
same_quiet stored (lines.Probe backend good) (events.Aside (asides.Probe name same)) stands = refl
same_quiet stored line event stands = absurd stands

built_step : (stored : List Stored) (b : Bool) (line : NumberedLine) (event : Event) (more : List NumberedLine) (rest : List Event) → StandsFor stored line.line event
    → IsBuiltAs stored (map unnumbered (map (λ (one : NumberedLine). one.line) more)) (map unnumbered_event rest)
    → IsBuiltAs stored (map unnumbered (map (λ (one : NumberedLine). one.line) (cond b (line ∷ more) more))) (map unnumbered_event (cond b (event ∷ rest) rest))
built_step stored true line event more rest stands later = (refl, stands, later)
built_step stored false line event more rest stands later = later

quiet_built : (stored : List Stored) (told : List NumberedLine) (all : List NumberedEvent) → IsBuiltAs stored told all → IsBuiltAs stored (quiet_lines (said_in told)) (quiet_events all)
quiet_built stored [] [] are = tt
quiet_built stored [] (event ∷ more) are = absurd are
quiet_built stored (line ∷ rest) [] are = absurd are
quiet_built stored (line ∷ rest) (event ∷ more) are =
    subst (λ (b : Bool). IsBuiltAs stored (map unnumbered (map (λ (one : NumberedLine). one.line) (cond (is_said line) (line ∷ filter is_said rest) (filter is_said rest)))) (map unnumbered_event (cond b (event.event ∷ filter is_quiet (events_in more)) (filter is_quiet (events_in more)))))
    (same_quiet stored line.line event.event are.1)
    (built_step stored (is_said line) line event.event (filter is_said rest) (filter is_quiet (events_in more)) are.1 (quiet_built stored rest more are.2))

plain_step : (b : Bool) (line : NumberedLine) (more : List NumberedLine) → IsPlain line → AllByRecursion IsPlain (map unnumbered (map (λ (one : NumberedLine). one.line) more))
    → AllByRecursion IsPlain (map unnumbered (map (λ (one : NumberedLine). one.line) (cond b (line ∷ more) more)))
plain_step true line more plain all = (plain, all)
plain_step false line more plain all = all

quiet_plain : (told : List NumberedLine) → AllByRecursion IsPlain told → AllByRecursion IsPlain (quiet_lines (said_in told))
quiet_plain [] plain = tt
quiet_plain (line ∷ rest) plain = plain_step (is_said line) line (filter is_said rest) plain.0 (quiet_plain rest plain.1)

events_back : (all : List Event) → events_in (map unnumbered_event all) ≡ all
events_back [] = refl
events_back (event ∷ more) = ap (λ (es : List Event). event ∷ es) (events_back more)

quiet_played : (stored : List Stored) (plan : Plan) (session : Session) (history : List Entry) (before now : Option (List ℕ)) → PlayedTo stored plan session history before now None
    → PlayedTo stored plan (quiet_session (said_in session.lines)) history before now None
quiet_played stored plan session history before now played =
    let script : Script = played.0 in
    let all : List Event = events_in script.events in
    let H : Scene → List ℕ → Type 0 = λ scene text. AtRest scene × NobodyWaits scene × Appends before now text in
    let came : CameTo plan (filter is_quiet all) history H = record { went = quiet_went plan (opening_scene plan) all [] history H played.2.went; legal = played.2.legal } in (
      quiet_script script,
      record { lines_are = quiet_built stored session.lines script.events played.1.lines_are; end_is = refl },
      subst (λ (es : List Event). CameTo plan es history H) (sym (events_back (filter is_quiet all))) came,
    )

pub no_trace : (plan : Plan) → HasOneWant plan.wants → LeaveNoTrace plan
no_trace plan one_want stored session other history entries before now before2 now2 same plain ends_ too bound own =
    let one = quiet_played stored plan session history before now ends_ in
    let two : PlayedTo stored plan (quiet_session (said_in session.lines)) entries before2 now2 None =
    subst (λ (said : List Line). PlayedTo stored plan (quiet_session said) entries before2 now2 None) same (quiet_played stored plan other entries before2 now2 too) in
    let found = one_session plan one_want stored (quiet_session (said_in session.lines)) history entries before now before2 now2 None None (quiet_plain session.lines plain) one two tt tt (inr (bound, own)) in
    (found.1, found.2, found.3, found.4)
