-- What a session says beside the lurker.
use Rattle.std.specs.Prelude.{◌≡◌, ℕ, Bool, true, false, not, Option, None, List, map, filter}
use Rattle.std.specs.List.{AllByRecursion}
use Rattle.std.specs.Io.KnownBytes.{Appends}
use Rattle.session_text.specs.declared.session.Line.{Line}
use Rattle.session_text.specs.declared.session.Line.TheVariants.{Lurk}
use Rattle.session_text.specs.declared.session.NumberedLine.{NumberedLine}
use Rattle.session_text.specs.declared.session.Session.{Session}
use Rattle.vmod_host.specs.declared.signature.Stored.{Stored}
use Rattle.cache_law.specs.declared.call.Entry.{Entry}
use Rattle.replay.specs.Laws.{AllBound, IsPlain}
use Rattle.replay.specs.Plan.{Plan}
use Rattle.replay.specs.Replayed.{SessionEnds}

-- the lurker goes over objects
abbrev pub is_lurk : Line → Bool
is_lurk (Lurk count) = true
is_lurk line = false

abbrev pub is_said : NumberedLine → Bool
is_said numbered = not (is_lurk numbered.line)

-- the other lines in order, wherever they stand in a text
abbrev pub said_in : List NumberedLine → List Line
said_in numbered = map (λ one. one.line) (filter is_said numbered)

-- Two sessions that say the same beside the lurker, each played to its end, have one history and one text where the law leaves each entry
-- one answer.
abbrev pub LeaveNoTrace : Plan → Type 0
LeaveNoTrace plan =
    (stored : List Stored) (session other : Session) (history entries : List Entry) (before now before2 now2 : Option (List ℕ))
    → said_in other.lines ≡ said_in session.lines → AllByRecursion IsPlain session.lines
    → SessionEnds stored plan session history before now None → SessionEnds stored plan other entries before2 now2 None
    → AllBound history → AllBound entries
    → (entries ≡ history) × (text : List ℕ) × Appends before now text × Appends before2 now2 text
