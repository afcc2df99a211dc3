-- What the reader's errors say of a text.
use Rattle.std.specs.Prelude.{ℕ, List}
use Rattle.session_text.specs.declared.session.Session.{Session}
use Rattle.session_text.specs.declared.session.SessionError.{SessionError}
use Rattle.session_text.specs.declared.session.SessionError.TheVariants.{Refused, NoMemory}
use Rattle.session_text.specs.Sessions.{IsSession, IsFault}

-- a refusal names the text's fault, and want of memory says that the text is a session
abbrev pub IsErrorOf : List ℕ → SessionError → Type 0
IsErrorOf text (Refused line kind) = IsFault text line kind
IsErrorOf text NoMemory = (session : Session) × IsSession text session
