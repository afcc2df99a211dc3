-- What the line of an entry says of its reply.
use Rattle.std.specs.Prelude.{ℕ, Bool, true, false, Option, Some, None, if◌then◌else◌}
use Rattle.cache_law.specs.declared.call.Call.{Call}
use Rattle.cache_law.specs.declared.call.Call.TheVariants.{BanList, End, Insert}
use Rattle.cache_frame.specs.declared.framed.Answering.{Answering}
use Rattle.cache_frame.specs.declared.framed.Answering.TheVariants.{ByLaw, Refused}
use Rattle.journal_text.specs.declared.line.Line.{Line}
use Rattle.journal_text.specs.declared.line.Line.TheVariants as line
use Rattle.journal_text.specs.declared.shown.Shown.{Shown}
use Rattle.journal_text.specs.declared.shown.Shown.TheVariants as shown

abbrev pub is_refused : Shown → Bool
is_refused shown.Refused = true
is_refused reply = false

-- by which answer it is judged whether the entry fits
abbrev pub answering_of : Shown → Answering
answering_of reply = if is_refused reply then Refused else ByLaw

abbrev pub asks_bans : Call → Bool
asks_bans BanList = true
asks_bans call = false

abbrev pub inserted_token : Call → Option ℕ
inserted_token (Insert token object stale) = Some token
inserted_token call = None

-- the number of the fetch whose insertion was refused
abbrev pub refused_token : Call → Shown → Option ℕ
refused_token call reply = if is_refused reply then inserted_token call else None

-- some line that says the reply
abbrev pub line_saying : Shown → Line
line_saying reply = line.Entry (record { caller = 0; moment = 0; call = End; reply = reply })
