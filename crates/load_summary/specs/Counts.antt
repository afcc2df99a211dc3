-- What a load came to, counted over its history, what its lurker swept and its transcript.
use Rattle.std.specs.Prelude.{ℕ, Bool, true, false, ◌&&◌, not, ◌==◌, nat_eq, List, codes, sum, count_by}
use Rattle.std.specs.List.{after_first, slice_split, starts_with}
use Rattle.units.specs.Signs.{line_feed, quote_mark}
use Rattle.cache_law.specs.declared.call.Call.{Call}
use Rattle.cache_law.specs.declared.call.Call.TheVariants.{Ban}
use Rattle.cache_law.specs.declared.call.Reply.{Reply}
use Rattle.cache_law.specs.declared.call.Reply.TheVariants.{Began, Hit, Grace, Miss, Wait}
use Rattle.cache_law.specs.declared.call.Entry.{Entry}
use Rattle.load_summary.specs.declared.summary.Summary.{Summary}

-- ---- entries of the history

-- a round begins
abbrev pub begins : Reply → Bool
begins (Began number vcl text) = true
begins reply = false

unfoldable pub is_request : Entry → Bool
is_request entry = begins entry.reply

-- an object is found, in grace or before
abbrev pub finds : Reply → Bool
finds (Hit object) = true
finds (Grace object token) = true
finds reply = false

unfoldable pub is_hit : Entry → Bool
is_hit entry = finds entry.reply

-- none is found, and a fetch is opened
abbrev pub lacks : Reply → Bool
lacks (Miss token stale) = true
lacks reply = false

unfoldable pub is_miss : Entry → Bool
is_miss entry = lacks entry.reply

-- another's fetch is to be waited for
abbrev pub puts_off : Reply → Bool
puts_off (Wait token) = true
puts_off reply = false

unfoldable pub is_wait : Entry → Bool
is_wait entry = puts_off entry.reply

abbrev pub bans : Call → Bool
bans (Ban ban) = true
bans call = false

unfoldable pub is_ban : Entry → Bool
is_ban entry = bans entry.call

-- ---- lines of the transcript

abbrev pub is_feed : ℕ → Bool
is_feed byte = byte == line_feed

abbrev pub is_mark : ℕ → Bool
is_mark byte = byte == quote_mark

-- the line tells what a client was sent
abbrev pub is_response : List ℕ → Bool
is_response line = starts_with nat_eq line (codes "resp ")

-- and this begins with the status 200 (its text stands quoted behind the line's first quotation mark)
unfoldable pub is_of_200 : List ℕ → Bool
is_of_200 line = is_response line && starts_with nat_eq (after_first is_mark line) (codes "HTTP/1.1 200")

unfoldable pub is_of_another : List ℕ → Bool
is_of_another line = is_response line && not (is_of_200 line)

-- so many lines of the text are such
abbrev pub lines_that : (List ℕ → Bool) → List ℕ → ℕ
lines_that such text = count_by such (slice_split is_feed text)

-- ---- all of it

-- what so many steps came to that led to this history, these sweeps and this transcript
abbrev pub summary_of : ℕ → List Entry → List ℕ → List ℕ → Summary
summary_of steps history swept transcript = record {
  steps = steps;
  requests = count_by is_request history;
  hits = count_by is_hit history;
  misses = count_by is_miss history;
  waits = count_by is_wait history;
  bans = count_by is_ban history;
  swept = sum swept;
  of_200 = lines_that is_of_200 transcript;
  of_others = lines_that is_of_another transcript;
}
