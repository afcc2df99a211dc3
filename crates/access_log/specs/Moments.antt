-- Moments as a log has them, from the date of HTTP.
use Rattle.std.specs.Prelude.{ℕ, ◌≡◌, List, [], ◌∷◌, ◌++◌, take, drop, codes, min}
use Rattle.httpdate.specs.Date.{date_text, unix_secs}
use Rattle.httpdate.specs.declared.date.HttpDate.{HttpDate}

-- of `Sun, 06 Nov 1994 08:49:37 GMT` the parts of `06/Nov/1994:08:49:37 +0000`
abbrev pub moment_text : List ℕ → List ℕ
moment_text date = take 2 (drop 5 date) ++ 47 ∷ take 3 (drop 8 date) ++ 47 ∷ take 4 (drop 12 date) ++ 58 ∷ take 8 (drop 17 date) ++ codes " +0000"

-- The text is that of so many seconds since the beginning of 1970, or of the last second that a date has.
abbrev pub IsMoment : ℕ → List ℕ → Type 0
IsMoment seconds text = (date : HttpDate) × (unix_secs date ≡ min seconds 253402300799) × (text ≡ moment_text (date_text date))
