-- A jar as one text: the quoted name and the quoted value of each cookie in order.
use Rattle.std.specs.Prelude.{ℕ, zero, suc, ◌==◌, List, [], ◌∷◌, ◌++◌, length, Option, Some, None, option_map, if◌then◌else◌}
use Rattle.std.specs.List.{flat_map}
use Rattle.std.specs.Option.{option_map_or, option_and_then}
use Rattle.std.specs.Str.{bytes_eq}
use Rattle.indexmap.specs.IndexMap.{insert_all}
use Rattle.units.specs.Signs.{quote_mark}
use Rattle.units.specs.Quoted.{piece, quote_of}
use Rattle.vmod_host.specs.Jar.{Cookies}

abbrev pub written : Cookies → List ℕ
written jar = flat_map (λ cookie. quote_of cookie.0 ++ quote_of cookie.1) jar

-- what stands behind a quote mark
abbrev pub behind_quote : List ℕ → Option (List ℕ)
behind_quote [] = None
behind_quote (first ∷ rest) = if first == quote_mark then Some rest else None

-- so many pieces at most and a quote mark behind them: what they stand for, and what is behind the mark
abbrev pub body_of : ℕ → List ℕ → Option (List ℕ × List ℕ)
body_of zero text = None
body_of (suc most) text =
    option_map_or
    (λ first. option_map (λ more. (first.0 ∷ more.0, more.1)) (body_of most first.1))
    (piece text)
    (option_map (λ rest. ([], rest)) (behind_quote text))

-- the quoted text that a text begins with: what it stands for, and what is behind it
abbrev pub quoted_in : List ℕ → Option (List ℕ × List ℕ)
quoted_in text = option_and_then (body_of (length text)) (behind_quote text)

-- the cookie that a text begins with, a name and a value, and what is behind it
abbrev pub cookie_in : List ℕ → Option ((List ℕ × List ℕ) × List ℕ)
cookie_in text =
    option_and_then (λ name. option_map (λ value. ((name.0, value.0), value.1)) (quoted_in name.1)) (quoted_in text)

-- so many cookies at most that a text begins with
abbrev pub cookies_in : ℕ → List ℕ → Cookies
cookies_in zero text = []
cookies_in (suc most) text = option_map_or (λ first. first.0 ∷ cookies_in most first.1) (cookie_in text) []

-- the jar that a text stands for: that of its cookies, where the text is how that jar is written, and else the empty one
abbrev pub checked : List ℕ → Cookies → Cookies
checked text jar = if bytes_eq (written jar) text then jar else []

abbrev pub jar_of : List ℕ → Cookies
jar_of text = checked text (insert_all bytes_eq [] (cookies_in (length text) text))
