-- How a summary is told.
use Rattle.std.specs.Prelude.{ℕ, List, [], ◌∷◌, ◌++◌, codes}
use Rattle.std.specs.Fmt.{decimal}
use Rattle.units.specs.Signs.{blank, line_feed}
use Rattle.load_summary.specs.declared.summary.Summary.{Summary}

-- a line: a word, a blank and a number
abbrev pub told : List ℕ → ℕ → List ℕ
told word number = word ++ blank ∷ decimal number ++ line_feed ∷ []

-- the lines of a summary
abbrev pub text_of : Summary → List ℕ
text_of summary =
    told (codes "steps") summary.steps
    ++ told (codes "requests") summary.requests
    ++ told (codes "hits") summary.hits
    ++ told (codes "misses") summary.misses
    ++ told (codes "waits") summary.waits
    ++ told (codes "bans") summary.bans
    ++ told (codes "swept") summary.swept
    ++ told (codes "200") summary.of_200
    ++ told (codes "other") summary.of_others
