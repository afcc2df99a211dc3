-- The words of a ban that VCL gives (Varnish Reference Manual, VCL, "ban"): they stand between blanks, and no byte is quoted or
-- escaped, so that the argument of `~` is the pattern as it is written.
use Rattle.std.specs.Prelude.{ℕ, Bool, ◌||◌, ◌==◌, List, filter}
use Rattle.std.specs.List.{slice_split}
use Rattle.http_heads.specs.Lists.{is_full}

-- space and tab
abbrev pub is_blank : ℕ → Bool
is_blank byte = byte == 32 || byte == 9

-- what stands between the blanks
abbrev pub pieces : List ℕ → List (List ℕ)
pieces text = slice_split is_blank text

abbrev pub words_of : List ℕ → List (List ℕ)
words_of text = filter is_full (pieces text)
