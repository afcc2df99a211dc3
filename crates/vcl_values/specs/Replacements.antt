-- What a replacement writes in the place of a match (the Varnish Reference Manual, VCL, "regsub").
use Rattle.std.specs.Prelude.{ℕ, ◌-◌, Bool, ◌&&◌, ◌==◌, List, [], ◌∷◌, ◌++◌, take, if◌then◌else◌}
use Rattle.std.specs.Char.{is_digit}
use Rattle.regex.specs.Patterns.{Match}
use Rattle.regex.specs.Replace.{replaced_by, group_bytes}
use Rattle.vcl_values.specs.Readings.{all_found}

-- the replacement with what each group matched for `\0` to `\9`, and `\` for `\\`; another `\` stays. 92 is `\`,
-- and the digits are 48 and on.
abbrev pub written : (ℕ → List ℕ) → List ℕ → List ℕ
written group [] = []
written group (b ∷ []) = b ∷ []
written group (b ∷ c ∷ rest) =
    if b == 92 && c == 92 then 92 ∷ written group rest
    else if b == 92 && is_digit c 10 then group (c - 48) ++ written group rest
    else b ∷ written group (c ∷ rest)

-- the matches that are replaced: the first one or all
abbrev pub chosen : List ℕ → List ℕ → Bool → List Match
chosen source text all = if all then all_found source text else take 1 (all_found source text)

-- the text with each of those matches replaced; a group that took no part, or that the pattern lacks, is empty
unfoldable pub replaced : List ℕ → List ℕ → List ℕ → Bool → List ℕ
replaced source text by all = replaced_by (λ m. written (group_bytes text m) by) text 0 (chosen source text all)
