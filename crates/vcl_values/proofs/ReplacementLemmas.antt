-- What is replaced, from what `regex` says of a replacement by a function.
use Rattle.std.proofs.Common.{◌≡◌, ℕ, ◌<◌, ◌+◌, ◌*◌, zero, suc, Bool, true, false, List, [], ◌∷◌, ◌++◌, map, take, Option, Some, refl, sym, ◌∙◌, ap, ap₂, get_or, slice_range, if◌then◌else◌, ◌==◌, ne_eqb, arith}
use Rattle.std.proofs.lemmas.List.{take-map}
use Rattle.std.proofs.lemmas.Bool.{cond-false}
use Rattle.std.specs.Option.{option_map_or}
use Rattle.regex.specs.Patterns.{Re, Match, find_all, SameCaptures, span}
use Rattle.regex.specs.Search.{group_span, first_or_all}
use Rattle.regex.specs.Writes.{group_of, both}
use Rattle.regex.specs.Replace.{replaced_by, group_bytes, bytes_of}
use Rattle.regex.specs.Bytes.{IsCapturesOf, regex_source, regex_pattern}
use Rattle.regex.specs.declared.bytes.regex.Regex.{Regex}
use Rattle.regex.specs.declared.bytes.captures.Captures.{Captures}
use Rattle.regex.proofs.ForCallers.{spans, find_all_alike}
use Rattle.vcl_values.specs.ReadHere.{IsReadHere}
use Rattle.vcl_values.specs.Readings.{tree_of, all_found}
use Rattle.vcl_values.specs.Captured.{captured}
use Rattle.vcl_values.specs.Replacements.{written, chosen, replaced}
use Rattle.vcl_values.proofs.ReadingLemmas.{tree_of-regex}

-- what captures hold is what the groups of their match matched
pub captured-is : (hay : List ℕ) (m : Match) (c : Captures) → IsCapturesOf hay m c → (group : ℕ) → captured c group ≡ group_bytes hay m group
unfolding group_span
captured-is hay m c captures zero = ap₂ bytes_of captures.0 (ap Some captures.1.whole_is)
captured-is hay m c captures (suc group) = ap₂ bytes_of captures.0 (captures.2 (suc group) (omega arith) ∙ sym (cond-false (suc group == 0) (Some (span m)) (group_of m (suc group)) (ne_eqb (suc group) 0 (omega arith))))

-- what a match that is seen alike writes
written_alike : (by hay : List ℕ) (x y : Match) → spans x ≡ spans y → written (group_bytes hay x) by ≡ written (group_bytes hay y) by
written_alike by hay x y same =
    let of_seen : ℕ × ℕ × (ℕ → Option ℕ) → ℕ → List ℕ = λ s group. bytes_of hay (if group == 0 then Some (s.0, s.1) else both (s.2 (2 * group)) (s.2 (2 * group + 1))) in
    ap (λ s. written (of_seen s) by) same

-- lists of matches that are seen alike are replaced alike
pub replaced_by-alike : (by hay : List ℕ) (xs ys : List Match) → map spans xs ≡ map spans ys → (at : ℕ)
    → replaced_by (λ m. written (group_bytes hay m) by) hay at xs ≡ replaced_by (λ m. written (group_bytes hay m) by) hay at ys
unfolding replaced_by
replaced_by-alike by hay [] [] same at = refl
replaced_by-alike by hay [] (y ∷ ys) same at = absurd cc
replaced_by-alike by hay (x ∷ xs) [] same at = absurd cc
replaced_by-alike by hay (x ∷ xs) (y ∷ ys) same at =
    let head : spans x ≡ spans y = cc in
    let tail : map spans xs ≡ map spans ys = cc in
    let start : x.start ≡ y.start = ap (λ (s : ℕ × ℕ × (ℕ → Option ℕ)). s.0) head in
    let end : x.trace.end ≡ y.trace.end = ap (λ (s : ℕ × ℕ × (ℕ → Option ℕ)). s.1) head in
    let rest = replaced_by-alike by hay xs ys tail x.trace.end ∙ ap (λ i. replaced_by (λ m. written (group_bytes hay m) by) hay i ys) end in
    ap₂ ◌++◌ (ap₂ (λ i w. slice_range hay at i ++ w) start (written_alike by hay x y head)) rest

-- the matches that are replaced, of the regex and of its text
pub replaced-regex : (r : Regex) → IsReadHere r → (text by : List ℕ) → ((k : ℕ) → get_or text k 0 < 256) → (all : Bool)
    → replaced_by (λ m. written (group_bytes text m) by) text 0 (first_or_all (if all then 0 else 1) (find_all (regex_pattern r) text)) ≡ replaced (regex_source r) text by all
unfolding replaced all_found
replaced-regex r here text by bytes all = go (tree_of-regex r here) all
  where
    told : Match → List ℕ
    told m = written (group_bytes text m) by

    ms : List Match
    ms = find_all (regex_pattern r) text

    go : (t : Re) × (tree_of (regex_source r) ≡ Some t) × SameCaptures (regex_pattern r) t → (all : Bool)
        → replaced_by told text 0 (first_or_all (if all then 0 else 1) ms) ≡ replaced_by told text 0 (chosen (regex_source r) text all)
    go t true = replaced_by-alike by text ms (find_all t.0 text) (find_all_alike t.2 text bytes false) 0
        ∙ ap (λ o. replaced_by told text 0 (option_map_or (λ re. find_all re text) o [])) (sym t.1)
    go t false = replaced_by-alike by text (take 1 ms) (take 1 (find_all t.0 text)) (sym (take-map spans 1 ms) ∙ ap (take 1) (find_all_alike t.2 text bytes false) ∙ take-map spans 1 (find_all t.0 text)) 0
        ∙ ap (λ o. replaced_by told text 0 (take 1 (option_map_or (λ re. find_all re text) o []))) (sym t.1)
