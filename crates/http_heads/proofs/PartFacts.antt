-- The parts of a text, one by one.
use Rattle.std.proofs.Common.{◌≡◌, ◌∙◌, ap, sym, refl, ℕ, ◌<◌, ◌+◌, Bool, true, false, not, List, [], ◌∷◌, length, get_or, map, take, drop, length-drop, arith}
use Rattle.std.specs.List.{position_or_len, before_first, after_first}
use Rattle.std.proofs.lemmas.List.Splits.{slice_split_first, slice_split_none}
use Rattle.std.proofs.lemmas.List.Sums.{prefix_len_passes}
use Rattle.std.proofs.Math.Seq.{take-length}
use Rattle.units.specs.Blanks.{trimmed}
use Rattle.http_heads.specs.declared.parts.Separators.{Separators}
use Rattle.http_heads.specs.Lists.{separates, parts}

untrue : (b : Bool) → not b ≡ true → b ≡ false
untrue true e = sym e
untrue false e = refl

module _ (separators : Separators) (text : List ℕ) where
  -- before a separator stands one part, and behind it stand the others
  parts_more : position_or_len (separates separators) text < length text
      → parts separators text ≡ trimmed (before_first (separates separators) text) ∷ parts separators (after_first (separates separators) text)
  parts_more within = ap (map trimmed) (slice_split_first (separates separators) text 0 within)

  -- where no separator stands, the text is one part
  parts_last : position_or_len (separates separators) text ≡ length text → parts separators text ≡ trimmed text ∷ []
  parts_last whole =
      ap (map trimmed) (slice_split_none (separates separators) text
      (λ k d within. untrue (separates separators (get_or text k d)) (prefix_len_passes (λ byte. not (separates separators byte)) text k d (rw whole within))))

  -- the first part, and the text behind its separator, in the words of a place
  pub first_of_more : (place : ℕ) (part behind : List ℕ) → place ≡ position_or_len (separates separators) text
      → part ≡ trimmed (take place text) → behind ≡ drop (place + 1) text → place < length text
      → (parts separators text ≡ part ∷ parts separators behind) × (length behind < length text)
  first_of_more place part behind at is rest within =
      let inside : position_or_len (separates separators) text < length text = omega arith in
      let e : parts separators text ≡ trimmed (take place text) ∷ parts separators (drop (place + 1) text) = rw at (parts_more inside) in
      (e ∙ cc, rw (rest, length-drop) (omega arith))

  last_part : (place : ℕ) (part : List ℕ) → place ≡ length text → part ≡ trimmed (take place text) → part ≡ trimmed text
  last_part place part end is = let whole : take (length text) text ≡ text = take-length text in rw (← whole, ← end) is

  pub first_of_last : (place : ℕ) (part : List ℕ) → place ≡ position_or_len (separates separators) text
      → part ≡ trimmed (take place text) → place ≡ length text → parts separators text ≡ part ∷ []
  first_of_last place part at is end = parts_last (sym at ∙ end) ∙ ap (λ e. e ∷ []) (sym (last_part place part end is))
