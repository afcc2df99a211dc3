-- What stands between blanks, piece by piece.
use Rattle.std.proofs.Common.{◌≡◌, ◌∙◌, ap, sym, refl, ℕ, ◌<◌, ◌+◌, Bool, true, false, not, List, [], ◌∷◌, length, get_or, take, drop, length-drop, arith}
use Rattle.std.specs.List.{position_or_len, before_first, after_first}
use Rattle.std.proofs.lemmas.List.Splits.{slice_split_first, slice_split_none}
use Rattle.std.proofs.lemmas.List.Sums.{prefix_len_passes}
use Rattle.std.proofs.Math.Seq.{take-length}
use Rattle.client_task.specs.BanWords.{is_blank, pieces}

untrue : (b : Bool) → not b ≡ true → b ≡ false
untrue true e = sym e
untrue false e = refl

module _ (text : List ℕ) where
  -- before a blank stands one piece, and behind it stand the others
  pieces_more : position_or_len is_blank text < length text → pieces text ≡ before_first is_blank text ∷ pieces (after_first is_blank text)
  pieces_more within = slice_split_first is_blank text 0 within

  -- where no blank stands, the text is one piece
  pieces_last : position_or_len is_blank text ≡ length text → pieces text ≡ text ∷ []
  pieces_last whole =
      slice_split_none is_blank text
      (λ k d within. untrue (is_blank (get_or text k d)) (prefix_len_passes (λ byte. not (is_blank byte)) text k d (rw whole within)))

  pub first_of_more : (place : ℕ) (piece behind : List ℕ) → place ≡ position_or_len is_blank text → piece ≡ take place text
      → behind ≡ drop (place + 1) text → place < length text → (pieces text ≡ piece ∷ pieces behind) × (length behind < length text)
  first_of_more place piece behind at is rest within =
      let inside : position_or_len is_blank text < length text = omega arith in
      let e : pieces text ≡ take place text ∷ pieces (drop (place + 1) text) = rw at (pieces_more inside) in
      (e ∙ cc, rw (rest, length-drop) (omega arith))

  last_piece : (place : ℕ) (piece : List ℕ) → place ≡ length text → piece ≡ take place text → piece ≡ text
  last_piece place piece end is = let whole : take (length text) text ≡ text = take-length text in rw (← whole, ← end) is

  pub first_of_last : (place : ℕ) (piece : List ℕ) → place ≡ position_or_len is_blank text → piece ≡ take place text → place ≡ length text
      → pieces text ≡ piece ∷ []
  first_of_last place piece at is end = pieces_last (sym at ∙ end) ∙ ap (λ e. e ∷ []) (sym (last_piece place piece end is))
