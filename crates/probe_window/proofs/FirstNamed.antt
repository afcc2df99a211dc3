-- The first backend of a name, by its place.
use Rattle.std.proofs.Common.{◌≡◌, ℕ, zero, suc, ◌<◌, ◌≤◌, Bool, true, false, cond, List, [], ◌∷◌, length, get_or, set, refl, sym, ap, ◌∙◌, arith, slice_set, slice_index_or}
use Rattle.std.specs.Prelude.{Some, None, position, find}
use Rattle.std.specs.List.{position_or_len}
use Rattle.std.proofs.lemmas.List.Quantifiers.{position-Some}
use Rattle.std.proofs.lemmas.List.Sums.{fails_before_first}
use Rattle.std.proofs.lemmas.Grind.{common_steps}
use Rattle.probe_window.specs.declared.board.Watched.{Watched}
use Rattle.probe_window.specs.Boards.{is_named, changed}

module _ (name : List ℕ) (change : Watched → Watched) (d : Watched) where
  change_first : (board : List Watched) (i : ℕ) → i < length board → is_named name (get_or board i d) ≡ true → ((k : ℕ) → k < i → is_named name (get_or board k d) ≡ false)
      → (changed change name board ≡ set board i (change (get_or board i d))) × (find (is_named name) board ≡ Some (get_or board i d))
  change_first [] i l t f = absurd (omega arith)
  change_first (w ∷ board) zero l t f =
      (ap (λ b. cond b (change w ∷ board) (w ∷ changed change name board)) t, ap (λ b. cond b (Some w) (find (is_named name) board)) t)
  change_first (w ∷ board) (suc i) l t f =
      let other = f 0 (omega arith) in
      let more = change_first board i (omega arith) t (λ k m. f (suc k) (omega arith)) in (
        ap (λ b. cond b (change w ∷ board) (w ∷ changed change name board)) other ∙ ap (λ r. w ∷ r) more.0,
        ap (λ b. cond b (Some w) (find (is_named name) board)) other ∙ more.1,
      )

  pub changed_at : (board : List Watched) (i : ℕ) → position (is_named name) board ≡ Some i
      → (changed change name board ≡ set board i (change (get_or board i d))) × (find (is_named name) board ≡ Some (get_or board i d))
  changed_at board i e =
      let found = position-Some (is_named name) board i d e in
      change_first board i found.0 found.1 found.2

-- the place of the first one of a name has another one there that it is changed into
pub changed_there : (name : List ℕ) (change : Watched → Watched) (board items : List Watched) (i : ℕ) (old new : Watched)
    → board ≡ items → Some i ≡ position (is_named name) board → old ≡ slice_index_or items i old → new ≡ change old → slice_set items i new ≡ changed change name board
changed_there name change board items i old new v e o n =
    let there : old ≡ get_or board i old = o ∙ ap (λ (l : List Watched). get_or l i old) (sym v) in
    ap (λ (l : List Watched). set l i new) (sym v) ∙ (ap (set board i) (n ∙ ap change there) ∙ sym (changed_at name change old board i (sym e)).0)

pub found_there : (name : List ℕ) (board items : List Watched) (i : ℕ) (old : Watched)
    → board ≡ items → Some i ≡ position (is_named name) board → old ≡ slice_index_or items i old → find (is_named name) board ≡ Some old
found_there name board items i old v e o =
    let there : old ≡ get_or board i old = o ∙ ap (λ (l : List Watched). get_or l i old) (sym v) in
    (changed_at name (λ w. w) old board i (sym e)).1 ∙ ap Some (sym there)

module _ (name : List ℕ) (change : Watched → Watched) where
  none_named : (board : List Watched) → ((k : ℕ) (d : Watched) → k < length board → is_named name (get_or board k d) ≡ false)
      → (changed change name board ≡ board) × (find (is_named name) board ≡ None)
  none_named [] f = (refl, refl)
  none_named (w ∷ board) f =
      let other = f 0 w (omega arith) in
      let more = none_named board (λ k d l. f (suc k) d (omega arith)) in (
        ap (λ b. cond b (change w ∷ board) (w ∷ changed change name board)) other ∙ ap (λ r. w ∷ r) more.0,
        ap (λ b. cond b (Some w) (find (is_named name) board)) other ∙ more.1,
      )

  pub unchanged : (board : List Watched) → position (is_named name) board ≡ None → (changed change name board ≡ board) × (find (is_named name) board ≡ None)
  unchanged board e =
      let past : length board ≤ position_or_len (is_named name) board = grind (arith, common_steps) in
      none_named board (λ k d l. fails_before_first (is_named name) board k d (omega arith))

one_same : (name : List ℕ) (change : Watched → Watched) (w : Watched) (rest : List Watched) (b : Bool) → change w ≡ w → changed change name rest ≡ rest
    → cond b (change w ∷ rest) (w ∷ changed change name rest) ≡ w ∷ rest
one_same name change w rest true h more = ap (λ x. x ∷ rest) h
one_same name change w rest false h more = ap (λ r. w ∷ r) more

pub same : (name : List ℕ) (change : Watched → Watched) → ((w : Watched) → change w ≡ w) → (board : List Watched) → changed change name board ≡ board
same name change h [] = refl
same name change h (w ∷ board) = one_same name change w board (is_named name w) (h w) (same name change h board)
