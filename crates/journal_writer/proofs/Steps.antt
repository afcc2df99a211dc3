-- The text of entries, by what a pass over them has taken.
use Rattle.std.proofs.Common.{◌≡◌, ℕ, zero, suc, List, [], ◌∷◌, ◌++◌, ◌+◌, ◌<◌, length, get_or, take, drop, refl, sym, ◌∙◌, ap, arith, add-one, append_assoc}
use Rattle.std.proofs.lemmas.List.{append-nil}
use Rattle.cache_law.specs.declared.call.Entry.{Entry}
use Rattle.journal_writer.specs.Segments.{entries_text, text_of_entry}

next : (entries : List Entry) (n : ℕ) (d : Entry) → n < length entries → entries_text (take (suc n) entries) ≡ entries_text (take n entries) ++ text_of_entry (get_or entries n d)
next [] n d h = absurd (omega arith)
next (entry ∷ entries) zero d h = append-nil (text_of_entry entry)
next (entry ∷ entries) (suc n) d h =
    ap (λ (t : List ℕ). text_of_entry entry ++ t) (next entries n d (omega arith))
    ∙ sym (append_assoc (text_of_entry entry) (entries_text (take n entries)) (text_of_entry (get_or entries n d)))

rest : (entries : List Entry) (n : ℕ) (d : Entry) → n < length entries
    → entries_text entries ≡ entries_text (take n entries) ++ (text_of_entry (get_or entries n d) ++ entries_text (drop (suc n) entries))
rest [] n d h = absurd (omega arith)
rest (entry ∷ entries) zero d h = refl
rest (entry ∷ entries) (suc n) d h =
    ap (λ (t : List ℕ). text_of_entry entry ++ t) (rest entries n d (omega arith))
    ∙ sym (append_assoc (text_of_entry entry) (entries_text (take n entries)) (text_of_entry (get_or entries n d) ++ entries_text (drop (suc n) entries)))

-- one entry more is taken
pub one_more : (entries : List Entry) (n : ℕ) (x : Entry) → n < length entries → x ≡ get_or entries n x → entries_text (take n entries) ++ text_of_entry x ≡ entries_text (take (n + 1) entries)
one_more entries n x below at_ =
    ap (λ (entry : Entry). entries_text (take n entries) ++ text_of_entry entry) at_
    ∙ (sym (next entries n x below) ∙ ap (λ (k : ℕ). entries_text (take k entries)) (sym (add-one n)))

-- what was taken, the next entry and those behind it are all
pub all_of : (entries : List Entry) (n : ℕ) (x : Entry) → n < length entries → x ≡ get_or entries n x
    → entries_text (take n entries) ++ (text_of_entry x ++ entries_text (drop (suc n) entries)) ≡ entries_text entries
all_of entries n x below at_ =
    ap (λ (entry : Entry). entries_text (take n entries) ++ (text_of_entry entry ++ entries_text (drop (suc n) entries))) at_ ∙ sym (rest entries n x below)
