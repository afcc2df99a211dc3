-- The text of a journal, by its segments.
use Rattle.std.proofs.Common.{◌≡◌, ℕ, List, [], ◌∷◌, ◌++◌, refl, sym, ◌∙◌, ap, append_assoc}
use Rattle.std.proofs.lemmas.List.{append-nil}
use Rattle.cache_law.specs.declared.call.Entry.{Entry}
use Rattle.cache_law.specs.declared.setting.Boot.{Boot}
use Rattle.cache_law.specs.declared.setting.Params.{Params}
use Rattle.journal_text.specs.declared.line.Line.{Line}
use Rattle.journal_text.specs.declared.line.Line.TheVariants as line
use Rattle.journal_text.specs.Journals.{ended, entries_before, journal_text, lines_text, segments_lines}
use Rattle.journal_writer.specs.Segments.{entries_text, first_text, segments_text, text_of_entry}

entries_are : (lines : List Line) (entries : List Entry) → lines_text (entries_before lines entries) ≡ entries_text entries ++ lines_text lines
entries_are lines [] = refl
entries_are lines (entry ∷ entries) =
    ap (λ (t : List ℕ). text_of_entry entry ++ t) (entries_are lines entries) ∙ sym (append_assoc (text_of_entry entry) (entries_text entries) (lines_text lines))

segments_are : (entries : List Entry) (segments : List (List Entry)) → lines_text (segments_lines entries segments) ≡ segments_text entries segments
segments_are entries [] = entries_are (line.Close ∷ []) entries ∙ ap (λ (t : List ℕ). entries_text entries ++ t) (append-nil (ended line.Close))
segments_are entries (segment ∷ segments) =
    entries_are (line.Cut ∷ segments_lines segment segments) entries
    ∙ (ap (λ (t : List ℕ). entries_text entries ++ (ended line.Cut ++ t)) (segments_are segment segments) ∙ sym (append_assoc (entries_text entries) (ended line.Cut) (segments_text segment segments)))

pub journal_is : (params : Params) (boot : Boot) (segment : List Entry) (segments : List (List Entry))
    → journal_text params boot segment segments ≡ first_text params boot ++ segments_text segment segments
journal_is params boot segment segments = ap (λ (t : List ℕ). first_text params boot ++ t) (segments_are segment segments)
