-- What a journal gains, put one behind another.
use Rattle.std.proofs.Common.{◌≡◌, ℕ, List, [], ◌∷◌, ◌++◌, Option, Some, None, sym, ◌∙◌, ap, subst, append_assoc}
use Rattle.std.proofs.lemmas.List.{append-nil}
use Rattle.std.specs.Io.KnownBytes.{Appends}
use Rattle.cache_law.specs.declared.call.Entry.{Entry}
use Rattle.cache_law.specs.declared.setting.Boot.{Boot}
use Rattle.cache_law.specs.declared.setting.Params.{Params}
use Rattle.journal_text.specs.Journals.{journal_text}
use Rattle.journal_writer.specs.Segments.{first_text, segment_text, segments_text}
use Rattle.journal_writer.specs.declared.closing.Closing.TheVariants.{Cut, Close}
use Rattle.journal_run.specs.Gains.{cut_text, whole_journal}

pub appends_none : (held : Option (List ℕ)) → Appends held held []
appends_none None = tt
appends_none (Some bytes) = sym (append-nil bytes)

pub appends_then : (one two three : Option (List ℕ)) (xs ys : List ℕ) → Appends one two xs → Appends two three ys → Appends one three (xs ++ ys)
appends_then None two three xs ys p q = tt
appends_then (Some a) None three xs ys p q = absurd p
appends_then (Some a) (Some b) None xs ys p q = absurd q
appends_then (Some a) (Some b) (Some c) xs ys p q = q ∙ (ap (λ (bytes : List ℕ). bytes ++ ys) p ∙ append_assoc a xs ys)

cut_text_then : (segments : List (List Entry)) (segment : List Entry) → cut_text (segments ++ segment ∷ []) ≡ cut_text segments ++ segment_text segment Cut
cut_text_then [] segment = append-nil (segment_text segment Cut)
cut_text_then (first ∷ segments) segment =
    ap (λ (text : List ℕ). segment_text first Cut ++ text) (cut_text_then segments segment) ∙ sym (append_assoc (segment_text first Cut) (cut_text segments) (segment_text segment Cut))

-- one segment more was cut
pub cut_then : (one two three : Option (List ℕ)) (segments : List (List Entry)) (segment : List Entry) → Appends one two (cut_text segments) → Appends two three (segment_text segment Cut)
    → Appends one three (cut_text (segments ++ segment ∷ []))
cut_then one two three segments segment p q =
    subst (λ (text : List ℕ). Appends one three text) (sym (cut_text_then segments segment)) (appends_then one two three _ _ p q)

split_text : (segment : List Entry) (segments : List (List Entry)) (last : List Entry)
    → segments_text segment (segments ++ last ∷ []) ≡ (segment_text segment Cut ++ cut_text segments) ++ segment_text last Close
split_text segment [] last = ap (λ (text : List ℕ). text ++ segment_text last Close) (sym (append-nil (segment_text segment Cut)))
split_text segment (next ∷ segments) last =
    ap (λ (text : List ℕ). segment_text segment Cut ++ text) (split_text next segments last)
    ∙ sym (append_assoc (segment_text segment Cut) (segment_text next Cut ++ cut_text segments) (segment_text last Close))

-- a journal by the segments that were cut and the last one
pub whole_text : (params : Params) (boot : Boot) (segments : List (List Entry)) (last : List Entry)
    → ((segment : List Entry) (others : List (List Entry)) → journal_text params boot segment others ≡ first_text params boot ++ segments_text segment others)
    → whole_journal params boot segments last ≡ first_text params boot ++ (cut_text segments ++ segment_text last Close)
whole_text params boot [] last is = is last []
whole_text params boot (segment ∷ segments) last is =
    is segment (segments ++ last ∷ []) ∙ ap (λ (text : List ℕ). first_text params boot ++ text) (split_text segment segments last)
