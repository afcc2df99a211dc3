-- Two replies are shown alike where the texts of lines that say them are the same.
use Rattle.std.proofs.Common.{◌≡◌, Bool, true, false, List, [], ◌∷◌, ◌++◌, ℕ, sym, ap, ◌∙◌, refl, subst}
use Rattle.std.specs.Prelude.{IsTrue, ◌↔◌}
use Rattle.journal_text.specs.declared.line.Line.{Line}
use Rattle.journal_text.specs.declared.line.Line.TheVariants as line
use Rattle.journal_text.specs.declared.shown.Shown.{Shown}
use Rattle.journal_text.specs.Grammar.{line_words}
use Rattle.journal_text.specs.Journals.{IsLine, ended, text_of}
use Rattle.journal_text.specs.Words.{AreWords}
use Rattle.journal_reader.proofs.Feeds.{feeds_same, no_feed_in}
use Rattle.journal_reader.proofs.Unique.{line_same}
use Rattle.history_audit.specs.Saying.{line_saying}

abbrev says_of : Line → Shown → Shown
says_of (line.Entry said) other = said.reply
says_of one other = other

shown_same : (one other : Shown) → AreWords (line_words (line_saying one)) → AreWords (line_words (line_saying other)) → ended (line_saying one) ≡ ended (line_saying other) → one ≡ other
shown_same one other h k e =
    let texts = feeds_same (text_of (line_saying one)) (text_of (line_saying other)) [] [] (no_feed_in (line_saying one) h) (no_feed_in (line_saying other) k) e in
    let first : IsLine (text_of (line_saying one)) (line_saying one) = record { words = h; bans = tt; written = refl } in
    let second : IsLine (text_of (line_saying one)) (line_saying other) = record { words = k; bans = tt; written = texts.0 } in
    let same : line_saying one ≡ line_saying other = line_same (text_of (line_saying one)) (line_saying one) (line_saying other) first second in
    ap (λ (l : Line). says_of l one) same

pub told_same : (one other : Shown) (first second : List ℕ) (same : Bool) → AreWords (line_words (line_saying one)) → AreWords (line_words (line_saying other)) → first ≡ ended (line_saying one) → second ≡ ended (line_saying other)
    → ((same ≡ true) ↔ (first ≡ second)) → IsTrue same ↔ (one ≡ other)
told_same one other first second same h k e f told =
    ((λ yes_. shown_same one other h k (sym e ∙ (told.0 yes_ ∙ f))), λ is_. told.1 (e ∙ (ap (λ (s : Shown). ended (line_saying s)) is_ ∙ sym f)))
