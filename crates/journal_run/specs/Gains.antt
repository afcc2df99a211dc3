-- What a journal gains behind its first line.
use Rattle.std.specs.Prelude.{◌≡◌, ℕ, List, [], ◌∷◌, ◌++◌, Option, Some, None}
use Rattle.std.specs.Io.KnownBytes.{Appends}
use Rattle.cache_law.specs.declared.call.Entry.{Entry}
use Rattle.cache_law.specs.declared.setting.Boot.{Boot}
use Rattle.cache_law.specs.declared.setting.Params.{Params}
use Rattle.journal_text.specs.Journals.{journal_text}
use Rattle.journal_writer.specs.Segments.{segment_text}
use Rattle.journal_writer.specs.declared.closing.Closing.{Closing}
use Rattle.journal_writer.specs.declared.closing.Closing.TheVariants.{Cut, Close}
use Rattle.journal_writer.specs.declared.error.JournalError.{JournalError}

-- segments, each of which is cut off
abbrev pub cut_text : List (List Entry) → List ℕ
cut_text [] = []
cut_text (segment ∷ segments) = segment_text segment Cut ++ cut_text segments

-- a front of the last segment was written, and of the line that closes it
pub record StopsIn (held held' : Option (List ℕ)) (last : List Entry) : Type 0 where
  pub closing : Closing
  pub written : List ℕ
  pub lost : List ℕ
  pub holds : Appends held held' written
  pub whole : written ++ lost ≡ segment_text last closing

-- the last segment was written, with `close`; or, for this error, a front of it
abbrev pub Closes : Option (List ℕ) → Option (List ℕ) → List Entry → Option JournalError → Type 0
Closes held held' last None = Appends held held' (segment_text last Close)
Closes held held' last (Some error) = StopsIn held held' last

-- all segments but the last were written, and then the last one, as far as that went
pub record Gains (held held' : Option (List ℕ)) (segments : List (List Entry)) (last : List Entry) (unwritten : Option JournalError) : Type 0 where
  pub between : Option (List ℕ)
  pub cut : Appends held between (cut_text segments)
  pub closed : Closes between held' last unwritten

-- the journal of a run whose history has these segments and then this last one
abbrev pub whole_journal : Params → Boot → List (List Entry) → List Entry → List ℕ
whole_journal params boot [] last = journal_text params boot last []
whole_journal params boot (segment ∷ segments) last = journal_text params boot segment (segments ++ last ∷ [])
