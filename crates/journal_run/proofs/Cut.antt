-- A run between two of its stints.
use Rattle.std.proofs.Common.{◌≡◌, ℕ, List, [], ◌∷◌, ◌++◌, Option, refl, ◌∙◌, ap, subst}
use Rattle.std.specs.Io.KnownBytes.{Appends}
use Rattle.cache_law.specs.declared.call.Entry.{Entry}
use Rattle.cache_law.specs.declared.setting.Params.{Params}
use Rattle.cache_law.specs.State.{State}
use Rattle.cache_law.specs.Beginning.{Beginning}
use Rattle.cache_law.specs.History.{Legal, reached}
use Rattle.cache_law.specs.Bases.{AreAlike, IsClosed}
use Rattle.cache_law.specs.Segments.{GoesOn, from}
use Rattle.journal_writer.specs.Segments.{segment_text}
use Rattle.journal_writer.specs.declared.closing.Closing.TheVariants.{Cut as Further}
use Rattle.journal_writer.specs.declared.error.JournalError.{JournalError}
use Rattle.journal_run.specs.Gains.{Closes, Gains, cut_text}
use Rattle.journal_run.specs.Spans.{AreDone, HasRun, IsCutOff, IsLast}
use Rattle.journal_run.proofs.Stints.{done_then}
use Rattle.journal_run.proofs.Texts.{appends_none, cut_then}

-- these segments were made and cut off, and the next stint begins so
pub record HasCut {S : Type 0} (does : S → S → Beginning → List Entry → Type 0) (params : Params) (begun : State) (old now : S) (held held' : Option (List ℕ)) (beginning : Beginning) : Type 0 where
  pub segments : List (List Entry)
  pub same : beginning.params ≡ params
  pub done : AreDone does params begun old segments beginning.base now
  pub goes_on : GoesOn params begun segments beginning.base
  pub cut : Appends held held' (cut_text segments)

-- where segments go on from a base, they go on with what is legal from it
abbrev pub MoreGoOn : Type 0
MoreGoOn = (params : Params) (first base next : State) (segments : List (List Entry)) (entries : List Entry) → GoesOn params first segments base → Legal (from params base) entries
    → IsClosed (reached (from params base) entries) → AreAlike next (reached (from params base) entries) → GoesOn params first (segments ++ entries ∷ []) next

begins_so : (beginning : Beginning) (params : Params) → beginning.params ≡ params → beginning ≡ from params beginning.base
begins_so beginning params same = ap (λ (others : Params). from others beginning.base) same

pub cut_none : {S : Type 0} (does : S → S → Beginning → List Entry → Type 0) (beginning : Beginning) (old : S) (held : Option (List ℕ)) → GoesOn beginning.params beginning.base [] beginning.base
    → HasCut does beginning.params beginning.base old old held held beginning
cut_none does beginning old held goes_on = record { segments = []; same = refl; done = (refl, refl); goes_on = goes_on; cut = appends_none held }

pub cut_more : {S : Type 0} (does : S → S → Beginning → List Entry → Type 0) (params : Params) (begun : State) (old now new : S) (one two three : Option (List ℕ)) (beginning next : Beginning)
    (segment : List Entry) → MoreGoOn → HasCut does params begun old now one two beginning → IsCutOff does beginning now new segment next.base → next.params ≡ beginning.params
    → Appends two three (segment_text segment Further) → HasCut does params begun old new one three next
cut_more does params begun old now new one two three beginning next segment law before off same written =
    let off' = subst (λ (b : Beginning). IsCutOff does b now new segment next.base) (begins_so beginning params before.same) off in
    record {
      segments = before.segments ++ segment ∷ [];
      same = same ∙ before.same;
      done = done_then does params begun old before.segments beginning.base now segment next.base new before.done off';
      goes_on = law params begun beginning.base next.base before.segments segment before.goes_on off'.legal off'.closed off'.alike;
      cut = cut_then one two three before.segments segment before.cut written;
    }

pub cut_last : {S : Type 0} (does : S → S → Beginning → List Entry → Type 0) (params : Params) (begun : State) (old now new : S) (one two three : Option (List ℕ)) (beginning : Beginning)
    (history : List Entry) (unwritten : Option JournalError) → HasCut does params begun old now one two beginning → IsLast does beginning now new history → Closes two three history unwritten
    → (segments : List (List Entry)) × HasRun does params begun old new segments history × Gains one three segments history unwritten
cut_last does params begun old now new one two three beginning history unwritten before last closes =
    let last' = subst (λ (b : Beginning). IsLast does b now new history) (begins_so beginning params before.same) last in (
      before.segments,
      record { base = beginning.base; mid = now; done = before.done; ended = last'.done; legal = last'.legal; segmented = before.goes_on.more history last'.legal },
      record { between = two; cut = before.cut; closed = closes },
    )
