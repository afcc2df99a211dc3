-- A run, by its stints.
use Rattle.std.proofs.Common.{◌≡◌, ℕ, List, [], ◌∷◌, ◌++◌, map, refl, sym, ap, subst}
use Rattle.std.proofs.lemmas.List.{append-nil}
use Rattle.cache_law.specs.declared.call.Entry.{Entry}
use Rattle.cache_law.specs.declared.setting.Params.{Params}
use Rattle.cache_law.specs.State.{State}
use Rattle.cache_law.specs.Beginning.{Beginning}
use Rattle.cache_law.specs.History.{Legal, reached}
use Rattle.cache_law.specs.Segments.{from}
use Rattle.journal_run.specs.Spans.{AreDone, HasRun, IsCutOff}
use Rattle.journal_run.proofs.Counts.{entries_of_alike}
use Rattle.segment_laws.specs.Lives.{AreSpans, EachOnce, HaveLived, HaveWorked, IsOneRun, Reopens, Span, Stand, entries_of}
use Rattle.segment_laws.proofs.Counting.{alone, numbers_alone, numbers_of, once_alike, once_then, part_numbers, put_before, times_before}
use Rattle.segment_laws.proofs.Lives.{all_lived_more, all_lived_one}

begins_at : (params : Params) (base : State) (span : Span) (spans : List Span) → AreSpans params base (span ∷ spans) → span.beginning ≡ from params base
begins_at params base span [] are = are.0
begins_at params base span (next ∷ spans) are = are.0

-- a segment, and those behind it from where the cache was reopened
spans_more : (params : Params) (begun next : State) (segment : List Entry) (spans : List Span) → Legal (from params begun) segment
    → Reopens (reached (from params begun) segment) next → AreSpans params next spans → AreSpans params begun (record { beginning = from params begun; entries = segment } ∷ spans)
spans_more params begun next segment [] legal reopens are = (refl, legal)
spans_more params begun next segment (span ∷ spans) legal reopens are =
    let base_is = ap (λ (beginning : Beginning). beginning.base) (begins_at params next span spans are) in (
      refl,
      legal,
      subst (λ (base : State). Reopens (reached (from params begun) segment) base) (sym base_is) reopens,
      subst (λ (base : State). AreSpans params base (span ∷ spans)) (sym base_is) are,
    )

module _ {N E T : Type 0} (Tells : N → N → List E → Type 0) (places_in : E → List ℕ) (Waits : T → T → Type 0) (Steps : T → E → T → Type 0)
    (Holds : Beginning → List Entry → ℕ → List E → Type 0) where
  -- what callers do over these segments
  pub record AreRun (params : Params) (begun : State) (olds news : List (Stand N T)) (segments : List (List Entry)) : Type 0 where
    pub spans : List Span
    pub are_spans : AreSpans params begun spans
    pub entries : map (λ span. span.entries) spans ≡ segments
    pub lives : List (List (List E))
    pub lived : HaveLived Tells places_in Waits Steps Holds begun.entries spans olds news lives
    pub each_once : EachOnce begun.entries (entries_of spans) (numbers_of places_in lives)

  run_one : (params : Params) (base : State) (olds news : List (Stand N T)) (last : List Entry) → HaveWorked Tells places_in Waits Steps Holds olds news (from params base) last
      → Legal (from params base) last → AreRun params base olds news (last ∷ [])
  run_one params base olds news last worked legal =
      let once = subst (λ (ns : List ℕ). EachOnce base.entries last ns) (numbers_alone places_in worked.parts) worked.each_once in
      record {
        spans = record { beginning = from params base; entries = last } ∷ [];
        are_spans = (refl, legal);
        entries = refl;
        lives = alone places_in worked.parts;
        lived = all_lived_one Tells places_in Waits Steps Holds (record { beginning = from params base; entries = last }) olds news worked.parts worked.have;
        each_once = subst (λ (entries : List Entry). EachOnce base.entries entries (numbers_of places_in (alone places_in worked.parts))) (sym (append-nil last)) once;
      }

module _ {N E T : Type 0} (Tells : N → N → List E → Type 0) (places_in : E → List ℕ) (Waits : T → T → Type 0) (Steps : T → E → T → Type 0)
    (Holds : Beginning → List Entry → ℕ → List E → Type 0)
    (tells_then : (before mid after : N) (events others : List E) → Tells before mid events → Tells mid after others → Tells before after (events ++ others))
    (waits_then : (before mid after : T) → Waits before mid → Waits mid after → Waits before after)
    (steps_later : (before mid after : T) (event : E) → Waits before mid → Steps mid event after → Steps before event after) where
  run_more : (params : Params) (begun next : State) (olds mids news : List (Stand N T)) (segment : List Entry) (segments : List (List Entry))
      → IsCutOff (HaveWorked Tells places_in Waits Steps Holds) (from params begun) olds mids segment next → AreRun Tells places_in Waits Steps Holds params next mids news segments
      → AreRun Tells places_in Waits Steps Holds params begun olds news (segment ∷ segments)
  run_more params begun next olds mids news segment segments off later =
      let span : Span = record { beginning = from params begun; entries = segment } in
      let counts = entries_of_alike (from params begun) segment next off.alike in
      let parts = off.done.parts in
      let lived = subst (λ (before : ℕ). HaveLived Tells places_in Waits Steps Holds before later.spans mids news later.lives) counts later.lived in
      let both = all_lived_more Tells places_in Waits Steps Holds tells_then waits_then steps_later span later.spans olds mids parts news later.lives off.done.have lived in
      let behind = subst (λ (before : ℕ). EachOnce before (entries_of later.spans) (numbers_of places_in later.lives)) counts later.each_once in
      let once = once_then begun.entries segment (entries_of later.spans) (part_numbers places_in parts) (numbers_of places_in later.lives) off.done.each_once behind in
      record {
        spans = span ∷ later.spans;
        are_spans = spans_more params begun next segment later.spans off.legal (record { closed = off.closed; is_base = off.is_base; alike = off.alike }) later.are_spans;
        entries = ap (λ (others : List (List Entry)). segment ∷ others) later.entries;
        lives = put_before places_in parts later.lives;
        lived = both.0;
        each_once = once_alike begun.entries (segment ++ entries_of later.spans) (part_numbers places_in parts ++ numbers_of places_in later.lives)
            (numbers_of places_in (put_before places_in parts later.lives)) (λ k. times_before places_in k parts later.lives both.1) once;
      }

  run_of : (params : Params) (segments : List (List Entry)) (begun base : State) (olds mids news : List (Stand N T)) (last : List Entry)
      → AreDone (HaveWorked Tells places_in Waits Steps Holds) params begun olds segments base mids → HaveWorked Tells places_in Waits Steps Holds mids news (from params base) last
      → Legal (from params base) last → AreRun Tells places_in Waits Steps Holds params begun olds news (segments ++ last ∷ [])
  run_of params [] begun base olds mids news last done worked legal =
      subst (λ (state : State). AreRun Tells places_in Waits Steps Holds params state olds news (last ∷ [])) done.0
      (subst (λ (who : List (Stand N T)). AreRun Tells places_in Waits Steps Holds params base who news (last ∷ [])) done.1
      (run_one Tells places_in Waits Steps Holds params base mids news last worked legal))
  run_of params (segment ∷ segments) begun base olds mids news last done worked legal =
      run_more params begun done.1 olds done.0 news segment (segments ++ last ∷ []) done.2 (run_of params segments done.1 base done.0 mids news last done.3 worked legal)

  pub one_run : (params : Params) (begun : State) (olds news : List (Stand N T)) (segments : List (List Entry)) (last : List Entry)
      → HasRun (HaveWorked Tells places_in Waits Steps Holds) params begun olds news segments last → IsOneRun Tells places_in Waits Steps Holds params begun olds news segments last
  one_run params begun olds news segments last ran =
      let run = run_of params segments begun ran.base olds ran.mid news last ran.done ran.ended ran.legal in
      record {
        segmented = ran.segmented;
        spans = run.spans;
        are_spans = run.are_spans;
        entries = run.entries;
        lives = run.lives;
        lived = run.lived;
        each_once = run.each_once;
      }
