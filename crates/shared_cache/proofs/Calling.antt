-- What a call in a turn does to what its pass knows.
use Rattle.std.proofs.Common.{◌≡◌, ℕ, ◌+◌, true, List, [], ◌∷◌, ◌++◌, length, map, Option, Some, false, Result, Ok, Err, refl, sym, ap, ◌∙◌, subst}
use Rattle.std.specs.Result.{IfOk, OnErr, IsErrOf, MatchResult}
use Rattle.std.proofs.lemmas.List.{map-append}
use Rattle.cache_law.specs.declared.call.Call.{Call}
use Rattle.cache_law.specs.declared.call.Entry.{Entry}
use Rattle.cache_law.specs.declared.cache.Told.{Told}
use Rattle.cache_law.specs.declared.cache.StepError.{StepError}
use Rattle.cache_law.specs.declared.cache.StepError.TheVariants.{HistoryFull, NoMemory, SegmentFull}
use Rattle.cache_law.specs.Beginning.{Beginning}
use Rattle.cache_law.specs.Core.{Entered, FitsBehind, entry_of, is_kept, is_segment_full, moment_of}
use Rattle.cache_law.specs.History.{reached}
use Rattle.turnstile.specs.Knowledge.{GainsPlaces, Grown, Meets, mine, saw}
use Rattle.shared_cache.specs.Sharing.{CallerKnows, Called, Cause, Declined, EnteredInRun, caller_of, made_before, numbers, within}
use Rattle.shared_cache.proofs.Numbers.{before_is, numbers_are}

module _ (k : CallerKnows) (old new : List Entry) (meets : Meets caller_of k old) (gains : GainsPlaces caller_of (saw k old) (saw k new)) where
  numbers_more : (entry : Entry) → new ≡ old ++ entry ∷ [] → numbers (saw k new) ≡ numbers k ++ (made_before k + length old) ∷ []
  numbers_more entry joined =
      let more : mine caller_of (saw k new) ≡ mine caller_of k ++ length old ∷ [] =
      gains.one_more entry joined ∙ ap (λ (places : List ℕ). places ++ length old ∷ []) meets.mine in
      numbers_are (saw k new)
      ∙ (ap (λ (places : List ℕ). map (λ place. made_before k + place) places) more
      ∙ (map-append (λ place. made_before k + place) (mine caller_of k) (length old ∷ [])
      ∙ ap (λ (places : List ℕ). places ++ (made_before k + length old) ∷ []) (sym (numbers_are k))))

  numbers_same : new ≡ old → numbers (saw k new) ≡ numbers k
  numbers_same same =
      numbers_are (saw k new) ∙ (ap (λ (places : List ℕ). map (λ place. made_before k + place) places) (gains.same same ∙ meets.mine) ∙ sym (numbers_are k))

  module _ (beginning : Beginning) (begins : k.setting ≡ Some beginning) (whole : beginning.params.segments ≡ false) (reading : ℕ) (call : Call) where
    called : (told : Told) → EnteredInRun beginning old new k.number reading call told → Called k (saw k new) reading call told
    called told made = record {
      beginning = beginning;
      begins = begins;
      between = meets.grown.0;
      others = meets.grown.2;
      entered = subst (λ (h : List Entry). Entered beginning h new k.number reading call (within beginning told)) meets.grown.1 made.entered;
      place = made.place ∙ ap (λ (h : List Entry). beginning.base.entries + length h) meets.grown.1;
      gained = numbers_more (entry_of k.number call (within beginning told)) made.entered.joined
          ∙ ap (λ (place : ℕ). numbers k ++ place ∷ []) (ap (λ (from : ℕ). from + length old) (before_is k beginning begins) ∙ sym made.place);
    }

    cause : (error : StepError) → (error ≡ SegmentFull → is_segment_full beginning.params (reached beginning old) old k.number call ≡ true)
        → (error ≡ HistoryFull → ¬ FitsBehind beginning old k.number (moment_of beginning old reading) call)
        → (is_kept (reached beginning old) k.number call ≡ true → error ≡ NoMemory → ⊥) → Cause beginning old k.number reading call error
    cause SegmentFull segment full kept = segment refl
    cause HistoryFull segment full kept = full refl
    cause NoMemory segment full kept = λ is. kept is refl

    declined : (error : StepError) → new ≡ old → Cause beginning old k.number reading call error → Declined k (saw k new) reading call error
    declined error same why = record {
      beginning = beginning;
      begins = begins;
      grown = subst (λ (h : List Entry). Grown caller_of k h) (sym same) meets.grown;
      same = numbers_same same;
      unsegmented = whole;
      cause = subst (λ (h : List Entry). Cause beginning h k.number reading call error) (sym same) why;
    }

    answered : (result : Result Told StepError) → IfOk result (EnteredInRun beginning old new k.number reading call)
        → (IsErrOf result SegmentFull → is_segment_full beginning.params (reached beginning old) old k.number call ≡ true)
        → (IsErrOf result HistoryFull → ¬ FitsBehind beginning old k.number (moment_of beginning old reading) call)
        → (is_kept (reached beginning old) k.number call ≡ true → IsErrOf result NoMemory → ⊥) → OnErr result (new ≡ old)
        → MatchResult result (Called k (saw k new) reading call) (Declined k (saw k new) reading call)
    answered (Ok told) made segment full kept same = called told made
    answered (Err error) made segment full kept same =
        declined error same (cause error (λ is. segment (ap (λ (e : StepError). Err e) is)) (λ is. full (ap (λ (e : StepError). Err e) is))
        (λ keeps is. kept keeps (ap (λ (e : StepError). Err e) is)))

-- the same, of a pass that had the turn and gave it back
pub answered_so : (k held after : CallerKnows) (old new : List Entry) (beginning : Beginning) (reading : ℕ) (call : Call) (result : Result Told StepError)
    → held ≡ saw k old → after ≡ saw held new → Meets caller_of k old → GainsPlaces caller_of held after → k.setting ≡ Some beginning
    → beginning.params.segments ≡ false → IfOk result (EnteredInRun beginning old new k.number reading call)
    → (IsErrOf result SegmentFull → is_segment_full beginning.params (reached beginning old) old k.number call ≡ true)
    → (IsErrOf result HistoryFull → ¬ FitsBehind beginning old k.number (moment_of beginning old reading) call)
    → (is_kept (reached beginning old) k.number call ≡ true → IsErrOf result NoMemory → ⊥) → OnErr result (new ≡ old)
    → MatchResult result (Called k after reading call) (Declined k after reading call)
answered_so k held after old new beginning reading call result took gave meets gains begins whole made segment full kept same =
    let is : after ≡ saw k new = gave ∙ ap (λ (z : CallerKnows). saw z new) took in
    let so : GainsPlaces caller_of (saw k old) (saw k new) =
    subst (λ (z : CallerKnows). GainsPlaces caller_of (saw k old) z) is (subst (λ (z : CallerKnows). GainsPlaces caller_of z after) took gains) in
    subst (λ (z : CallerKnows). MatchResult result (Called k z reading call) (Declined k z reading call)) (sym is)
    (answered k old new meets so beginning begins whole reading call result made segment full kept same)
