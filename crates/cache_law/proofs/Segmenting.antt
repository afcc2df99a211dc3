-- Where no segments are kept, no history is full as one.
use Rattle.std.proofs.Common.{◌≡◌, ℕ, Bool, true, false, List, sym, ◌∙◌, refl, subst}
use Rattle.std.specs.Prelude.{not, ◌&&◌, ◌/◌, nat_le, Err, IsErrOf}
use Rattle.std.proofs.lemmas.Bool.{false≢true}
use Rattle.cache_law.specs.declared.call.Call.{Call}
use Rattle.cache_law.specs.declared.call.Entry.{Entry}
use Rattle.cache_law.specs.declared.setting.Params.{Params}
use Rattle.cache_law.specs.declared.cache.Told.{Told}
use Rattle.cache_law.specs.declared.cache.StepError.{StepError}
use Rattle.cache_law.specs.declared.cache.StepError.TheVariants.{HistoryFull, NoMemory, SegmentFull}
use Rattle.cache_law.specs.State.{State, has_round}
use Rattle.cache_law.specs.History.{bytes_of_all}
use Rattle.cache_law.specs.Core.{is_closing, is_none, is_segment_full}

pub never_full : (params : Params) (state : State) (entries : List Entry) (caller : ℕ) (call : Call) → params.segments ≡ false → is_segment_full params state entries caller call ≡ false
never_full params state entries caller call unsegmented =
    subst (λ (b : Bool). (b && not (has_round state.rounds caller) && not (is_closing call) && not (is_none entries) && nat_le (params.history / 2) (bytes_of_all entries)) ≡ false) (sym unsegmented) refl

pub never_told : (params : Params) (state : State) (entries : List Entry) (caller : ℕ) (call : Call) (error : StepError) → params.segments ≡ false
    → (IsErrOf {T = Told} {E = StepError} (Err error) SegmentFull → is_segment_full params state entries caller call ≡ true) → error ≡ SegmentFull → ⊥
never_told params state entries caller call SegmentFull unsegmented full is = absurd (false≢true (sym (never_full params state entries caller call unsegmented) ∙ full refl))
never_told params state entries caller call HistoryFull unsegmented full is = absurd (cc)
never_told params state entries caller call NoMemory unsegmented full is = absurd (cc)
