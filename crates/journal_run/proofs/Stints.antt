-- Stints, one behind another.
use Rattle.std.proofs.Common.{List, [], ◌∷◌, ◌++◌, refl, subst}
use Rattle.cache_law.specs.declared.call.Entry.{Entry}
use Rattle.cache_law.specs.declared.setting.Params.{Params}
use Rattle.cache_law.specs.State.{State}
use Rattle.cache_law.specs.Beginning.{Beginning}
use Rattle.cache_law.specs.Segments.{from}
use Rattle.journal_run.specs.Spans.{AreDone, IsCutOff}

pub done_then : {S : Type 0} (does : S → S → Beginning → List Entry → Type 0) (params : Params) (begun : State) (old : S) (segments : List (List Entry)) (base : State) (mid : S)
    (segment : List Entry) (next : State) (new : S) → AreDone does params begun old segments base mid → IsCutOff does (from params base) mid new segment next
    → AreDone does params begun old (segments ++ segment ∷ []) next new
done_then {S} does params begun old [] base mid segment next new done one = (
  new,
  next,
  subst (λ (state : State). IsCutOff does (from params state) old new segment next) done.0
      (subst (λ (who : S). IsCutOff does (from params base) who new segment next) done.1 one),
  (refl, refl),
)
done_then does params begun old (first ∷ segments) base mid segment next new done one = (
  done.0,
  done.1,
  done.2,
  done_then does params done.1 done.0 segments base mid segment next new done.3 one,
)
