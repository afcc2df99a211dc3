-- Turns in which nothing is entered.
use Rattle.std.proofs.Common.{◌≡◌, ℕ, ◌+◌, List, ◌++◌, map, Option, Some, refl, sym, ap, ◌∙◌, subst}
use Rattle.std.specs.Option.{option_map_or}
use Rattle.cache_law.specs.declared.call.Entry.{Entry}
use Rattle.cache_law.specs.Beginning.{Beginning}
use Rattle.turnstile.specs.Knowledge.{Meets, saw}
use Rattle.turnstile.proofs.Places.{meets_later}
use Rattle.ban_lurker.specs.declared.chore.Verdict.{Verdict}
use Rattle.ban_lurker.specs.Verdicts.{IsVerdictOf}
use Rattle.ban_lurker.proofs.Staying.{verdict_stays}
use Rattle.shared_cache.specs.Sharing.{CallerKnows, caller_of, made_before, numbers}
use Rattle.shared_cache.specs.Lurking.{HasTurned, SeesVerdict}
use Rattle.shared_cache.proofs.Numbers.{numbers_are}

-- two turns behind one another
pub turned_twice : (k now after : CallerKnows) → HasTurned k now → HasTurned now after → HasTurned k after
turned_twice k now after one two = record {
  knows = two.knows ∙ ap (λ (z : CallerKnows). saw z after.seen) one.knows;
  meets = meets_later caller_of k now after.seen one.knows one.meets.grown two.meets;
}

pub numbers_turned : (k after : CallerKnows) → HasTurned k after → numbers after ≡ numbers k
numbers_turned k after turned =
    ap (λ (z : CallerKnows). numbers z) turned.knows
    ∙ (numbers_are (saw k after.seen)
    ∙ (ap (λ (places : List ℕ). map (λ place. made_before k + place) places) turned.meets.mine ∙ sym (numbers_are k)))

-- the verdict is of the history that the pass finds in its turn
pub verdict_met : (k : CallerKnows) (history : List Entry) (beginning : Beginning) (verdict : Verdict) → SeesVerdict verdict k → Meets caller_of k history
    → k.setting ≡ Some beginning → IsVerdictOf beginning history verdict
verdict_met k history beginning verdict sees meets begins =
    let same : sees.beginning ≡ beginning = ap (λ (found : Option Beginning). option_map_or (λ (b : Beginning). b) found beginning) (sym sees.begins ∙ begins) in
    subst (λ (b : Beginning). IsVerdictOf b history verdict) same
    (subst (λ (l : List Entry). IsVerdictOf sees.beginning l verdict) (sym meets.grown.1) (verdict_stays sees.beginning k.seen meets.grown.0 verdict sees.of_history))

pub verdict_seen : (k held after : CallerKnows) (history : List Entry) (beginning : Beginning) (verdict : Verdict) → held ≡ saw k history → after ≡ held
    → k.setting ≡ Some beginning → IsVerdictOf beginning history verdict → SeesVerdict verdict after
verdict_seen k held after history beginning verdict took back begins of_history =
    let is : after ≡ saw k history = back ∙ took in record {
      beginning = beginning;
      begins = ap (λ (z : CallerKnows). z.setting) is ∙ begins;
      of_history = subst (λ (l : List Entry). IsVerdictOf beginning l verdict) (sym (ap (λ (z : CallerKnows). z.seen) is)) of_history;
    }
