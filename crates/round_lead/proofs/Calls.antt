-- A call that made no entry.
use Rattle.std.proofs.Common.{◌≡◌, ℕ, Option, ap, sym, ◌∙◌, subst}
use Rattle.std.proofs.lemmas.Bool.{false≢true}
use Rattle.wire.specs.Tapes.{Tape, Tells}
use Rattle.cache_law.specs.declared.call.Call.{Call}
use Rattle.cache_law.specs.declared.cache.StepError.{StepError}
use Rattle.cache_law.specs.declared.cache.StepError.TheVariants.{HistoryFull, NoMemory, SegmentFull}
use Rattle.cache_law.specs.Core.{FitsBehind, moment_of}
use Rattle.cache_law.specs.History.{reached}
use Rattle.cache_law.proofs.Segmenting.{never_full}
use Rattle.turnstile.specs.Knowledge.{saw}
use Rattle.shared_cache.specs.Sharing.{CallerKnows, Declined}
use Rattle.round_lead.specs.declared.keeping.Progress.{Progress}
use Rattle.round_lead.specs.Steps.{Declines, RefusedFor, SameRest}
use Rattle.round_lead.proofs.Told.{Went-none, Went-told, ToldIn-now}
use Rattle.round_lead.proofs.Seen.{called_none, none_called}

why_declined : (k after : CallerKnows) (reads reads' : Option Tape) (reading : ℕ) (call : Call) (error : StepError) → Tells reads reads' reading → after ≡ saw k after.seen
    → Declined k after reading call error → RefusedFor error after reads reads' call
why_declined k after reads reads' reading call HistoryFull told knows made =
    let number : after.number ≡ k.number = ap (λ (z : CallerKnows). z.number) knows in
    record {
      beginning = made.beginning;
      begins = ap (λ (z : CallerKnows). z.setting) knows ∙ made.begins;
      reading = reading;
      read = ToldIn-now reads reads' reading told;
      full = λ fits. made.cause (subst (λ (n : ℕ). FitsBehind made.beginning after.seen n (moment_of made.beginning after.seen reading) call) number fits);
    }
why_declined k after reads reads' reading call NoMemory told knows made = tt
why_declined k after reads reads' reading call SegmentFull told knows made = absurd (false≢true (sym (never_full made.beginning.params (reached made.beginning after.seen) after.seen k.number call made.unsegmented) ∙ made.cause))

pub declines : (k after : CallerKnows) (reads reads' : Option Tape) (p p' : Progress) (reading : ℕ) (call : Call) (error : StepError) → Tells reads reads' reading → after ≡ saw k after.seen
    → Declined k after reading call error → p'.numbers.items ≡ p.numbers.items → SameRest p p' → Declines k after reads reads' p p' call error
declines k after reads reads' p p' reading call error told knows made places rest = record {
  called = none_called k after reading call error knows made;
  went = Went-told reads reads' reading told;
  places_are = places;
  rest = rest;
  why = why_declined k after reads reads' reading call error told knows made;
}

-- a call that wasn't made, for want of memory
pub declines_unasked : (k : CallerKnows) (reads : Option Tape) (p p' : Progress) (call : Call) → p'.numbers.items ≡ p.numbers.items → SameRest p p' → Declines k k reads reads p p' call NoMemory
declines_unasked k reads p p' call places rest = record { called = called_none k; went = Went-none reads; places_are = places; rest = rest; why = tt }
