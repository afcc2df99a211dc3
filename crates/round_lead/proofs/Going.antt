-- A round behind its Begin, up to where its End is wanted or it is cut short.
use Rattle.std.proofs.Common.{◌≡◌, ℕ, List, [], ◌∷◌, ◌++◌, Option, Some, refl, sym, subst}
use Rattle.wire.specs.Flow.{Flow}
use Rattle.wire.specs.Tapes.{Tape, Tells}
use Rattle.wire.specs.Telling.{LinkTold, DialerTold}
use Rattle.vcl_context.specs.declared.turn.Answer.{Answer}
use Rattle.vcl_runs.specs.Runs.{Ran}
use Rattle.cache_law.specs.declared.call.Call.TheVariants.{Begin, End}
use Rattle.cache_law.specs.declared.cache.StepError.{StepError}
use Rattle.cache_law.specs.declared.cache.StepError.TheVariants as step
use Rattle.shared_cache.specs.Sharing.{CallerKnows}
use Rattle.cache_law.specs.declared.cache.Told.{Told}
use Rattle.cache_law.specs.declared.rounds.Given.TheVariants as given
use Rattle.cache_law.specs.declared.rounds.Request.{Request}
use Rattle.round_task.specs.declared.place.Place.{Place}
use Rattle.round_task.specs.declared.want.Want.{Want}
use Rattle.round_task.specs.declared.want.Want.TheVariants.{Cache}
use Rattle.round_task.specs.Happened.{bytes_of}
use Rattle.round_task.specs.Rounds.{Wants}
use Rattle.round_task.specs.Standing.{StandsAt}
use Rattle.round_lead.specs.declared.cut.Cut.{Cut}
use Rattle.round_lead.specs.declared.cut.Cut.TheVariants.{HistoryFull, NoMemory, WriteFault}
use Rattle.vcl_runs.specs.Languages.{Language}
use Rattle.round_lead.specs.declared.keeping.Progress.{Progress}
use Rattle.connection.specs.declared.ended.Answered.TheVariants as answered
use Rattle.round_lead.specs.Endings.{answered_of, cut_by}
use Rattle.round_lead.specs.Leading.{Begins, BeginRefused, Declined}
use Rattle.round_lead.specs.Steps.{At, RefusedFor, Makes, Declines}
use Rattle.round_lead.specs.Tapes.{ToldIn}
use Rattle.round_lead.specs.Things.{called, text_told}
use Rattle.round_lead.specs.Onward.{Goes, Stops, Whole, Cuts}
use Rattle.round_lead.proofs.Told.{Went-told, ToldIn-now}
use Rattle.round_lead.proofs.Did.{at, did_then, did_draw, did_call, did_decline}
use Rattle.round_lead.proofs.Onward.{drawn_now}

module _ {P L M : Type 0} (language : Language P) (heard : L → LinkTold) (stands : M → Ran → Type 0) (fits : M → Answer → Type 0) (request : Request) (peer : List ℕ) (told : Told)
    (program : P) (place : Place M) (first : Want) (x y : At L) (words : Option Tape) (word : ℕ) (drew : Tells x.words words word) (ran : language.programs (text_told told.reply) program) where
  -- memory was wanting for its first want
  pub cut_at_once : Cuts language heard request peer told x (record x { words = words }) NoMemory
  cut_at_once = record {
    program = program;
    ran = ran;
    steps = [];
    extra = [];
    part = [];
    did = did_draw heard (language.backends program) x words (Went-told x.words words word drew);
    so = λ since earlier. (tt, (refl, tt));
  }

  module _ (there : StandsAt (language.evaluator program) stands fits request peer (given.Reply told ∷ []) place)
      (wants : Wants (language.evaluator program) (Some word) request peer (given.Reply told ∷ []) first) where
    pub whole_from : (last : Place M) → Goes (language.evaluator program) stands fits heard (language.backends program) place first (record x { words = words }) y last (Cache End)
        → Whole language heard request peer told x y
    whole_from last goes = record {
      program = program;
      ran = ran;
      steps = goes.steps;
      did = did_then heard (language.backends program) x (record x { words = words }) y [] goes.steps [] (bytes_of goes.steps)
          (did_draw heard (language.backends program) x words (Went-told x.words words word drew)) goes.did;
      runs = λ since earlier.
          let on = goes.carries request peer (given.Reply told ∷ []) since (record { there = there; wants = (Some word, drawn_now since x.words words word earlier drew, wants) }) in
          (on.0, on.1.wants);
    }

    pub cuts_from : (cut : Cut) → Stops (language.evaluator program) stands fits heard (language.backends program) place first (record x { words = words }) y cut
        → Cuts language heard request peer told x y cut
    cuts_from cut stops = record {
      program = program;
      ran = ran;
      steps = stops.steps;
      extra = stops.extra;
      part = stops.part;
      did = did_then heard (language.backends program) x (record x { words = words }) y [] (stops.steps ++ stops.extra) [] (bytes_of stops.steps ++ stops.part)
          (did_draw heard (language.backends program) x words (Went-told x.words words word drew)) stops.did;
      so = λ since earlier.
          stops.so request peer (given.Reply told ∷ []) since (record { there = there; wants = (Some word, drawn_now since x.words words word earlier drew, wants) });
    }

-- ---- its Begin

-- a Begin that made no entry isn't told as a failed write
pub begin_unwritten : {L : Type 0} → (heard : L → LinkTold) (x y : At L) (cut : Cut) → answered_of cut ≡ answered.WriteFault → BeginRefused heard x y cut → ⊥
begin_unwritten heard x y NoMemory is why = cc
begin_unwritten heard x y HistoryFull is why = cc
begin_unwritten heard x y WriteFault is why = why

module _ {L : Type 0} (heard : L → LinkTold) (over : Option Flow) (dialer : DialerTold L) (k k' : CallerKnows) (reads reads' words drawn words' : Option Tape) (p p' : Progress) (word : ℕ)
    (drew : Tells words drawn word) (undrawn : words' ≡ drawn) where
  pub begins : (told : Told) → Makes k k' reads reads' p p' Begin told → Begins heard (at k over reads words dialer p) (at k' over reads' words' dialer p') told
  begins told made = record {
    first = word;
    drawn = subst (λ (w : Option Tape). ToldIn words w word) (sym undrawn) (ToldIn-now words drawn word drew);
    did = λ backends.
        did_then heard backends (at k over reads words dialer p) (at k over reads drawn dialer p) (at k' over reads' words' dialer p') [] (called Begin told ∷ []) [] []
        (did_draw heard backends (at k over reads words dialer p) drawn (Went-told words drawn word drew))
        (did_call heard backends over dialer k k' reads reads' drawn words' p p' Begin told undrawn made);
  }

  pub begin_declined : (error : StepError) → Declines k k' reads reads' p p' Begin error → Declined heard (at k over reads words dialer p) (at k' over reads' words' dialer p') (cut_by error)
  begin_declined error made = record {
    did = λ backends.
        did_then heard backends (at k over reads words dialer p) (at k over reads drawn dialer p) (at k' over reads' words' dialer p') [] [] [] []
        (did_draw heard backends (at k over reads words dialer p) drawn (Went-told words drawn word drew))
        (did_decline heard backends over dialer k k' reads reads' drawn words' p p' Begin error undrawn made);
    why = by error made.why;
  }
    where
      by : (error : StepError) → RefusedFor error k' reads reads' Begin → BeginRefused heard (at k over reads words dialer p) (at k' over reads' words' dialer p') (cut_by error)
      by step.HistoryFull why = why
      by step.NoMemory why = tt
      by step.SegmentFull why = absurd why
