-- How a round ended.
use Rattle.std.specs.Prelude.{Bool, true, false, Result, Ok, Err}
use Rattle.cache_law.specs.declared.cache.StepError.{StepError}
use Rattle.cache_law.specs.declared.cache.StepError.TheVariants as step
use Rattle.connection.specs.declared.ended.Answered.{Answered}
use Rattle.connection.specs.declared.ended.Answered.TheVariants as answered
use Rattle.round_lead.specs.declared.cut.Cut.{Cut}
use Rattle.round_lead.specs.declared.cut.Cut.TheVariants.{HistoryFull, NoMemory, WriteFault}

abbrev pub answered_of : Cut → Answered
answered_of NoMemory = answered.NoMemory
answered_of HistoryFull = answered.HistoryFull
answered_of WriteFault = answered.WriteFault

-- how a call that made no entry cuts a round short: no segment ends before a call, since none are kept
abbrev pub cut_by : StepError → Cut
cut_by step.HistoryFull = HistoryFull
cut_by step.NoMemory = NoMemory
cut_by step.SegmentFull = HistoryFull

-- of a round that was led to its End, or was cut short; and whether its response says that the connection closes
abbrev pub answered_so : {T : Type 0} → Result T Cut → Bool → Answered
answered_so (Ok done) true = answered.Closes
answered_so (Ok done) false = answered.Kept
answered_so (Err cut) closes = answered_of cut
