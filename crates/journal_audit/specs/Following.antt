-- What becomes of a journal that is followed, with an entry, with the end of a segment, and with a line.
use Rattle.std.specs.Prelude.{◌≡◌, ◌⊎◌, ◌+◌, ⊤, ℕ, Bool, true, false, Some, Result, Ok, Err}
use Rattle.cache_law.specs.declared.call.Entry.{Entry}
use Rattle.cache_law.specs.declared.call.Reply.{Reply}
use Rattle.cache_law.specs.declared.setting.Params.{Params}
use Rattle.cache_law.specs.Bases.{IsClosed}
use Rattle.cache_law.specs.History.{Fits, Follows, bytes_of, next_state}
use Rattle.cache_law.specs.Law.{MayAnswer, step_of}
use Rattle.cache_law.specs.State.{State, at_moment, awaits}
use Rattle.journal_text.specs.declared.line.Line.{Line}
use Rattle.journal_text.specs.declared.line.Line.TheVariants as line
use Rattle.journal_text.specs.declared.line.Said.{Said}
use Rattle.journal_text.specs.declared.shown.Shown.{Shown}
use Rattle.journal_text.specs.Grammar.{said_of, shown_of}
use Rattle.audit_laws.specs.declared.kind.Kind.{Kind}
use Rattle.audit_laws.specs.declared.kind.Kind.TheVariants as kinds
use Rattle.audit_laws.specs.Steps.{Place, Before, Within, Closed, Step, MayStep, line_for, place_after}
use Rattle.audit_laws.specs.Faults.{EntryFault, HasPlace, IsLeast, LineFault}
use Rattle.journal_audit.specs.declared.fault.Expected.{Expected}
use Rattle.journal_audit.specs.declared.fault.Expected.TheVariants as expected
use Rattle.journal_audit.specs.declared.fault.Fault.{Fault}
use Rattle.journal_audit.specs.declared.phase.Phase.{Phase}
use Rattle.journal_audit.specs.declared.phase.Phase.TheVariants as phases

-- an entry says so, follows and fits, and this stands behind it
pub record HasEntered {F : Type 0} (stands : F → Params → State → ℕ → Type 0) (params : Params) (state : State) (used : ℕ) (said : Said) (next : F) : Type 0 where
  pub entry : Entry
  pub says : said_of entry ≡ said
  pub follows : Follows params state entry
  pub fits : Fits params state used entry
  pub behind : stands next params (next_state params state entry) (used + bytes_of entry.call)

-- a reply that may be given there is shown so
pub record MayShow (params : Params) (state : State) (said : Said) (shown : Shown) : Type 0 where
  pub reply : Reply
  pub may : MayAnswer (at_moment said.moment state) said.call (step_of params state said.caller said.moment said.call).reply reply
  pub shows : shown_of reply ≡ shown

-- What was expected of a line is so, as far as it has a moment, a fetch or a reply: the moment of the entry before, the fetch that the
-- caller waits for, and a reply that may be given.
abbrev pub IsExpected : Expected → Place → Line → Type 0
IsExpected (expected.Moment moment) (Within params state used) (line.Entry said) = state.moment ≡ moment
IsExpected (expected.Closing token) (Within params state used) (line.Entry said) = awaits state said.caller ≡ Some token
IsExpected (expected.Reply reply) (Within params state used) (line.Entry said) = MayShow params state said reply
IsExpected (expected.Line refusal) place one = ⊥
IsExpected (expected.Moment moment) place one = ⊥
IsExpected (expected.Closing token) place one = ⊥
IsExpected (expected.Reply reply) place one = ⊥
IsExpected other place one = ⊤

-- what is wrong with what an entry says
pub record IsEntryFault (params : Params) (state : State) (used : ℕ) (said : Said) (fault : Fault) : Type 0 where
  pub least : IsLeast (EntryFault params state used said) fault.kind
  pub expects : IsExpected fault.expected (Within params state used) (line.Entry said)

-- what is said is entered, or this is wrong with it
abbrev pub EndsEntry : {F : Type 0} → (F → Params → State → ℕ → Type 0) → Params → State → ℕ → Said → Result F Fault → Type 0
EndsEntry stands params state used said (Ok next) = HasEntered stands params state used said next
EndsEntry stands params state used said (Err fault) = IsEntryFault params state used said fault

-- the segment has ended, or something is open
abbrev pub EndsCut : {F : Type 0} → (F → Params → State → ℕ → Type 0) → Params → State → Result F Kind → Type 0
EndsCut stands params state (Ok next) = IsClosed state × stands next params state 0
EndsCut stands params state (Err kind) = (IsClosed state → ⊥) × (kind ≡ kinds.Cut)

-- within, some follower stands where the journal does
pub record IsWithin {F : Type 0} (stands : F → Params → State → ℕ → Type 0) (follower : F) (place : Place) : Type 0 where
  pub params : Params
  pub state : State
  pub used : ℕ
  pub is : place ≡ Within params state used
  pub there : stands follower params state used

-- the place of a journal that is followed so far
abbrev pub IsAt : {F : Type 0} → (F → Params → State → ℕ → Type 0) → Phase F → Place → Type 0
IsAt stands phases.Before place = place ≡ Before
IsAt stands (phases.Within follower) place = IsWithin stands follower place
IsAt stands phases.Closed place = place ≡ Closed

-- it is behind the end
abbrev pub is_closed : {F : Type 0} → Phase F → Bool
is_closed phases.Closed = true
is_closed phase = false

-- what is wrong with a line: it has no place here, or a fault
abbrev pub ReadFault : Place → Line → Kind → Type 0
ReadFault place one kind = ((kind ≡ kinds.Text) × (HasPlace place one → ⊥)) ⊎ LineFault place one kind

-- a step is written so and may come next, and this stands behind it
pub record HasStepped {F : Type 0} (stands : F → Params → State → ℕ → Type 0) (place : Place) (one : Line) (next : Phase F) : Type 0 where
  pub step : Step
  pub written : line_for step ≡ one
  pub may : MayStep place step
  pub behind : IsAt stands next (place_after place step)

-- this is wrong with a line
pub record IsLineFault (place : Place) (one : Line) (fault : Fault) : Type 0 where
  pub least : IsLeast (ReadFault place one) fault.kind
  pub expects : IsExpected fault.expected place one

-- what becomes of a place with a line
abbrev pub EndsLine : {F : Type 0} → (F → Params → State → ℕ → Type 0) → Place → Line → Result (Phase F) Fault → Type 0
EndsLine stands place one (Ok next) = HasStepped stands place one next
EndsLine stands place one (Err fault) = IsLineFault place one fault
