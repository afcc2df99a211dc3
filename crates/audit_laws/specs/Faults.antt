-- What is wrong with a line of a journal, as a table on kinds, and the least of them.
use Rattle.std.specs.Prelude.{⊤, ◌≡◌, ◌≢◌, ◌⊎◌, ◌+◌, ◌-◌, ◌<◌, ◌≤◌, ℕ, List, [], ◌∷◌, ◌++◌, length}
use Rattle.std.specs.List.{AllByRecursion}
use Rattle.units.specs.Signs.{line_feed}
use Rattle.cache_law.specs.declared.call.Entry.{Entry}
use Rattle.cache_law.specs.declared.call.Reply.{Reply}
use Rattle.cache_law.specs.declared.call.Reply.TheVariants as replies
use Rattle.cache_law.specs.declared.setting.Params.{Params}
use Rattle.cache_law.specs.Bases.{IsClosed}
use Rattle.cache_law.specs.History.{Fits, HasWaited}
use Rattle.cache_law.specs.Law.{MayAnswer, step_of}
use Rattle.cache_law.specs.State.{State, at_moment}
use Rattle.journal_text.specs.declared.line.Line.{Line}
use Rattle.journal_text.specs.declared.line.Line.TheVariants as line
use Rattle.journal_text.specs.declared.line.Said.{Said}
use Rattle.journal_text.specs.declared.shown.Shown.{Shown}
use Rattle.journal_text.specs.declared.shown.Shown.TheVariants as shown
use Rattle.journal_text.specs.Grammar.{shown_of}
use Rattle.journal_text.specs.Journals.{IsLine}
use Rattle.audit_laws.specs.declared.kind.Kind.{Kind}
use Rattle.audit_laws.specs.declared.kind.Kind.TheVariants as kinds
use Rattle.audit_laws.specs.Steps.{Place, Before, Within, Closed, Step, MaySteps, AreWritable, placed, text_for}
use Rattle.audit_laws.specs.Journals.{most_bytes}

-- the numbers by which kinds are told: of two that hold the lesser is told
abbrev pub kind_number : Kind → ℕ
kind_number kinds.Text = 1
kind_number kinds.Moment = 2
kind_number kinds.Wait = 3
kind_number kinds.Bytes = 4
kind_number kinds.Reply = 5
kind_number kinds.Cut = 6
kind_number kinds.End = 7

-- a line of this form has its place here: a first line is the first, and no other one is
abbrev pub HasPlace : Place → Line → Type 0
HasPlace Before (line.First first) = ⊤
HasPlace Before other = ⊥
HasPlace place (line.First first) = ⊥
HasPlace place other = ⊤

-- No reply that may be given here is shown so.
abbrev pub MayNotShow : Params → State → Said → Type 0
MayNotShow params state said =
    (reply : Reply) → MayAnswer (at_moment said.moment state) said.call (step_of params state said.caller said.moment said.call).reply reply
    → shown_of reply ≢ said.reply

-- Whether an entry fits is judged with the law's reply, or with the refusal that its line shows: between these alone differs what is
-- reserved behind it.
abbrev pub judged_by : Shown → Reply → Reply
judged_by shown.Refused law = replies.Refused
judged_by other law = law

abbrev pub judged_entry : Params → State → Said → Entry
judged_entry params state said =
    record { caller = said.caller; moment = said.moment; call = said.call; reply = judged_by said.reply (step_of params state said.caller said.moment said.call).reply }

-- What is wrong with what an entry says: its moment goes back; its caller waits; it doesn't fit; no such reply may be given.
abbrev pub EntryFault : Params → State → ℕ → Said → Kind → Type 0
EntryFault params state used said kinds.Moment = said.moment < state.moment
EntryFault params state used said kinds.Wait = HasWaited state said.caller said.call → ⊥
EntryFault params state used said kinds.Bytes = Fits params state used (judged_entry params state said) → ⊥
EntryFault params state used said kinds.Reply = MayNotShow params state said
EntryFault params state used said kind = ⊥

-- What is wrong with a line: that of its entry; a segment is cut off while something is open; or the journal has ended before it.
abbrev pub LineFault : Place → Line → Kind → Type 0
LineFault (Within params state used) (line.Entry said) kind = EntryFault params state used said kind
LineFault (Within params state used) line.Cut kinds.Cut = IsClosed state → ⊥
LineFault Closed other kinds.End = ⊤
LineFault place other kind = ⊥

-- the text is no line that has its place here
abbrev pub IsNoLine : Place → List ℕ → Type 0
IsNoLine place text = (one : Line) → IsLine text one → HasPlace place one → ⊥

-- What is wrong with a text between two LFs: with it the journal is too long; it is no line here; or it is one with a fault.
abbrev pub TextFault : Place → ℕ → List ℕ → Kind → Type 0
TextFault place room text kind =
    ((kind ≡ kinds.Text) × (room < length text + 1))
    ⊎ ((kind ≡ kinds.Text) × IsNoLine place text)
    ⊎ ((one : Line) × IsLine text one × LineFault place one kind)

abbrev pub HasNoFeed : List ℕ → Type 0
HasNoFeed text = AllByRecursion (λ byte. byte ≢ line_feed) text

-- What is wrong where this is left: nothing, though the journal hasn't ended; a text without its LF; or what is wrong with the
-- text up to its LF.
abbrev pub RestFault : Place → ℕ → List ℕ → Kind → Type 0
RestFault place room rest kind =
    ((rest ≡ []) × (place ≢ Closed) × (kind ≡ kinds.End))
    ⊎ ((rest ≢ []) × HasNoFeed rest × (kind ≡ kinds.Text))
    ⊎ ((text more : List ℕ) × (rest ≡ text ++ line_feed ∷ more) × HasNoFeed text × TextFault place room text kind)

-- the kind holds, and no lesser one
pub record IsLeast (Holds : Kind → Type 0) (kind : Kind) : Type 0 where
  pub holds : Holds kind
  pub least : (other : Kind) → kind_number other < kind_number kind → Holds other → ⊥

-- The bytes are bad at this line: the lines before it are steps that may be taken from a journal's beginning, and this is the least
-- kind of what is wrong behind them.
pub record BadAt (bytes : List ℕ) (number : ℕ) (kind : Kind) : Type 0 where
  pub steps : List Step
  pub rest : List ℕ
  pub legal : MaySteps Before steps
  pub writable : AreWritable steps
  pub within : length (text_for steps) ≤ most_bytes
  pub joined : bytes ≡ text_for steps ++ rest
  pub place : number ≡ length steps + 1
  pub fault : IsLeast (RestFault (placed Before steps) (most_bytes - length (text_for steps)) rest) kind
