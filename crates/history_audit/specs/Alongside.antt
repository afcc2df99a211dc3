-- A cache that is stepped along a journal: how it stands for the journal's state, and what it does with an entry.
use Rattle.std.specs.Prelude.{◌≡◌, ◌≢◌, ◌+◌, ◌<◌, ◌^◌, ℕ, List, [], ◌∷◌, ◌++◌, Option, Some, None, Result, length}
use Rattle.cache_law.specs.declared.ban.Issued.{Issued}
use Rattle.cache_law.specs.declared.call.Call.{Call}
use Rattle.cache_law.specs.declared.call.Call.TheVariants.{Ban}
use Rattle.cache_law.specs.declared.call.Reply.{Reply}
use Rattle.cache_law.specs.declared.call.Reply.TheVariants.{Refused}
use Rattle.cache_law.specs.declared.setting.Params.{Params}
use Rattle.cache_law.specs.Bases.{AreAlike, IsSound}
use Rattle.cache_law.specs.BansAtOnce.{issued_behind}
use Rattle.cache_law.specs.History.{Fits, Follows, HasWaited, bytes_of, reached}
use Rattle.cache_law.specs.State.{State, awaits}
use Rattle.cache_frame.specs.Framed.{Plain}
use Rattle.cache_frame.specs.Shelves.{entry_of}
use Rattle.journal_text.specs.declared.line.Said.{Said}
use Rattle.journal_text.specs.declared.shown.Shown.{Shown}
use Rattle.journal_text.specs.Grammar.{shown_of}
use Rattle.audit_laws.specs.declared.kind.Kind.TheVariants as kinds
use Rattle.audit_laws.specs.Faults.{judged_entry}
use Rattle.journal_audit.specs.declared.fault.Expected.TheVariants as expected
use Rattle.journal_audit.specs.declared.fault.Fault.{Fault}
use Rattle.journal_audit.specs.Following.{EndsEntry}
use Rattle.history_audit.specs.declared.following.Following.{Following}

-- The cache reached a state that is alike to the journal's, which no cache thinned: the bans of the run are kept beside it.
pub record IsAlongside (core : Plain) (spent : ℕ) (bans : List Issued) (params : Params) (state : State) (used : ℕ) : Type 0 where
  pub limits : core.beginning.params ≡ params
  pub bound : params.history < 2 ^ 64
  pub alike : AreAlike (reached core.beginning core.entries) state
  pub sound : IsSound state
  pub issued : state.issued ≡ length state.bans
  pub bans_are : bans ≡ state.bans
  pub spent_is : spent ≡ used

abbrev pub Stands : Following → Params → State → ℕ → Type 0
Stands following params state used = IsAlongside following.core following.used following.bans.items params state used

-- an entry of the call, answered so, joined the cache's history
pub record HasJoined (old new : Plain) (caller moment : ℕ) (call : Call) (reply : Reply) : Type 0 where
  pub same : new.beginning ≡ old.beginning
  pub joined : new.entries ≡ old.entries ++ entry_of caller moment call reply ∷ []
  pub follows : Follows old.beginning.params (reached old.beginning old.entries) (entry_of caller moment call reply)

-- the caller of the lookup waits for this fetch
pub record IsAwaited (state : State) (caller : ℕ) (call : Call) (token : ℕ) : Type 0 where
  pub waits : HasWaited state caller call → ⊥
  pub is : awaits state caller ≡ Some token

-- the ban that a call issues behind so many
abbrev pub issued_of : Call → ℕ → ℕ → List Issued
issued_of (Ban ban) moment count = issued_behind count moment ban ∷ []
issued_of call moment count = []

-- the cache was stepped with the call, which it didn't refuse, and what is kept beside it goes on too
pub record HasAdvanced (old new : Following) (caller moment : ℕ) (call : Call) (told : Reply) : Type 0 where
  pub joins : HasJoined old.core new.core caller moment call told
  pub lawful : told ≢ Refused
  pub noted : new.bans.items ≡ issued_of call moment (length old.bans.items) ++ old.bans.items
  pub counted : old.used + bytes_of call < 2 ^ 64 → new.used ≡ old.used + bytes_of call

-- another reply than the cache's is a fault, for which the cache's was expected
abbrev pub Compares : Reply → Shown → Option Fault → Type 0
Compares told reply None = shown_of told ≡ reply
Compares told reply (Some fault) = (shown_of told ≢ reply) × (fault ≡ record { kind = kinds.Reply; expected = expected.Reply (shown_of told) })

-- what becomes of an entry that fits: it is entered, or may not be answered so
abbrev pub Answers : Following → Said → Result Following Fault → Type 0
Answers following said told =
    (params : Params) (state : State) (used : ℕ) → Stands following params state used → Fits params state used (judged_entry params state said)
    → EndsEntry Stands params state used said told
