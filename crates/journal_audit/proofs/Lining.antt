-- One line more, at a place.
use Rattle.std.proofs.Common.{◌≡◌, inl, inr, ℕ, ◌<◌, sym, ap, subst, refl, arith}
use Rattle.cache_law.specs.declared.setting.Params.{Params}
use Rattle.cache_law.specs.Bases.{IsClosed}
use Rattle.cache_law.specs.Beginning.{base_of}
use Rattle.cache_law.specs.State.{State}
use Rattle.journal_text.specs.declared.line.First.{First}
use Rattle.journal_text.specs.declared.line.Line.{Line}
use Rattle.journal_text.specs.declared.line.Line.TheVariants as line
use Rattle.journal_text.specs.declared.line.Said.{Said}
use Rattle.audit_laws.specs.declared.kind.Kind.{Kind}
use Rattle.audit_laws.specs.declared.kind.Kind.TheVariants as kinds
use Rattle.audit_laws.specs.Steps.{Before, Closed, Closes, Cuts, Enters, Place, Starts, Within, params_of}
use Rattle.audit_laws.specs.Faults.{EntryFault, HasPlace, IsLeast, LineFault, kind_number}
use Rattle.journal_audit.specs.declared.fault.Expected.{Expected}
use Rattle.journal_audit.specs.declared.fault.Expected.TheVariants as expected
use Rattle.journal_audit.specs.declared.fault.Fault.{Fault}
use Rattle.journal_audit.specs.declared.phase.Phase.TheVariants as phases
use Rattle.journal_audit.specs.Following.{HasEntered, HasStepped, IsEntryFault, IsExpected, IsLineFault, IsWithin, ReadFault}

none_below : (kind : Kind) → kind_number kind < 1 → ⊥
none_below kinds.Text less = omega (arith, less)
none_below kinds.Moment less = omega (arith, less)
none_below kinds.Wait less = omega (arith, less)
none_below kinds.Bytes less = omega (arith, less)
none_below kinds.Reply less = omega (arith, less)
none_below kinds.Cut less = omega (arith, less)
none_below kinds.End less = omega (arith, less)

-- the first kind is the least wherever it holds
pub text_is_least : (Holds : Kind → Type 0) → Holds kinds.Text → IsLeast Holds kinds.Text
text_is_least Holds here = record { holds = here; least = λ other less f. none_below other less }

-- a line that has no place
pub no_place : (place : Place) (one : Line) → (HasPlace place one → ⊥) → IsLeast (ReadFault place one) kinds.Text
no_place place one none = text_is_least (ReadFault place one) (inl (refl, none))

pub first_line : {F : Type 0} (stands : F → Params → State → ℕ → Type 0) (first : First) (next : F) (place : Place) → place ≡ Before → stands next (params_of first) (base_of first.boot) 0
    → HasStepped stands place (line.First first) (phases.Within next)
first_line stands first next place at there =
    subst (λ (p : Place). HasStepped stands p (line.First first) (phases.Within next)) (sym at)
    (record { step = Starts first; written = refl; may = tt; behind = record { params = params_of first; state = base_of first.boot; used = 0; is = refl; there = there } })

pub other_first : (one : Line) (place : Place) → place ≡ Before → (HasPlace Before one → ⊥) → IsLineFault place one (record { kind = kinds.Text; expected = expected.FirstLine })
other_first one place at none = record { least = subst (λ (p : Place). IsLeast (ReadFault p one) kinds.Text) (sym at) (no_place Before one none); expects = tt }

entered_line : {F : Type 0} (stands : F → Params → State → ℕ → Type 0) (params : Params) (state : State) (used : ℕ) (said : Said) (next : F) → HasEntered stands params state used said next
    → HasStepped stands (Within params state used) (line.Entry said) (phases.Within next)
entered_line stands params state used said next has =
    record {
      step = Enters has.entry;
      written = ap line.Entry has.says;
      may = (has.follows, has.fits);
      behind = record { params = params; state = _; used = _; is = refl; there = has.behind };
    }

entry_fault : (params : Params) (state : State) (used : ℕ) (said : Said) (kind : Kind) → IsLeast (EntryFault params state used said) kind → IsLeast (ReadFault (Within params state used) (line.Entry said)) kind
entry_fault params state used said kind fault =
    record { holds = inr fault.holds; least = λ other less f. by_fault other less f }
  where
    by_fault : (other : Kind) → kind_number other < kind_number kind → ReadFault (Within params state used) (line.Entry said) other → ⊥
    by_fault other less (inl f) = f.1 tt
    by_fault other less (inr f) = fault.least other less f

pub entry_line : {F : Type 0} (stands : F → Params → State → ℕ → Type 0) (follower : F) (said : Said) (next : F) (place : Place) → IsWithin stands follower place
    → ((params : Params) (state : State) (used : ℕ) → stands follower params state used → HasEntered stands params state used said next) → HasStepped stands place (line.Entry said) (phases.Within next)
entry_line stands follower said next place at enters =
    subst (λ (p : Place). HasStepped stands p (line.Entry said) (phases.Within next)) (sym at.is)
    (entered_line stands at.params at.state at.used said next (enters at.params at.state at.used at.there))

entry_is_bad : (params : Params) (state : State) (used : ℕ) (said : Said) (fault : Fault) → IsEntryFault params state used said fault → IsLineFault (Within params state used) (line.Entry said) fault
entry_is_bad params state used said fault is_ = record { least = entry_fault params state used said fault.kind is_.least; expects = is_.expects }

pub bad_entry : {F : Type 0} (stands : F → Params → State → ℕ → Type 0) (follower : F) (said : Said) (fault : Fault) (place : Place) → IsWithin stands follower place
    → ((params : Params) (state : State) (used : ℕ) → stands follower params state used → IsEntryFault params state used said fault) → IsLineFault place (line.Entry said) fault
bad_entry stands follower said fault place at faults =
    subst (λ (p : Place). IsLineFault p (line.Entry said) fault) (sym at.is) (entry_is_bad at.params at.state at.used said fault (faults at.params at.state at.used at.there))

pub cut_line : {F : Type 0} (stands : F → Params → State → ℕ → Type 0) (follower : F) (next : F) (place : Place) → IsWithin stands follower place
    → ((params : Params) (state : State) (used : ℕ) → stands follower params state used → IsClosed state × stands next params state 0) → HasStepped stands place line.Cut (phases.Within next)
cut_line stands follower next place at cuts =
    let both = cuts at.params at.state at.used at.there in
    subst (λ (p : Place). HasStepped stands p line.Cut (phases.Within next)) (sym at.is)
    (record { step = Cuts; written = refl; may = both.0; behind = record { params = at.params; state = at.state; used = 0; is = refl; there = both.1 } })

cut_fault : (params : Params) (state : State) (used : ℕ) → (IsClosed state → ⊥) → IsLeast (ReadFault (Within params state used) line.Cut) kinds.Cut
cut_fault params state used open_ = record { holds = inr open_; least = λ other less f. by_fault other less f }
  where
    by_line : (other : Kind) → kind_number other < 6 → LineFault (Within params state used) line.Cut other → ⊥
    by_line kinds.Text less f = f
    by_line kinds.Moment less f = f
    by_line kinds.Wait less f = f
    by_line kinds.Bytes less f = f
    by_line kinds.Reply less f = f
    by_line kinds.Cut less f = omega (arith, less)
    by_line kinds.End less f = f

    by_fault : (other : Kind) → kind_number other < 6 → ReadFault (Within params state used) line.Cut other → ⊥
    by_fault other less (inl f) = f.1 tt
    by_fault other less (inr f) = by_line other less f

pub bad_cut : {F : Type 0} (stands : F → Params → State → ℕ → Type 0) (follower : F) (kind : Kind) (place : Place) → IsWithin stands follower place
    → ((params : Params) (state : State) (used : ℕ) → stands follower params state used → (IsClosed state → ⊥) × (kind ≡ kinds.Cut)) → IsLineFault place line.Cut (record { kind = kind; expected = expected.Closed })
bad_cut stands follower kind place at faults =
    let both = faults at.params at.state at.used at.there in
    record {
      least = subst (λ (k : Kind). IsLeast (ReadFault place line.Cut) k) (sym both.1)
          (subst (λ (p : Place). IsLeast (ReadFault p line.Cut) kinds.Cut) (sym at.is) (cut_fault at.params at.state at.used both.0));
      expects = tt;
    }

pub close_line : {F : Type 0} (stands : F → Params → State → ℕ → Type 0) (follower : F) (place : Place) → IsWithin stands follower place → HasStepped stands place line.Close phases.Closed
close_line stands follower place at =
    subst (λ (p : Place). HasStepped stands p line.Close phases.Closed) (sym at.is) (record { step = Closes; written = refl; may = tt; behind = refl })

pub first_again : {F : Type 0} (stands : F → Params → State → ℕ → Type 0) (follower : F) (first : First) (place : Place) → IsWithin stands follower place → IsLineFault place (line.First first) (record { kind = kinds.Text; expected = expected.LaterLine })
first_again stands follower first place at =
    record { least = subst (λ (p : Place). IsLeast (ReadFault p (line.First first)) kinds.Text) (sym at.is) (no_place (Within at.params at.state at.used) (line.First first) (λ f. f)); expects = tt }

-- a line behind the end
end_fault : (one : Line) → HasPlace Closed one → ((kind : Kind) → kind_number kind < 7 → LineFault Closed one kind → ⊥) → LineFault Closed one kinds.End → IsLineFault Closed one (record { kind = kinds.End; expected = expected.Nothing })
end_fault one has none here = record { least = record { holds = inr here; least = λ other less f. by_fault other less f }; expects = tt }
  where
    by_fault : (other : Kind) → kind_number other < 7 → ReadFault Closed one other → ⊥
    by_fault other less (inl f) = f.1 has
    by_fault other less (inr f) = none other less f

no_end_before : (one : Line) (kind : Kind) → kind_number kind < 7 → LineFault Closed one kind → ⊥
no_end_before one kinds.Text less f = f
no_end_before one kinds.Moment less f = f
no_end_before one kinds.Wait less f = f
no_end_before one kinds.Bytes less f = f
no_end_before one kinds.Reply less f = f
no_end_before one kinds.Cut less f = f
no_end_before one kinds.End less f = omega (arith, less)

pub behind_end_first : (first : First) → IsLineFault Closed (line.First first) (record { kind = kinds.Text; expected = expected.Nothing })
behind_end_first first = record { least = no_place Closed (line.First first) (λ f. f); expects = tt }

pub behind_end_entry : (said : Said) → IsLineFault Closed (line.Entry said) (record { kind = kinds.End; expected = expected.Nothing })
behind_end_entry said = end_fault (line.Entry said) tt (no_end_before (line.Entry said)) tt

pub behind_end_cut : IsLineFault Closed line.Cut (record { kind = kinds.End; expected = expected.Nothing })
behind_end_cut = end_fault line.Cut tt (no_end_before line.Cut) tt

pub behind_end_close : IsLineFault Closed line.Close (record { kind = kinds.End; expected = expected.Nothing })
behind_end_close = end_fault line.Close tt (no_end_before line.Close) tt
