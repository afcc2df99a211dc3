-- A course goes on with the text of a line.
use Rattle.std.proofs.Common.{◌≡◌, inl, inr, ℕ, ◌+◌, ◌-◌, ◌<◌, ◌≤◌, List, [], ◌∷◌, ◌++◌, length, sym, ap, subst, refl, arith, length-append}
use Rattle.cache_law.specs.declared.setting.Params.{Params}
use Rattle.cache_law.specs.State.{State}
use Rattle.journal_text.specs.declared.line.Line.{Line}
use Rattle.journal_text.specs.Journals.{IsLine, text_of}
use Rattle.journal_reader.specs.declared.fault.ReadError.TheVariants as errors
use Rattle.journal_reader.specs.declared.fault.Refusal.{Refusal}
use Rattle.journal_reader.specs.Refusals.{IsErrorOf}
use Rattle.journal_reader.proofs.Unique.{line_same}
use Rattle.audit_laws.specs.declared.kind.Kind.{Kind}
use Rattle.audit_laws.specs.declared.kind.Kind.TheVariants as kinds
use Rattle.audit_laws.specs.Steps.{Before, Place, Step, line_for, placed, text_for}
use Rattle.audit_laws.specs.Journals.{most_bytes}
use Rattle.audit_laws.specs.Faults.{HasPlace, IsLeast, LineFault, TextFault}
use Rattle.journal_audit.specs.declared.course.Course.{Course}
use Rattle.journal_audit.specs.Counts.{cut_weight, entry_weight}
use Rattle.journal_audit.specs.declared.fault.Expected.{Expected}
use Rattle.journal_audit.specs.declared.fault.Expected.TheVariants as expected
use Rattle.journal_audit.specs.declared.fault.Fault.{Fault}
use Rattle.journal_audit.specs.Feeding.{IsBadLine, IsExpectedOf, IsOn, IsOneOn}
use Rattle.journal_audit.specs.Following.{HasStepped, IsAt, IsExpected, IsLineFault, ReadFault}
use Rattle.journal_audit.proofs.Lining.{text_is_least}
use Rattle.journal_audit.proofs.Pushing.{cuts_push, entries_push, may_push, placed_push, text_push, writable_push}

-- the text is too long
pub too_long : {F : Type 0} (stands : F → Params → State → ℕ → Type 0) (course : Course F) (steps : List Step) (text : List ℕ) → IsOn stands course steps → course.room ≤ length text
    → IsBadLine steps text (course.lines + 1) (record { kind = kinds.Text; expected = expected.FewerBytes })
too_long stands course steps text on long =
    let room = on.room_is in
    record {
      place = ap (λ (n : ℕ). n + 1) on.lines_are;
      expects = λ one is_. tt;
      least = text_is_least (TextFault (placed Before steps) (most_bytes - length (text_for steps)) text) (inl (refl, omega (arith, long, room)));
    }

-- the text is no line
pub no_line : {F : Type 0} (stands : F → Params → State → ℕ → Type 0) (course : Course F) (steps : List Step) (text : List ℕ) (refusal : Refusal) → IsOn stands course steps → ((one : Line) → IsLine text one → ⊥) → IsErrorOf text (errors.Refused refusal)
    → IsBadLine steps text (course.lines + 1) (record { kind = kinds.Text; expected = expected.Line refusal })
no_line stands course steps text refusal on none refused =
    record {
      place = ap (λ (n : ℕ). n + 1) on.lines_are;
      expects = refused;
      least = text_is_least (TextFault (placed Before steps) (most_bytes - length (text_for steps)) text) (inr (inl (refl, λ one is has. none one is)));
    }

text_fault : (place : Place) (room : ℕ) (text : List ℕ) (one : Line) (kind : Kind) → IsLine text one → length text + 1 ≤ room → IsLeast (ReadFault place one) kind → IsLeast (TextFault place room text) kind
text_fault place room text one kind is fits fault = record { holds = up fault.holds; least = λ other less f. fault.least other less (down other f) }
  where
    up : ReadFault place one kind → TextFault place room text kind
    up (inl f) = inr (inl (f.0, λ other is_ has. f.1 (subst (HasPlace place) (line_same text other one is_ is) has)))
    up (inr f) = inr (inr (one, is, f))

    down : (other : Kind) → TextFault place room text other → ReadFault place one other
    down other (inl f) = let less = f.1 in absurd (omega (arith, less, fits))
    down other (inr (inl f)) = inl (f.0, λ has. f.1 one is has)
    down other (inr (inr f)) = inr (subst (λ (l : Line). LineFault place l other) (line_same text f.0 one f.1 is) f.2)

-- what was expected of a line was expected of its text
expected_of : (place : Place) (text : List ℕ) (one : Line) (expected_ : Expected) → IsLine text one → IsExpected expected_ place one → IsExpectedOf expected_ place text
expected_of place text one expected_ is expects = by_case expected_ expects
  where
    same : (expected_ : Expected) → IsExpected expected_ place one → (other : Line) → IsLine text other → IsExpected expected_ place other
    same expected_ expects other is_ = subst (λ (l : Line). IsExpected expected_ place l) (line_same text one other is is_) expects

    by_case : (expected_ : Expected) → IsExpected expected_ place one → IsExpectedOf expected_ place text
    by_case (expected.Line refusal) expects = absurd expects
    by_case expected_ expects = same expected_ expects

-- the line has a fault
pub bad_line : {F : Type 0} (stands : F → Params → State → ℕ → Type 0) (course : Course F) (steps : List Step) (text : List ℕ) (one : Line) (fault : Fault) → IsOn stands course steps → IsLine text one → length text < course.room
    → IsLineFault (placed Before steps) one fault → IsBadLine steps text (course.lines + 1) fault
bad_line stands course steps text one fault on is fits bad =
    let room = on.room_is in
    record {
      place = ap (λ (n : ℕ). n + 1) on.lines_are;
      least = text_fault (placed Before steps) (most_bytes - length (text_for steps)) text one fault.kind is (omega (arith, fits, room)) bad.least;
      expects = expected_of (placed Before steps) text one fault.expected is bad.expects;
    }

-- the line is taken
pub one_on : {F : Type 0} (stands : F → Params → State → ℕ → Type 0) (course next : Course F) (steps : List Step) (text : List ℕ) (one : Line) → IsOn stands course steps → IsLine text one → length text < course.room
    → HasStepped stands (placed Before steps) one next.phase → next.room ≡ course.room - length text - 1 → next.lines ≡ course.lines + 1 → next.entries ≡ course.entries + entry_weight one → next.cuts ≡ course.cuts + cut_weight one
    → IsOneOn stands steps text next
one_on stands course next steps text one on is fits stepped room lines entries cuts =
    let step = stepped.step in
    let own : IsLine text (line_for step) = subst (IsLine text) (sym stepped.written) is in
    let text_is = ap length own.written in
    let push = ap length (text_push steps step) in
    let size = length-append (text_for steps) (text_of (line_for step) ++ 10 ∷ []) in
    let end_ = length-append (text_of (line_for step)) (10 ∷ []) in
    let room_is = on.room_is in
    let steps_more = length-append steps (step ∷ []) in
    let lines_are = on.lines_are in
    let entries_are = on.entries_are in
    let cuts_are = on.cuts_are in
    let more_entries = entries_push steps step in
    let more_cuts = cuts_push steps step in
    let entry = ap entry_weight stepped.written in
    let cut = ap cut_weight stepped.written in
    record {
      step = step;
      read = own;
      on = record {
        legal = may_push Before steps step on.legal stepped.may;
        writable = writable_push steps step on.writable (record { words = own.words; bans = own.bans; written = refl });
        there = subst (IsAt stands next.phase) (sym (placed_push Before steps step)) stepped.behind;
        room_is = omega (arith, room, text_is, push, size, end_, room_is, fits);
        lines_are = omega (arith, lines, lines_are, steps_more);
        entries_are = omega (arith, entries, entries_are, more_entries, entry);
        cuts_are = omega (arith, cuts, cuts_are, more_cuts, cut);
      };
    }
