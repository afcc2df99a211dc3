-- What is wrong with an entry, in the state that a cache stands for: its moment, its waiting, and whether it fits.
use Rattle.std.proofs.Common.{◌≡◌, ◌≢◌, ◌⊎◌, inl, inr, ℕ, Bool, true, false, cond, ◌<◌, ◌≤◌, ◌+◌, ◌*◌, refl, arith, sym, ap, ◌∙◌, subst}
use Rattle.std.specs.Prelude.{IsTrue, ◌↔◌, IfOk, Result, Ok, Err}
use Rattle.std.specs.declared.alloc.AllocError.{AllocError}
use Rattle.std.proofs.lemmas.Bool.{false≢true}
use Rattle.cache_law.specs.declared.call.Call.{Call}
use Rattle.cache_law.specs.declared.call.Call.TheVariants.{BanList, Insert, Lookup}
use Rattle.cache_law.specs.declared.call.Entry.{Entry}
use Rattle.cache_law.specs.declared.call.Reply.{Reply}
use Rattle.cache_law.specs.declared.call.Reply.TheVariants.{Refused}
use Rattle.cache_law.specs.declared.setting.Params.{Params}
use Rattle.cache_law.specs.Bases.{AreAlike, AreAlikeAsSeen}
use Rattle.cache_law.specs.History.{Fits, HasWaited, bytes_of, is_numbered, lawful_entry, next_state, reached}
use Rattle.cache_law.specs.Law.{answered, refused, step_of}
use Rattle.cache_law.specs.State.{State, at_moment, awaits, count_open}
use Rattle.cache_law.proofs.AlikeHistories.{alike_at, same_moment}
use Rattle.cache_law.proofs.AlikeSteps.{steps_alike}
use Rattle.cache_law.proofs.Lawful.{after-lawful}
use Rattle.cache_frame.specs.Answering.{entry_answered}
use Rattle.cache_frame.specs.Framed.{Plain}
use Rattle.journal_text.specs.declared.line.Said.{Said}
use Rattle.journal_text.specs.declared.shown.Shown.{Shown}
use Rattle.journal_text.specs.declared.shown.Shown.TheVariants as shown
use Rattle.audit_laws.specs.declared.kind.Kind.{Kind}
use Rattle.audit_laws.specs.declared.kind.Kind.TheVariants as kinds
use Rattle.audit_laws.specs.Faults.{EntryFault, IsLeast, MayNotShow, judged_by, judged_entry, kind_number}
use Rattle.journal_audit.specs.declared.fault.Expected.TheVariants as expected
use Rattle.journal_audit.specs.declared.fault.Fault.{Fault}
use Rattle.journal_audit.specs.Following.{EndsEntry, IsEntryFault}
use Rattle.history_audit.specs.declared.following.Following.{Following}
use Rattle.history_audit.specs.Alongside.{Answers, IsAlongside, IsAwaited, Stands}
use Rattle.history_audit.specs.Saying.{answering_of, is_refused}

-- ---- waiting

waited_back : (less state : State) (caller : ℕ) (call : Call) → AreAlike less state → HasWaited state caller call → HasWaited less caller call
waited_back less state caller (Lookup query) alike waited = ap (λ (s : State). awaits s caller) alike.rest ∙ waited
waited_back less state caller call alike waited = tt

waited_on : (less state : State) (caller : ℕ) (call : Call) → AreAlike less state → HasWaited less caller call → HasWaited state caller call
waited_on less state caller (Lookup query) alike waited = sym (ap (λ (s : State). awaits s caller) alike.rest) ∙ waited
waited_on less state caller call alike waited = tt

-- ---- fitting

-- of two entries that leave as much open behind as many
fits_as : (params : Params) (less state : State) (used : ℕ) (one other : Entry) → is_numbered one.reply ≡ is_numbered other.reply → one.call ≡ other.call
    → count_open (next_state params less one) ≡ count_open (next_state params state other) → less.entries ≡ state.entries → Fits params less used one → Fits params state used other
fits_as params less state used one other number call opened entries fits =
    let bytes = ap bytes_of call in
    record { number = sym number ∙ fits.number; within = omega (arith, fits.within, bytes, opened); counted = omega (arith, fits.counted, opened, entries) }

-- what the law's answer leaves open in alike states, and whether it has a number
record IsJudgedAlike (params : Params) (less state : State) (caller moment : ℕ) (call : Call) : Type 0 where
  pub number : is_numbered (step_of params less caller moment call).reply ≡ is_numbered (step_of params state caller moment call).reply
  pub opened : count_open (step_of params less caller moment call).state ≡ count_open (step_of params state caller moment call).state

judged_alike : (params : Params) (less state : State) (caller moment : ℕ) (call : Call) → AreAlikeAsSeen (at_moment moment less) (at_moment moment state) → IsJudgedAlike params less state caller moment call
judged_alike params less state caller moment BanList alike = record { number = refl; opened = ap count_open alike.rest }
judged_alike params less state caller moment call alike =
    let steps = steps_alike params.room (at_moment moment less) (at_moment moment state) caller call alike refl in
    record { number = ap is_numbered steps.reply; opened = ap count_open steps.states.rest }

refused_open : (less state : State) (call : Call) → AreAlikeAsSeen less state → count_open (refused less call) ≡ count_open (refused state call)
refused_open less state (Insert token object stale) alike = ap (λ (s : State). count_open (refused s (Insert token object stale))) alike.rest
refused_open less state call alike = ap count_open alike.rest

law_open : (params : Params) (state : State) (caller moment : ℕ) (call : Call) → count_open (next_state params state (lawful_entry params state caller moment call)) ≡ count_open (step_of params state caller moment call).state
law_open params state caller moment call = ap count_open (after-lawful params state caller moment call (step_of params state caller moment call).reply refl)

-- the entry by which it is judged is the one that the cache is asked of
answered_as : (reply : Shown) (params : Params) (state : State) (caller moment : ℕ) (call : Call)
    → entry_answered (answering_of reply) params state caller moment call ≡ judged_entry params state (record { caller = caller; moment = moment; call = call; reply = reply })
answered_as shown.Refused params state caller moment call = refl
answered_as reply params state caller moment call = refl

-- a reply shows a refusal, or it is judged by the law's
abbrev JudgedBy : Shown → Type 0
JudgedBy reply = ((law : Reply) → judged_by reply law ≡ Refused) ⊎ ((law : Reply) → judged_by reply law ≡ law)

judged_how : (reply : Shown) → JudgedBy reply
judged_how shown.Refused = inl (λ law. refl)
judged_how reply = inr (λ law. refl)

abbrev entry_with : Said → Reply → Entry
entry_with said reply = record { caller = said.caller; moment = said.moment; call = said.call; reply = reply }

-- what is judged leaves as much open in alike states
record IsJudgedSame (params : Params) (less state : State) (said : Said) : Type 0 where
  pub number : is_numbered (judged_entry params less said).reply ≡ is_numbered (judged_entry params state said).reply
  pub opened : count_open (next_state params less (judged_entry params less said)) ≡ count_open (next_state params state (judged_entry params state said))

judged_same : (params : Params) (less state : State) (said : Said) → less.moment ≤ said.moment → AreAlike less state → IsJudgedSame params less state said
judged_same params less state said order alike =
    let now = alike_at said.moment less state order alike in
    let law : State → Reply = λ (s : State). (step_of params s said.caller said.moment said.call).reply in
    let Open : State → Reply → ℕ = λ (s : State) (r : Reply). count_open (next_state params s (entry_with said r)) in
    elim (judged_how said.reply) [
      | inl refusal ↦ record {
        number = ap is_numbered (refusal (law less)) ∙ sym (ap is_numbered (refusal (law state)));
        opened = ap (Open less) (refusal (law less)) ∙ (refused_open (at_moment said.moment less) (at_moment said.moment state) said.call now ∙ sym (ap (Open state) (refusal (law state))));
      }
      | inr lawful ↦
          let judged = judged_alike params less state said.caller said.moment said.call now in
          record {
            number = ap is_numbered (lawful (law less)) ∙ (judged.number ∙ sym (ap is_numbered (lawful (law state))));
            opened = ap (Open less) (lawful (law less))
                ∙ (law_open params less said.caller said.moment said.call ∙ (judged.opened ∙ (sym (law_open params state said.caller said.moment said.call) ∙ sym (ap (Open state) (lawful (law state))))));
          }
    ]

fits_on : (params : Params) (less state : State) (used : ℕ) (said : Said) → less.moment ≤ said.moment → AreAlike less state → Fits params less used (judged_entry params less said) → Fits params state used (judged_entry params state said)
fits_on params less state used said order alike fits =
    let same = judged_same params less state said order alike in
    fits_as params less state used (judged_entry params less said) (judged_entry params state said) same.number refl same.opened (ap (λ (s : State). s.entries) alike.rest) fits

fits_back : (params : Params) (less state : State) (used : ℕ) (said : Said) → less.moment ≤ said.moment → AreAlike less state → Fits params state used (judged_entry params state said) → Fits params less used (judged_entry params less said)
fits_back params less state used said order alike fits =
    let same = judged_same params less state said order alike in
    fits_as params state less used (judged_entry params state said) (judged_entry params less said) (sym same.number) refl (sym same.opened) (sym (ap (λ (s : State). s.entries) alike.rest)) fits

-- what the cache told of an entry's fitting
abbrev pub FitsTold : Plain → ℕ → Said → Bool → Type 0
FitsTold core spent said fits =
    IsTrue fits ↔ Fits core.beginning.params (reached core.beginning core.entries) spent (entry_answered (answering_of said.reply) core.beginning.params (reached core.beginning core.entries) said.caller said.moment said.call)

module _ (core : Plain) (spent : ℕ) (said : Said) (fits : Bool) (params : Params) (less : State) (used : ℕ) (limits : core.beginning.params ≡ params) (here : reached core.beginning core.entries ≡ less) (spends : spent ≡ used) where
  told_plain : FitsTold core spent said fits → IsTrue fits ↔ Fits params less used (judged_entry params less said)
  told_plain told =
      let Told : Params → State → ℕ → Type 0 = λ (p : Params) (s : State) (u : ℕ). IsTrue fits ↔ Fits p s u (entry_answered (answering_of said.reply) p s said.caller said.moment said.call) in
      let one : Told params (reached core.beginning core.entries) spent = subst (λ (p : Params). Told p (reached core.beginning core.entries) spent) limits told in
      let two : Told params less spent = subst (λ (s : State). Told params s spent) here one in
      let three : Told params less used = subst (λ (u : ℕ). Told params less u) spends two in
      subst (λ (e : Entry). IsTrue fits ↔ Fits params less used e) (answered_as said.reply params less said.caller said.moment said.call) three

-- ---- the least kinds

pub moment_fault : (params : Params) (state : State) (used : ℕ) (said : Said) → said.moment < state.moment → IsLeast (EntryFault params state used said) kinds.Moment
moment_fault params state used said early = record { holds = early; least = least }
  where
    least : (other : Kind) → kind_number other < 2 → EntryFault params state used said other → ⊥
    least kinds.Text less f = f
    least kinds.Moment less f = omega (arith, less)
    least kinds.Wait less f = omega (arith, less)
    least kinds.Bytes less f = omega (arith, less)
    least kinds.Reply less f = omega (arith, less)
    least kinds.Cut less f = f
    least kinds.End less f = f

pub wait_fault : (params : Params) (state : State) (used : ℕ) (said : Said) → state.moment ≤ said.moment → (HasWaited state said.caller said.call → ⊥) → IsLeast (EntryFault params state used said) kinds.Wait
wait_fault params state used said order waits = record { holds = waits; least = least }
  where
    least : (other : Kind) → kind_number other < 3 → EntryFault params state used said other → ⊥
    least kinds.Text less f = f
    least kinds.Moment less f = omega (arith, order, f)
    least kinds.Wait less f = omega (arith, less)
    least kinds.Bytes less f = omega (arith, less)
    least kinds.Reply less f = omega (arith, less)
    least kinds.Cut less f = f
    least kinds.End less f = f

pub bytes_fault : (params : Params) (state : State) (used : ℕ) (said : Said) → state.moment ≤ said.moment → HasWaited state said.caller said.call → (Fits params state used (judged_entry params state said) → ⊥) → IsLeast (EntryFault params state used said) kinds.Bytes
bytes_fault params state used said order waited long = record { holds = long; least = least }
  where
    least : (other : Kind) → kind_number other < 4 → EntryFault params state used said other → ⊥
    least kinds.Text less f = f
    least kinds.Moment less f = omega (arith, order, f)
    least kinds.Wait less f = f waited
    least kinds.Bytes less f = omega (arith, less)
    least kinds.Reply less f = omega (arith, less)
    least kinds.Cut less f = f
    least kinds.End less f = f

pub reply_fault : (params : Params) (state : State) (used : ℕ) (said : Said) → state.moment ≤ said.moment → HasWaited state said.caller said.call → Fits params state used (judged_entry params state said) → MayNotShow params state said
    → IsLeast (EntryFault params state used said) kinds.Reply
reply_fault params state used said order waited fits other = record { holds = other; least = least }
  where
    least : (kind : Kind) → kind_number kind < 5 → EntryFault params state used said kind → ⊥
    least kinds.Text less f = f
    least kinds.Moment less f = omega (arith, order, f)
    least kinds.Wait less f = f waited
    least kinds.Bytes less f = f fits
    least kinds.Reply less f = omega (arith, less)
    least kinds.Cut less f = f
    least kinds.End less f = f

-- ---- of a cache that is alongside

module _ (core : Plain) (spent : ℕ) (params : Params) (state : State) (used : ℕ) (said : Said) (limits : core.beginning.params ≡ params) (alike : AreAlike (reached core.beginning core.entries) state) (spends : spent ≡ used) where
  pub early : (newest : ℕ) → newest ≡ (reached core.beginning core.entries).moment → said.moment < newest
      → IsEntryFault params state used said (record { kind = kinds.Moment; expected = expected.Moment newest })
  early newest is less =
      let same = same_moment (reached core.beginning core.entries) state alike in
      record { least = moment_fault params state used said (omega (arith, less, same, is)); expects = sym (is ∙ same) }

  pub later : (reached core.beginning core.entries).moment ≤ said.moment → state.moment ≤ said.moment
  later order = let same = same_moment (reached core.beginning core.entries) state alike in omega (arith, order, same)

  pub waits_here : (token : ℕ) → (reached core.beginning core.entries).moment ≤ said.moment → IsAwaited (reached core.beginning core.entries) said.caller said.call token
      → IsEntryFault params state used said (record { kind = kinds.Wait; expected = expected.Closing token })
  waits_here token order waits = record {
    least = wait_fault params state used said (later order) (λ waited. waits.waits (waited_back (reached core.beginning core.entries) state said.caller said.call alike waited));
    expects = sym (ap (λ (s : State). awaits s said.caller) alike.rest) ∙ waits.is;
  }

  pub waited_here : HasWaited (reached core.beginning core.entries) said.caller said.call → HasWaited state said.caller said.call
  waited_here waited = waited_on (reached core.beginning core.entries) state said.caller said.call alike waited

  pub too_long : (fits : Bool) → fits ≡ false → FitsTold core spent said fits → (reached core.beginning core.entries).moment ≤ said.moment → HasWaited (reached core.beginning core.entries) said.caller said.call
      → IsEntryFault params state used said (record { kind = kinds.Bytes; expected = expected.Fitting })
  too_long fits no_ told order waited =
      let plain = told_plain core spent said fits params (reached core.beginning core.entries) used limits refl spends told in
      record {
        least = bytes_fault params state used said (later order) (waited_here waited)
            (λ long. false≢true (sym no_ ∙ plain.1 (fits_back params (reached core.beginning core.entries) state used said order alike long)));
        expects = tt;
      }

  pub fits_here : (fits : Bool) → fits ≡ true → FitsTold core spent said fits → (reached core.beginning core.entries).moment ≤ said.moment → Fits params state used (judged_entry params state said)
  fits_here fits yes_ told order =
      let plain = told_plain core spent said fits params (reached core.beginning core.entries) used limits refl spends told in
      fits_on params (reached core.beginning core.entries) state used said order alike (plain.0 yes_)

-- what becomes of an entry that fits
pub told_so : (following : Following) (said : Said) (told : Result (Result Following Fault) AllocError) → IfOk told (Answers following said) → (params : Params) (state : State) (used : ℕ) → Stands following params state used
    → Fits params state used (judged_entry params state said) → IfOk told (EndsEntry Stands params state used said)
told_so following said (Ok ends) answers params state used along fits = answers params state used along fits
told_so following said (Err error) answers params state used along fits = tt
