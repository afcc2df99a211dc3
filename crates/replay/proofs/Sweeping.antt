-- How often the lurker was heard, and what its hearing leaves.
use Rattle.std.proofs.Common.{◌≡◌, ℕ, ◌≤◌, ◌+◌, ◌⊎◌, inl, inr, Bool, true, false, List, [], ◌∷◌, ◌++◌, Option, Some, None, Result, Ok, Err, sum_by, refl, sym, ◌∙◌, ap, subst, arith}
use Rattle.std.proofs.lemmas.List.{append-nil}
use Rattle.std.proofs.lemmas.List.Sums.{sum_by-append, sum_by-cons, sum_by_push}
use Rattle.session_text.specs.declared.session.Line.{Line}
use Rattle.session_text.specs.declared.session.Line.TheVariants as lines
use Rattle.session_text.specs.declared.session.NumberedLine.{NumberedLine}
use Rattle.session_text.specs.declared.session.Session.{Session}
use Rattle.vmod_host.specs.declared.signature.Stored.{Stored}
use Rattle.cache_law.specs.Beginning.{Beginning}
use Rattle.cache_law.specs.declared.call.Entry.{Entry}
use Rattle.cache_law.specs.History.{Legal, bytes_of_all, reached}
use Rattle.replay.specs.declared.event.Event.{Event}
use Rattle.replay.specs.declared.event.Event.TheVariants as events
use Rattle.replay.specs.declared.event.Aside.TheVariants as asides
use Rattle.replay.specs.declared.event.NumberedEvent.{NumberedEvent}
use Rattle.replay.specs.declared.event.Script.{Script}
use Rattle.replay.specs.declared.policy.Request.{Request}
use Rattle.replay.specs.declared.policy.Given.{Given}
use Rattle.replay.specs.declared.rounds.Break.{Break}
use Rattle.replay.specs.declared.rounds.Break.TheVariants as breaks
use Rattle.replay.specs.declared.schedule.Halt.{Halt}
use Rattle.replay.specs.declared.schedule.Halt.TheVariants as halts
use Rattle.replay.specs.declared.session.ReplayError.{ReplayError}
use Rattle.replay.specs.declared.session.ReplayError.TheVariants.{Idle, Unanswered, WriteFault, HistoryFull, NoMemory}
use Rattle.replay.specs.Build.{IsBuilt, IsBuiltAs, StandsFor}
use Rattle.replay.specs.Plan.{Plan}
use Rattle.replay.specs.Pieces.{Pieces}
use Rattle.replay.specs.Replayed.{IsWritten, is_write_fault, refusal_of}
use Rattle.replay.specs.Scene.{Scene, AtRest, hears}
use Rattle.replay.specs.Swept.{IsHeardSo, IsSwept, IsSweptBy, lurk_lines, lurk_of, lurks, lurks_of, number_of}
use Rattle.replay.specs.Waits.{IsSettled, wait_of}
use Rattle.replay.specs.Went.{Went, Stage, IsStage, IsInStep, KeepsCore, ComesTo, Breaks}
use Rattle.replay.proofs.Playing.{changed}
use Rattle.replay.proofs.Runs.{went-one, went-still}
use Rattle.replay.proofs.Taking.{Takes-nil}

-- ---- what the lurker leaves

-- a cache that holds the same
pub core_same : {C : Type 0} (beginning : C → Beginning) (history : C → List Entry) (old new : C) → beginning new ≡ beginning old → history new ≡ history old → KeepsCore beginning history old new
core_same beginning history old new begins holds =
    record {
      same = begins;
      legal = λ legal. subst (λ (b : Beginning). Legal b (history new)) (sym begins) (subst (λ (es : List Entry). Legal (beginning old) es) (sym holds) legal);
      grows = let e : bytes_of_all (history new) ≡ bytes_of_all (history old) = ap bytes_of_all holds in omega arith;
    }

pub step_same : (one two : Beginning) (before now : List Entry) (moment : ℕ) → two ≡ one → now ≡ before → IsInStep one before moment → IsInStep two now moment
step_same one two before now moment begins holds in_step =
    subst (λ (b : Beginning). IsInStep b now moment) (sym begins) (subst (λ (es : List Entry). IsInStep one es moment) (sym holds) in_step)

pub settled_same : {P : Type 0} (one two : Beginning) (stage : Stage P) (now : List Entry) → two ≡ one → now ≡ stage.history → IsSettled one stage → IsSettled two (record stage { history = now })
settled_same one two stage now begins holds settled =
    subst (λ (b : Beginning). IsSettled b (record stage { history = now })) (sym begins)
    (record {
      once = settled.once;
      told = λ client token told. settled.told client token (ap (λ (es : List Entry). wait_of one es client) (sym holds) ∙ told);
    })

module _ {P : Type 0} (plan : Plan) (stands : P → Request → List Given → Type 0) (stage : Stage P) (now : List Entry) (kept : Pieces) (count : ℕ) (scene : Scene) (holds : now ≡ stage.history) where
  -- it is heard, and all is as it was
  pub lurked : IsStage plan stands stage scene → AtRest scene → Went plan scene (events.Aside (asides.Lurk count) ∷ []) stage.history now (ComesTo plan stands AtRest (changed stage (record stage { history = now }) kept kept) (Ok tt))
  lurked is rests =
      went-one plan scene scene (hears (events.Aside (asides.Lurk count))) stage.history now _ (rests, refl) (holds ∙ sym (append-nil stage.history)) (
        rests,
        record {
          at = record { moment_is = is.at.moment_is; state_is = is.at.state_is ∙ ap (λ (es : List Entry). reached plan.beginning es) (sym holds) };
          waiting_are = is.waiting_are;
          parked_are = is.parked_are;
        },
        Takes-nil kept,
      )

  -- memory was wanting for it
  pub lurked_not : (broken : Break) → broken ≡ breaks.NoMemory → Went plan scene [] stage.history now (ComesTo plan stands AtRest (changed stage (record stage { history = now }) kept kept) (Err broken))
  lurked_not broken is = went-still plan scene stage.history now _ holds (subst (λ (b : Break). Breaks plan now kept kept b scene []) (sym is) (Takes-nil kept))

-- ---- how often it was heard

-- one event more
pub heard_more : (played : List NumberedEvent) (one : NumberedEvent) (before after : ℕ) → before ≡ sum_by lurks played → after ≡ before + lurks_of one.event → after ≡ sum_by lurks (played ++ one ∷ [])
heard_more played one before after counts more =
    let e : sum_by lurks (played ++ one ∷ []) ≡ sum_by lurks played + lurks one = sum_by_push lurks played one in omega arith

-- the front of a list has no more of them than the whole
front_has : {X : Type 0} (f : X → ℕ) (xs ys : List X) → sum_by f xs ≤ sum_by f (xs ++ ys)
front_has f xs ys = let e : sum_by f (xs ++ ys) ≡ sum_by f xs + sum_by f ys = sum_by-append f xs ys in omega arith

pub heard_some : (all played : List NumberedEvent) (one : NumberedEvent) (rest : List NumberedEvent) (count : ℕ) → all ≡ played ++ one ∷ rest → count ≡ sum_by lurks played → count ≤ sum_by lurks all
heard_some all played one rest count split counts =
    let e : sum_by lurks all ≡ sum_by lurks (played ++ one ∷ rest) = ap (λ (xs : List NumberedEvent). sum_by lurks xs) split in
    let less = front_has lurks played (one ∷ rest) in omega arith

heard_at_most : (all : List NumberedEvent) (count : ℕ) (result : Result (Unit {0}) Halt) → IsHeardSo all count result → count ≤ sum_by lurks all
heard_at_most all count (Ok u) is = omega (arith, is)
heard_at_most all count (Err (halts.Idle line)) is = heard_some all is.0 is.1 is.2 count is.3 is.5
heard_at_most all count (Err (halts.Broken broken)) is = is

-- by how the session ended
ended_so : (all : List NumberedEvent) (count end : ℕ) (result : Result (Unit {0}) Halt) (nobody : Bool) → IsHeardSo all count result → IsSwept number_of lurks all count (refusal_of result nobody end)
ended_so all count end (Ok u) true is = is
ended_so all count end (Ok u) false is = is
ended_so all count end (Err (halts.Idle line)) nobody is = is
ended_so all count end (Err (halts.Broken breaks.WriteFault)) nobody is = is
ended_so all count end (Err (halts.Broken breaks.HistoryFull)) nobody is = is
ended_so all count end (Err (halts.Broken breaks.NoMemory)) nobody is = is

told_by : (old : Pieces) (held : Option (List ℕ)) (ending told : Option ReplayError) (b : Bool) → is_write_fault ending ≡ b → IsWritten old held ending told → (told ≡ ending) ⊎ (told ≡ Some WriteFault)
told_by old held ending told true fault is = inl (is.fault fault).0
told_by old held ending told false fault is = elim (is.other fault) [
  | inl same ↦ inl same.0
  | inr failed ↦ inr failed.0
]

pub swept_so : (all : List NumberedEvent) (count end : ℕ) (result : Result (Unit {0}) Halt) (nobody : Bool) (old : Pieces) (held : Option (List ℕ)) (ending told : Option ReplayError) → IsHeardSo all count result → ending ≡ refusal_of result nobody end → IsWritten old held ending told → IsSwept number_of lurks all count told
swept_so all count end result nobody old held ending told is ends written = elim (told_by old held ending told (is_write_fault ending) refl written) [
  | inl same ↦ subst (λ (e : Option ReplayError). IsSwept number_of lurks all count e) (sym (same ∙ ends)) (ended_so all count end result nobody is)
  | inr failed ↦ subst (λ (e : Option ReplayError). IsSwept number_of lurks all count e) (sym failed) (heard_at_most all count result is)
]

-- ---- the same of lines

one_lurk : (stored : List Stored) (line : Line) (event : Event) → StandsFor stored line event → lurk_of line ≡ lurks_of event
one_lurk stored (lines.At moment) (events.Moment same) stands = refl
one_lurk stored (lines.Req client text) (events.Request request) stands = refl
one_lurk stored (lines.Reply fetch text) (events.Reply number heard) stands = refl
one_lurk stored (lines.Fail fetch) (events.Reply number heard) stands = refl
one_lurk stored (lines.Cli text) (events.Request request) stands = refl
one_lurk stored (lines.Lurk count) (events.Aside (asides.Lurk same)) stands = refl
one_lurk stored (lines.Probe backend good) (events.Aside (asides.Probe name same)) stands = refl
one_lurk stored line event stands = absurd stands

same_lurks : (stored : List Stored) (told : List NumberedLine) (all : List NumberedEvent) → IsBuiltAs stored told all → sum_by lurk_lines told ≡ sum_by lurks all
same_lurks stored [] [] are = refl
same_lurks stored [] (event ∷ more) are = absurd are
same_lurks stored (line ∷ rest) [] are = absurd are
same_lurks stored (line ∷ rest) (event ∷ more) are =
    let first = one_lurk stored line.line event.event are.1 in
    let later = same_lurks stored rest more are.2 in
    sum_by-cons lurk_lines line rest ∙ (ap (λ (n : ℕ). n + sum_by lurk_lines rest) first ∙ (ap (λ (n : ℕ). lurks event + n) later ∙ sym (sum_by-cons lurks event more)))

-- the lines of the events up to one
record IsSplit (told : List NumberedLine) (played : List NumberedEvent) (idle : NumberedEvent) : Type 0 where
  front : List NumberedLine
  one : NumberedLine
  back : List NumberedLine
  split : told ≡ front ++ one ∷ back
  number : idle.number ≡ one.number
  lurked : sum_by lurk_lines front ≡ sum_by lurks played

lines_split : (stored : List Stored) (told : List NumberedLine) (played : List NumberedEvent) (idle : NumberedEvent) (rest : List NumberedEvent) → IsBuiltAs stored told (played ++ idle ∷ rest) → IsSplit told played idle
lines_split stored [] [] idle rest are = absurd are
lines_split stored [] (event ∷ more) idle rest are = absurd are
lines_split stored (line ∷ others) [] idle rest are = record { front = []; one = line; back = others; split = refl; number = are.0; lurked = refl }
lines_split stored (line ∷ others) (event ∷ more) idle rest are =
    let later = lines_split stored others more idle rest are.2 in
    record {
      front = line ∷ later.front;
      one = later.one;
      back = later.back;
      split = ap (λ (ls : List NumberedLine). line ∷ ls) later.split;
      number = later.number;
      lurked =
          sum_by-cons lurk_lines line later.front
          ∙ (ap (λ (n : ℕ). n + sum_by lurk_lines later.front) (one_lurk stored line.line event.event are.1)
          ∙ (ap (λ (n : ℕ). lurks event + n) later.lurked ∙ sym (sum_by-cons lurks event more)));
    }

module _ (stored : List Stored) (session : Session) (script : Script) (count : ℕ) (built : IsBuilt stored session script) where
  all_same : sum_by lurk_lines session.lines ≡ sum_by lurks script.events
  all_same = same_lurks stored session.lines script.events built.lines_are

  at_most : count ≤ sum_by lurks script.events → count ≤ sum_by lurk_lines session.lines
  at_most less = let same = all_same in omega arith

  pub swept_by : (ending : Option ReplayError) → IsSwept number_of lurks script.events count ending → IsSweptBy session count ending
  swept_by None is = is ∙ sym all_same
  swept_by (Some (Unanswered line)) is = is ∙ sym all_same
  swept_by (Some (Idle line)) is =
      let it = lines_split stored session.lines is.0 is.1 is.2 (subst (λ (es : List NumberedEvent). IsBuiltAs stored session.lines es) is.3 built.lines_are) in
      (it.front, it.one, it.back, it.split, sym it.number ∙ is.4, is.5 ∙ sym it.lurked)
  swept_by (Some WriteFault) is = at_most is
  swept_by (Some HistoryFull) is = at_most is
  swept_by (Some NoMemory) is = at_most is
