-- How a round goes on from what it wants, and how it breaks off.
use Rattle.std.proofs.Common.{◌≡◌, ℕ, List, [], ◌∷◌, ◌++◌, Result, Ok, Err, refl, sym, ◌∙◌, subst, arith}
use Rattle.std.proofs.lemmas.List.{append-nil}
use Rattle.std.specs.Prelude.{OnOk, IfErr}
use Rattle.http_heads.specs.declared.exchange.BackendRequest.{BackendRequest}
use Rattle.backend_link.specs.Exchanges.{asks_head, sent_text}
use Rattle.cache_law.specs.declared.call.Entry.{Entry}
use Rattle.cache_law.specs.Beginning.{Beginning}
use Rattle.replay.specs.declared.policy.Request.{Request}
use Rattle.replay.specs.declared.policy.Given.{Given}
use Rattle.replay.specs.declared.policy.Want.{Want}
use Rattle.replay.specs.declared.policy.Want.TheVariants.{Exchange, Respond, Await, Done}
use Rattle.replay.specs.declared.rounds.Pending.{Pending}
use Rattle.replay.specs.declared.rounds.Kept.{Kept}
use Rattle.replay.specs.declared.rounds.Break.{Break}
use Rattle.replay.specs.declared.rounds.Break.TheVariants.{WriteFault, HistoryFull, NoMemory}
use Rattle.replay.specs.Plan.{Plan, plan_of}
use Rattle.replay.specs.Scene.{Scene, Waiting, Parked, fetch_line, response_line}
use Rattle.replay.specs.Pieces.{Pieces, Takes, Tells}
use Rattle.replay.specs.Went.{Went, Leads, HasTurn, IsPending, IsParked, AllAlike, Stage, IsAt, IsStage, KeepsCore, Meets, Breaks, NobodyRuns, ComesTo}
use Rattle.replay.proofs.Alike.{alike-push}
use Rattle.replay.proofs.Runs.{went-then, went-map, went-still}
use Rattle.replay.proofs.Sending.{responded, exchanged, kept, ended}
use Rattle.replay.proofs.Taking.{Takes-then, Takes-at, LosesEnd-behind, LosesEnd-at}

pub KeepsCore-then : {C : Type 0} (beginning : C → Beginning) (history : C → List Entry) (one two three : C) → KeepsCore beginning history one two → KeepsCore beginning history two three → KeepsCore beginning history one three
KeepsCore-then beginning history one two three p q =
    record { same = q.same ∙ p.same; legal = λ legal. q.legal (p.legal legal); grows = omega (arith, p.grows, q.grows) }

pub KeepsCore-none : {C : Type 0} (beginning : C → Beginning) (history : C → List Entry) (core : C) → KeepsCore beginning history core core
KeepsCore-none beginning history core = record { same = refl; legal = λ legal. legal; grows = omega arith }

-- a text before a break is taken too
pub Breaks-behind : (plan : Plan) (history : List Entry) (one two three : Pieces) (broken : Break) (scene : Scene) (text more : List ℕ) → Takes one two text → Breaks plan history two three broken scene more → Breaks plan history one three broken scene (text ++ more)
Breaks-behind plan history one two three HistoryFull scene text more so b = (b.0, Takes-then one two three text more so b.1)
Breaks-behind plan history one two three WriteFault scene text more so b = LosesEnd-behind one two three.held text more so b
Breaks-behind plan history one two three NoMemory scene text more so b = Takes-then one two three text more so b

-- what the turn doesn't change
pub at_like : (beginning : Beginning) (history : List Entry) (moment : ℕ) (one two : Scene) → IsAt beginning history moment one → two.moment ≡ one.moment → two.state ≡ one.state → IsAt beginning history moment two
at_like beginning history moment one two at m s = record { moment_is = at.moment_is ∙ sym m; state_is = s ∙ at.state_is }

-- a response that isn't taken, or whose end is lost, breaks off
pub respond_breaks : {P : Type 0} (plan : Plan) (stands : P → Request → List Given → Type 0) (policy : P) (client : ℕ) (scene : Scene) (history : List Entry) (response line : List ℕ) (old new : Pieces) (broken : Break) → HasTurn plan.wants stands policy client (Respond response) scene → line ≡ response_line client response → Tells old new line (Err broken) → Went plan scene [] history history (Breaks plan history old new broken)
respond_breaks plan stands policy client scene history response line old new WriteFault turn is told =
    responded plan stands policy client scene history response turn _ (LosesEnd-at old new.held line (response_line client response) is told)
respond_breaks plan stands policy client scene history response line old new NoMemory turn is told = went-still plan scene history history _ refl told
respond_breaks plan stands policy client scene history response line old new HistoryFull turn is told = absurd told

-- what a call meets, from the beginning that the cache has
pub asked_at : {P : Type 0} (wants : Request → List Given → Want → Type 0) (stands : P → Request → List Given → Type 0) (one two : Beginning) (h1 h2 : List Entry) (moment : ℕ) (policy after : P) (client : ℕ) (want : Want) (result : Result Want Break) → two ≡ one
    → ((kept : Pieces) (s : Scene) → IsAt two h1 moment s → HasTurn wants stands policy client want s → Went (plan_of wants two) s [] h1 h2 (Meets (plan_of wants two) stands h2 moment after client kept kept result s))
    → (kept : Pieces) (s : Scene) → IsAt one h1 moment s → HasTurn wants stands policy client want s → Went (plan_of wants one) s [] h1 h2 (Meets (plan_of wants one) stands h2 moment after client kept kept result s)
asked_at wants stands one two h1 h2 moment policy after client want result same met =
    subst (λ (b : Beginning). (kept : Pieces) (s : Scene) → IsAt b h1 moment s → HasTurn wants stands policy client want s → Went (plan_of wants b) s [] h1 h2 (Meets (plan_of wants b) stands h2 moment after client kept kept result s)) same met

module _ {P : Type 0} (plan : Plan) (stands : P → Request → List Given → Type 0) (client : ℕ) where
  -- The round has come so far: it is led so, wants this, and the text was taken.
  pub record SoFar (stage : Stage P) (policy : P) (want : Want) (old new : Pieces) (scene : Scene) (text : List ℕ) : Type 0 where
    pub has_turn : HasTurn plan.wants stands policy client want scene
    pub is_stage : IsStage plan stands stage scene
    pub takes : Takes old new text

  abbrev pub stage_at : ℕ → List (Pending P) → List (Kept P) → List Entry → Stage P
  stage_at moment waiting parked history = record { moment = moment; waiting = waiting; parked = parked; history = history }

  turn_at : (policy : P) (want asked : Want) (scene : Scene) → want ≡ asked → HasTurn plan.wants stands policy client want scene → HasTurn plan.wants stands policy client asked scene
  turn_at policy want asked scene e turn = subst (λ (w : Want). HasTurn plan.wants stands policy client w scene) e turn

  module _ (moment : ℕ) (waiting : List (Pending P)) (parked : List (Kept P)) where
    -- what was wanted was met, and the round wants more
    pub goes_on : (scene : Scene) (h0 h1 h2 : List Entry) (one two three : Pieces) (policy after : P) (want asked next_want : Want) → want ≡ asked
        → Went plan scene [] h0 h1 (SoFar (stage_at moment waiting parked h1) policy want one two)
        → ((s : Scene) → IsAt plan.beginning h1 moment s → HasTurn plan.wants stands policy client asked s → Went plan s [] h1 h2 (Meets plan stands h2 moment after client two three (Ok next_want) s))
        → Went plan scene [] h0 h2 (SoFar (stage_at moment waiting parked h2) after next_want one three)
    goes_on scene h0 h1 h2 one two three policy after want asked next_want is so met =
        went-then plan scene [] [] h0 h1 h2 (SoFar (stage_at moment waiting parked h1) policy want one two) (SoFar (stage_at moment waiting parked h2) after next_want one three) so
        (λ s text f. went-map plan s [] h1 h2 (Meets plan stands h2 moment after client two three (Ok next_want) s) _ (λ next more m.
        record {
          has_turn = m.0.has_turn;
          is_stage = record {
            at = m.0.at;
            waiting_are = subst (λ (ws : List Waiting). AllAlike (IsPending plan.wants stands) waiting ws) (sym m.0.keeps.waiting_same) f.is_stage.waiting_are;
            parked_are = subst (λ (ps : List Parked). AllAlike (IsParked plan.wants stands) parked ps) (sym m.0.keeps.parked_same) f.is_stage.parked_are;
          };
          takes = Takes-then one two three text more f.takes m.1;
        }) (met s f.is_stage.at (turn_at policy want asked s is f.has_turn)))

    -- what was wanted breaks the session off
    pub breaks_off : (scene : Scene) (h0 h1 h2 : List Entry) (one two three : Pieces) (policy after : P) (want asked : Want) (broken : Break) → want ≡ asked
        → Went plan scene [] h0 h1 (SoFar (stage_at moment waiting parked h1) policy want one two)
        → ((s : Scene) → IsAt plan.beginning h1 moment s → HasTurn plan.wants stands policy client asked s → Went plan s [] h1 h2 (Meets plan stands h2 moment after client two three (Err broken) s))
        → Went plan scene [] h0 h2 (Breaks plan h2 one three broken)
    breaks_off scene h0 h1 h2 one two three policy after want asked broken is so met =
        went-then plan scene [] [] h0 h1 h2 (SoFar (stage_at moment waiting parked h1) policy want one two) (Breaks plan h2 one three broken) so
        (λ s text f. went-map plan s [] h1 h2 (Meets plan stands h2 moment after client two three (Err broken) s) _
        (λ next more b. Breaks-behind plan h2 one two three broken next text more f.takes b) (met s f.is_stage.at (turn_at policy want asked s is f.has_turn)))

    -- the exchange that was wanted
    pub exchange_rests : (scene : Scene) (h0 h1 : List Entry) (one two three : Pieces) (one_more : Pending P) (want : Want) (backend : List ℕ) (request : BackendRequest) (waiting' : List (Pending P)) (result : Result (Unit {0}) Break) → one_more.client ≡ client → one_more.to_head ≡ asks_head request → want ≡ Exchange one_more.number backend request
        → Tells two three (fetch_line one_more.number backend (sent_text request)) result → OnOk result (waiting' ≡ waiting ++ one_more ∷ [])
        → Went plan scene [] h0 h1 (SoFar (stage_at moment waiting parked h1) one_more.policy want one two)
        → (before : Stage P) → Went plan scene [] h0 h1 (ComesTo plan stands NobodyRuns (record { before = before; after = stage_at moment waiting' parked h1; old = one; new = three }) result)
    exchange_rests scene h0 h1 one two three one_more want backend request waiting' (Ok u) mine asks is told more so before =
        went-then plan scene [] [] h0 h1 h1 (SoFar (stage_at moment waiting parked h1) one_more.policy want one two) _ so
        (λ s text f.
        let turn = turn_at one_more.policy want (Exchange one_more.number backend request) s is f.has_turn in
        let waits : Waiting = record { number = one_more.number; to_head = asks_head request; round = turn.round } in
        let is_one : IsPending plan.wants stands one_more waits = record { number_is = refl; to_head_is = asks; backend = backend; request = request; leads = subst (λ (n : ℕ). Leads plan.wants stands one_more.policy n (Exchange one_more.number backend request) turn.round) (sym mine) turn.leads } in
        exchanged plan stands one_more.policy client s h1 one_more.number backend request turn _ (
          refl,
          record {
            at = at_like plan.beginning h1 moment s _ f.is_stage.at refl refl;
            waiting_are = subst (λ (ps : List (Pending P)). AllAlike (IsPending plan.wants stands) ps (s.waiting ++ waits ∷ [])) (sym more) (alike-push (IsPending plan.wants stands) waiting s.waiting one_more waits f.is_stage.waiting_are is_one);
            parked_are = f.is_stage.parked_are;
          },
          Takes-then one two three text (fetch_line one_more.number backend (sent_text request)) f.takes told,
        ))
    exchange_rests scene h0 h1 one two three one_more want backend request waiting' (Err WriteFault) mine asks is told more so before =
        went-then plan scene [] [] h0 h1 h1 (SoFar (stage_at moment waiting parked h1) one_more.policy want one two) _ so
        (λ s text f.
        exchanged plan stands one_more.policy client s h1 one_more.number backend request (turn_at one_more.policy want (Exchange one_more.number backend request) s is f.has_turn) _
        (LosesEnd-behind one two three.held text (fetch_line one_more.number backend (sent_text request)) f.takes told))
    exchange_rests scene h0 h1 one two three one_more want backend request waiting' (Err NoMemory) mine asks is told more so before =
        went-then plan scene [] [] h0 h1 h1 (SoFar (stage_at moment waiting parked h1) one_more.policy want one two) _ so
        (λ s text f. went-still plan s h1 h1 _ refl (Takes-then one two three text [] f.takes told))
    exchange_rests scene h0 h1 one two three one_more want backend request waiting' (Err HistoryFull) mine asks is told more so before = absurd told

    -- the token that was wanted closed
    pub park_rests : (scene : Scene) (h0 h1 : List Entry) (one two : Pieces) (one_more : Kept P) (want : Want) (parked' : List (Kept P)) (result : Result (Unit {0}) Break) → one_more.client ≡ client → want ≡ Await one_more.token
        → OnOk result (parked' ≡ parked ++ one_more ∷ []) → IfErr result (λ broken. broken ≡ NoMemory)
        → Went plan scene [] h0 h1 (SoFar (stage_at moment waiting parked h1) one_more.policy want one two)
        → (before : Stage P) → Went plan scene [] h0 h1 (ComesTo plan stands NobodyRuns (record { before = before; after = stage_at moment waiting parked' h1; old = one; new = two }) result)
    park_rests scene h0 h1 one two one_more want parked' (Ok u) mine is more only so before =
        went-then plan scene [] [] h0 h1 h1 (SoFar (stage_at moment waiting parked h1) one_more.policy want one two) _ so
        (λ s text f.
        let turn = turn_at one_more.policy want (Await one_more.token) s is f.has_turn in
        let waits : Parked = record { token = one_more.token; round = turn.round } in
        let is_one : IsParked plan.wants stands one_more waits = record { token_is = refl; leads = subst (λ (n : ℕ). Leads plan.wants stands one_more.policy n (Await one_more.token) turn.round) (sym mine) turn.leads } in
        kept plan stands one_more.policy client s h1 one_more.token turn _ (
          refl,
          record {
            at = at_like plan.beginning h1 moment s _ f.is_stage.at refl refl;
            waiting_are = f.is_stage.waiting_are;
            parked_are = subst (λ (ps : List (Kept P)). AllAlike (IsParked plan.wants stands) ps (s.parked ++ waits ∷ [])) (sym more) (alike-push (IsParked plan.wants stands) parked s.parked one_more waits f.is_stage.parked_are is_one);
          },
          Takes-at one two text (text ++ []) (sym (append-nil text)) f.takes,
        ))
    park_rests scene h0 h1 one two one_more want parked' (Err broken) mine is more only so before =
        went-then plan scene [] [] h0 h1 h1 (SoFar (stage_at moment waiting parked h1) one_more.policy want one two) _ so
        (λ s text f. went-still plan s h1 h1 _ refl (subst (λ (b : Break). Breaks plan h1 one two b s (text ++ [])) (sym only) (Takes-at one two text (text ++ []) (sym (append-nil text)) f.takes)))

    pub done_rests : (scene : Scene) (h0 h1 : List Entry) (one two : Pieces) (policy : P) (want : Want) → want ≡ Done
        → Went plan scene [] h0 h1 (SoFar (stage_at moment waiting parked h1) policy want one two)
        → (before : Stage P) → Went plan scene [] h0 h1 (ComesTo plan stands NobodyRuns (record { before = before; after = stage_at moment waiting parked h1; old = one; new = two }) (Ok tt))
    done_rests scene h0 h1 one two policy want is so before =
        went-then plan scene [] [] h0 h1 h1 (SoFar (stage_at moment waiting parked h1) policy want one two) _ so
        (λ s text f. ended plan stands policy client s h1 (turn_at policy want Done s is f.has_turn) _
        (refl, record { at = at_like plan.beginning h1 moment s _ f.is_stage.at refl refl; waiting_are = f.is_stage.waiting_are; parked_are = f.is_stage.parked_are }, Takes-at one two text (text ++ []) (sym (append-nil text)) f.takes))
