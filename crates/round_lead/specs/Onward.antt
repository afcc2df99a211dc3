-- How a round goes on from where it stands.
use Rattle.std.specs.Prelude.{◌≡◌, ◌⊎◌, ℕ, Bool, true, false, List, [], ◌∷◌, ◌++◌, Option}
use Rattle.http_heads.specs.declared.exchange.Backend.{Backend}
use Rattle.wire.specs.Tapes.{Tape}
use Rattle.wire.specs.Telling.{LinkTold}
use Rattle.vcl_context.specs.declared.turn.Answer.{Answer}
use Rattle.vcl_runs.specs.Runs.{Ran}
use Rattle.cache_law.specs.declared.call.Call.{Call}
use Rattle.cache_law.specs.declared.call.Call.TheVariants as call
use Rattle.cache_law.specs.declared.cache.Told.{Told}
use Rattle.cache_law.specs.declared.rounds.Given.{Given}
use Rattle.cache_law.specs.declared.rounds.Given.TheVariants as given
use Rattle.cache_law.specs.declared.rounds.Request.{Request}
use Rattle.vcl_runs.specs.Evaluators.{Evaluator}
use Rattle.round_task.specs.declared.place.Place.{Place}
use Rattle.round_task.specs.declared.want.Want.{Want}
use Rattle.round_task.specs.declared.want.Want.TheVariants.{Cache}
use Rattle.round_task.specs.Happened.{Happened, behind, bytes_of, bytes_for}
use Rattle.round_task.specs.Standing.{StandsAt}
use Rattle.round_lead.specs.declared.cut.Cut.{Cut}
use Rattle.round_lead.specs.declared.cut.Cut.TheVariants.{NoMemory}
use Rattle.round_task.specs.Responses.{WantsBy}
use Rattle.round_lead.specs.Responses.{CutBy}
use Rattle.vcl_runs.specs.Languages.{Language}
use Rattle.round_lead.specs.Steps.{At, Did, Refused}
use Rattle.round_lead.specs.Tapes.{Went, WasDrawn}
use Rattle.round_lead.specs.Things.{Runs, Suits, text_told}

-- the thing that was wanted, and given so
abbrev pub happened : Want → Given → Happened
happened want given = record { want = want; given = given }

module _ {M : Type 0} (e : Evaluator) (stands : M → Ran → Type 0) (fits : M → Answer → Type 0) where
  -- A round of the request from the peer stands here after these givens, and wants this, by a word of this kind.
  pub record IsStanding (request : Request) (peer : List ℕ) (givens : List Given) (words : Option ℕ → Type 0) (place : Place M) (want : Want) : Type 0 where
    pub there : StandsAt e stands fits request peer givens place
    pub wants : WantsBy e words request peer givens want

  -- Whatever round stood there and wanted that: these things happened in it, and now it stands here and wants this. The words
  -- that were drawn are told since it began.
  abbrev pub Carries : Place M → Want → Option Tape → Place M → Want → Option Tape → List Happened → Type 0
  Carries place want words place' want' words' steps =
      (request : Request) (peer : List ℕ) (givens : List Given) (since : Option Tape)
      → IsStanding request peer givens (WasDrawn since words) place want
      → Runs (WantsBy e (WasDrawn since words') request peer) givens steps
      × IsStanding request peer (behind givens steps) (WasDrawn since words') place' want'

  -- The same where it stops: why no more of it was given.
  abbrev pub CarriesTo : Place M → Want → Option Tape → Option Tape → (Call → Type 0) → Cut → List Happened → List Happened → List ℕ → Type 0
  CarriesTo place want words words' refused cut steps extra part =
      (request : Request) (peer : List ℕ) (givens : List Given) (since : Option Tape)
      → IsStanding request peer givens (WasDrawn since words) place want
      → Runs (WantsBy e (WasDrawn since words') request peer) givens steps
      × CutBy (WantsBy e (WasDrawn since words') request peer (behind givens steps)) refused cut extra part

  module _ {L : Type 0} (heard : L → LinkTold) (backends : List ℕ → Backend) where
    -- It went on from one to the other.
    pub record Goes (place : Place M) (want : Want) (x y : At L) (place' : Place M) (want' : Want) : Type 0 where
      pub steps : List Happened
      pub did : Did heard backends x y steps (bytes_of steps)
      pub carries : Carries place want x.words place' want' y.words steps

    -- It stopped.
    pub record Stops (place : Place M) (want : Want) (x y : At L) (cut : Cut) : Type 0 where
      pub steps : List Happened
      pub extra : List Happened
      pub part : List ℕ
      pub did : Did heard backends x y (steps ++ extra) (bytes_of steps ++ part)
      pub so : CarriesTo place want x.words y.words (Refused y.known x.readings y.readings) cut steps extra part

module _ {L : Type 0} (heard : L → LinkTold) (backends : List ℕ → Backend) where
  -- What was wanted happened, and was given so.
  pub record Gives (x y : At L) (want : Want) (given : Given) : Type 0 where
    pub suits : Suits want given
    pub did : Did heard backends x y (happened want given ∷ []) (bytes_for want given)

  -- It didn't.
  pub record Halts (x y : At L) (want : Want) (cut : Cut) : Type 0 where
    pub extra : List Happened
    pub part : List ℕ
    pub did : Did heard backends x y extra part
    pub so : CutBy (λ other. other ≡ want) (Refused y.known x.readings y.readings) cut extra part

  -- It happened, and memory was wanting to go on.
  pub record Stalls (x y : At L) (want : Want) (cut : Cut) : Type 0 where
    pub is : cut ≡ NoMemory
    pub given : Given
    pub gives : Gives x y want given

  abbrev pub Fails : At L → At L → Want → Cut → Type 0
  Fails x y want cut = Halts x y want cut ⊎ Stalls x y want cut

-- the round's end is wanted
abbrev pub is_last : Want → Bool
is_last (Cache call.End) = true
is_last want = false

-- What came of a round behind its Begin, which was told this; `since` is when its first word was drawn.
module _ {P L : Type 0} (language : Language P) (heard : L → LinkTold) (request : Request) (peer : List ℕ) (told : Told) where
  abbrev pub WantsNow : P → Option Tape → Option Tape → List Happened → Want → Type 0
  WantsNow program since until steps want =
      WantsBy (language.evaluator program) (WasDrawn since until) request peer (behind (given.Reply told ∷ []) steps) want

  -- its End is wanted
  pub record Whole (x y : At L) : Type 0 where
    pub program : P
    pub ran : language.programs (text_told told.reply) program
    pub steps : List Happened
    pub did : Did heard (language.backends program) x y steps (bytes_of steps)
    pub runs : (since : Option Tape) → Went since x.words
        → Runs (WantsBy (language.evaluator program) (WasDrawn since y.words) request peer) (given.Reply told ∷ []) steps
        × WantsNow program since y.words steps (Cache call.End)

  -- it is cut short
  pub record Cuts (x y : At L) (cut : Cut) : Type 0 where
    pub program : P
    pub ran : language.programs (text_told told.reply) program
    pub steps : List Happened
    pub extra : List Happened
    pub part : List ℕ
    pub did : Did heard (language.backends program) x y (steps ++ extra) (bytes_of steps ++ part)
    pub so : (since : Option Tape) → Went since x.words
        → Runs (WantsBy (language.evaluator program) (WasDrawn since y.words) request peer) (given.Reply told ∷ []) steps
        × CutBy (WantsNow program since y.words steps) (Refused y.known x.readings y.readings) cut extra part

  -- there was no memory for its program
  pub record HasNone (x y : At L) (cut : Cut) : Type 0 where
    pub is : cut ≡ NoMemory
    pub same : y ≡ x

  abbrev pub Breaks : At L → At L → Cut → Type 0
  Breaks x y cut = Cuts x y cut ⊎ HasNone x y cut
