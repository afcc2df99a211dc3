-- A round from its beginning to its end.
use Rattle.std.specs.Prelude.{ℕ, List, [], ◌∷◌, Result, Ok, Err}
use Rattle.http_heads.specs.declared.exchange.Backend.{Backend}
use Rattle.cache_law.specs.declared.call.Call.TheVariants.{Begin}
use Rattle.cache_law.specs.declared.cache.Told.{Told}
use Rattle.cache_law.specs.declared.rounds.Request.{Request}
use Rattle.round_lead.specs.declared.cut.Cut.{Cut}
use Rattle.round_lead.specs.declared.cut.Cut.TheVariants.{HistoryFull, NoMemory, WriteFault}
use Rattle.round_lead.specs.declared.keeping.Progress.{Progress}
use Rattle.round_lead.specs.declared.keeping.Round.{Round}
use Rattle.round_lead.specs.Steps.{At, Did, Refused}
use Rattle.round_lead.specs.Tapes.{ToldIn}
use Rattle.round_lead.specs.Things.{called}
use Rattle.wire.specs.Telling.{LinkTold}

-- what is kept of a round
abbrev pub kept : Request → List ℕ → Progress → Round
kept request peer progress =
    record { request = request; peer = peer; numbers = progress.numbers; exchanges = progress.exchanges; sent = progress.sent }

module _ {L : Type 0} (heard : L → LinkTold) where
  -- the first word was drawn, and then the Begin was answered so
  pub record Begins (x y : At L) (told : Told) : Type 0 where
    pub first : ℕ
    pub drawn : ToldIn x.words y.words first
    pub did : (backends : List ℕ → Backend) → Did heard backends x y (called Begin told ∷ []) []

  -- why a Begin made no entry
  abbrev pub BeginRefused : At L → At L → Cut → Type 0
  BeginRefused x y HistoryFull = Refused y.known x.readings y.readings Begin
  BeginRefused x y NoMemory = Unit {0}
  BeginRefused x y WriteFault = ⊥

  -- the Begin made no entry
  pub record Declined (x y : At L) (cut : Cut) : Type 0 where
    pub did : (backends : List ℕ → Backend) → Did heard backends x y [] []
    pub why : BeginRefused x y cut

  abbrev pub Began : At L → At L → Result Told Cut → Type 0
  Began x y (Ok told) = Begins x y told
  Began x y (Err cut) = Declined x y cut
