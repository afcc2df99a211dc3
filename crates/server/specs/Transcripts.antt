-- What a caller did that led rounds for the requests of a connection.
use Rattle.std.specs.Prelude.{◌≡◌, ◌⊎◌, ℕ, List, [], ◌∷◌, ◌++◌, Option, Some}
use Rattle.std.specs.List.{flat_map}
use Rattle.wire.specs.Flow.{Flow, Moves}
use Rattle.wire.specs.Tapes.{Tape}
use Rattle.wire.specs.Telling.{LinkTold, DialerTold, Gains}
use Rattle.wire.specs.declared.peer.Talk.{Talk}
use Rattle.cache_law.specs.declared.call.Entry.{Entry}
use Rattle.cache_law.specs.Beginning.{Beginning}
use Rattle.shared_cache.specs.Sharing.{CallerKnows}
use Rattle.connection.specs.Requests.{BeginsRequests}
use Rattle.connection.specs.Serving.{Round as Turn, requests_of, sent_of, AllKept, EndsBehind, Stops}
use Rattle.connection.specs.declared.ended.Ended.{Ended}
use Rattle.round_lead.specs.declared.keeping.Round.{Round}
use Rattle.round_lead.specs.Responses.{IsResponse, LedBy}
use Rattle.vcl_runs.specs.Languages.{Language}
use Rattle.round_lead.specs.Seen.{HasCalled}
use Rattle.round_lead.specs.Tapes.{Went, ToldIn, WasDrawn}

-- the places of all rounds, one behind another
abbrev pub all_numbers : List Round → List ℕ
all_numbers rounds = flat_map (λ round. round.numbers.items) rounds

-- What is kept of the round is of this request from the peer, and this was sent for it.
pub record IsOf (peer : List ℕ) (round : Round) (turn : Turn) : Type 0 where
  pub request : (round.request.head, round.request.body) ≡ turn.request
  pub from : round.peer ≡ peer
  pub sent : round.sent.items ≡ turn.sent

module _ {P L : Type 0} (language : Language P) (words : Option ℕ → Type 0) (readings : ℕ → Type 0) (heard : L → LinkTold) where
  -- Each round is the response to the request of its turn, over the history; the talks are those of their exchanges, in order.
  abbrev pub AreResponses : Beginning → List Entry → ℕ → List ℕ → List Round → List Turn → List (Talk L) → Type 0
  AreResponses beginning history caller peer [] [] talks = talks ≡ []
  AreResponses beginning history caller peer (round ∷ rounds) (turn ∷ turns) talks =
      (first : List (Talk L)) × (rest : List (Talk L)) × (talks ≡ first ++ rest) × IsOf peer round turn
      × IsResponse language words readings heard beginning history caller round first turn.answered
      × AreResponses beginning history caller peer rounds turns rest
  AreResponses beginning history caller peer rounds turns talks = ⊥

-- what a caller has when it leads rounds: what its pass knows, and what its clock and its dialer tell
pub record Stand (L : Type 0) : Type 0 where
  pub known : CallerKnows
  pub readings : Option Tape
  pub words : Option Tape
  pub dialer : DialerTold L

-- This round was led, for this turn.
pub record LeadsOne {P L : Type 0} (language : Language P) (heard : L → LinkTold) (peer : List ℕ) (x y : Stand L) (round : Round) (turn : Turn) : Type 0 where
  pub is : IsOf peer round turn
  pub led : LedBy language (WasDrawn x.words y.words) (ToldIn x.readings y.readings) heard x.known y.known x.dialer y.dialer round turn.answered
  pub read : Went x.readings y.readings
  pub drew : Went x.words y.words

-- These rounds were led, one for each turn, in order.
pub record LeadsAll {P L : Type 0} (language : Language P) (heard : L → LinkTold) (peer : List ℕ) (x y : Stand L) (rounds : List Round) (turns : List Turn) : Type 0 where
  pub called : HasCalled x.known y.known (all_numbers rounds)
  pub talks : List (Talk L)
  pub gained : Gains x.dialer y.dialer talks
  pub each : (beginning : Beginning) → y.known.setting ≡ Some beginning
      → AreResponses language (WasDrawn x.words y.words) (ToldIn x.readings y.readings) heard beginning y.known.seen x.known.number peer rounds turns talks
  pub read : Went x.readings y.readings
  pub drew : Went x.words y.words

-- What came over the link begins with the requests of the turns, and `rest` stands behind them; the link took what was sent for
-- them, and then `extra`. So the connection ended.
pub record Heard (turns : List Turn) (before after : Option Flow) (ended : Ended) : Type 0 where
  pub read : List ℕ
  pub rest : List ℕ
  pub extra : List ℕ
  pub moves : Moves before after read (sent_of turns ++ extra)
  pub requests : BeginsRequests read (requests_of turns) rest
  pub left : List ℕ
  pub ends : EndsBehind ended turns left rest extra ⊎ (AllKept turns × Stops ended after left rest extra)
