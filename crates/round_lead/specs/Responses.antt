-- What is kept of a round, as a response over the history: which round it was, and what its client was sent.
use Rattle.std.specs.Prelude.{◌≡◌, ◌⊎◌, ⊤, ℕ, ◌+◌, Bool, true, false, List, [], ◌∷◌, ◌++◌, length, Option, Some}
use Rattle.std.specs.List.{AllByRecursion}
use Rattle.http_heads.specs.declared.exchange.Exchange.TheVariants.{NoMemory as Failed}
use Rattle.wire.specs.Telling.{LinkTold, DialerTold, Gains}
use Rattle.wire.specs.declared.peer.Talk.{Talk}
use Rattle.cache_law.specs.declared.call.Call.{Call}
use Rattle.cache_law.specs.declared.call.Call.TheVariants.{Begin, End}
use Rattle.cache_law.specs.declared.call.Entry.{Entry}
use Rattle.cache_law.specs.declared.cache.Told.{Told}
use Rattle.cache_law.specs.declared.rounds.Given.{Given}
use Rattle.cache_law.specs.declared.rounds.Given.TheVariants as given
use Rattle.cache_law.specs.Beginning.{Beginning}
use Rattle.cache_law.specs.Core.{FitsBehind, entry_of, moment_of}
use Rattle.delivery.specs.declared.finishing.Delivery.{Delivery}
use Rattle.delivery.specs.Sent.{delivery_text}
use Rattle.shared_cache.specs.Sharing.{CallerKnows}
use Rattle.connection.specs.declared.ended.Answered.{Answered}
use Rattle.connection.specs.declared.ended.Answered.TheVariants as answered
use Rattle.vcl_runs.specs.Languages.{Language}
use Rattle.round_task.specs.declared.want.Want.{Want}
use Rattle.round_task.specs.declared.want.Want.TheVariants.{Cache, Exchange, Send}
use Rattle.round_task.specs.Responses.{WantsBy}
use Rattle.round_task.specs.Happened.{Happened, behind, entries_of, exchanges_of, bytes_of}
use Rattle.round_lead.specs.declared.keeping.Round.{Round}
use Rattle.round_lead.specs.declared.cut.Cut.{Cut}
use Rattle.round_lead.specs.declared.cut.Cut.TheVariants.{HistoryFull, NoMemory, WriteFault}
use Rattle.round_lead.specs.Seen.{HasCalled, StandsAt, StandAt, RiseIn}
use Rattle.round_lead.specs.Talks.{TalksOf}
use Rattle.round_lead.specs.Things.{Runs, ended, text_of, closes_of}

-- ---- why a round was cut short

-- The call doesn't fit a front of the history that has all these places, at a moment by a reading of the clock.
pub record DidntFit (readings : ℕ → Type 0) (beginning : Beginning) (history : List Entry) (caller : ℕ) (places : List ℕ) (call : Call) : Type 0 where
  pub front : List Entry
  pub more : List Entry
  pub begins : history ≡ front ++ more
  pub has : RiseIn 0 (beginning.base.entries + length front) places
  pub reading : ℕ
  pub read : readings reading
  pub full : ¬ FitsBehind beginning front caller (moment_of beginning front reading) call

-- an exchange for which memory was wanting
abbrev pub IsUntold : Want → Given → Type 0
IsUntold (Exchange number backend request) (given.Exchange got) = got.exchange ≡ Failed
IsUntold want other = ⊥

-- memory was wanting for the exchange that is wanted, or for nothing that is kept
abbrev pub WasUntold : (Want → Type 0) → List Happened → Type 0
WasUntold wants [] = ⊤
WasUntold wants (one ∷ []) = wants one.want × IsUntold one.want one.given
WasUntold wants (one ∷ more) = ⊥

-- Why no more of it was given: `extra` happened and wasn't given, and `part` of the response was sent. `wants` is what is
-- wanted behind what was given.
abbrev pub CutBy : (Want → Type 0) → (Call → Type 0) → Cut → List Happened → List ℕ → Type 0
CutBy wants refused NoMemory extra part = (part ≡ []) × WasUntold wants extra
CutBy wants refused HistoryFull extra part = (call : Call) × (extra ≡ []) × (part ≡ []) × wants (Cache call) × refused call
CutBy wants refused WriteFault extra part =
    (delivery : Delivery) × (rest : List ℕ) × (extra ≡ []) × wants (Send delivery) × (delivery_text delivery ≡ part ++ rest)

-- the Begin of a round was refused
abbrev pub RefusedBegin : (ℕ → Type 0) → Beginning → List Entry → ℕ → Cut → Type 0
RefusedBegin readings beginning history caller NoMemory = ⊤
RefusedBegin readings beginning history caller HistoryFull = DidntFit readings beginning history caller [] Begin
RefusedBegin readings beginning history caller WriteFault = ⊥

-- What the words of directors are, and the readings of the clock. Each exchange's moment is one of these.
module _ {P L : Type 0} (language : Language P) (words : Option ℕ → Type 0) (readings : ℕ → Type 0) (heard : L → LinkTold) where
  -- A whole round: these things happened in it, and the last is its End.
  pub record Tells (beginning : Beginning) (history : List Entry) (caller : ℕ) (round : Round) (talks : List (Talk L)) (closes : Bool) : Type 0 where
    pub program : P
    pub steps : List Happened
    pub ran : language.programs (text_of steps) program
    pub runs : Runs (WantsBy (language.evaluator program) words round.request round.peer) [] steps
    pub front : List Happened
    pub closing : Told
    pub to_its_end : steps ≡ front ++ ended closing ∷ []
    pub stand : StandAt beginning.base.entries history round.numbers.items (entries_of caller steps)
    pub rise : RiseIn 0 (beginning.base.entries + length history) round.numbers.items
    pub exchanges_are : round.exchanges.items ≡ exchanges_of steps
    pub sent_is : round.sent.items ≡ bytes_of steps
    pub timed : AllByRecursion (λ got. readings got.moment) round.exchanges.items
    pub talked : TalksOf heard (language.backends program) steps talks
    pub closes_is : closes_of steps ≡ closes

  -- One that was cut short behind `steps`, and was closed by an End.
  pub record TellsCut (beginning : Beginning) (history : List Entry) (caller : ℕ) (round : Round) (talks : List (Talk L)) (cut : Cut) : Type 0 where
    pub program : P
    pub steps : List Happened
    pub ran : language.programs (text_of steps) program
    pub runs : Runs (WantsBy (language.evaluator program) words round.request round.peer) [] steps
    pub extra : List Happened
    pub part : List ℕ
    pub places : List ℕ
    pub closed : ℕ
    pub closing : Told
    pub cut_so : CutBy (WantsBy (language.evaluator program) words round.request round.peer (behind [] steps)) (DidntFit readings beginning history caller places) cut extra part
    pub places_are : round.numbers.items ≡ places ++ closed ∷ []
    pub stand : StandAt beginning.base.entries history places (entries_of caller steps)
    pub ends : StandsAt beginning.base.entries history closed (entry_of caller End closing)
    pub rise : RiseIn 0 (beginning.base.entries + length history) round.numbers.items
    pub exchanges_are : round.exchanges.items ≡ exchanges_of (steps ++ extra)
    pub sent_is : round.sent.items ≡ bytes_of steps ++ part
    pub timed : AllByRecursion (λ got. readings got.moment) round.exchanges.items
    pub talked : TalksOf heard (language.backends program) (steps ++ extra) talks

  -- One whose Begin was refused.
  pub record NeverBegan (beginning : Beginning) (history : List Entry) (caller : ℕ) (round : Round) (talks : List (Talk L)) (cut : Cut) : Type 0 where
    pub refused : RefusedBegin readings beginning history caller cut
    pub no_place : round.numbers.items ≡ []
    pub no_exchange : round.exchanges.items ≡ []
    pub nothing_sent : round.sent.items ≡ []
    pub no_talk : talks ≡ []

  -- One whose VCL couldn't be had for want of memory: no more than its Begin and its End.
  pub record OnlyBegan (beginning : Beginning) (history : List Entry) (caller : ℕ) (round : Round) (talks : List (Talk L)) : Type 0 where
    pub opened : ℕ
    pub closed : ℕ
    pub opening : Told
    pub closing : Told
    pub begins : StandsAt beginning.base.entries history opened (entry_of caller Begin opening)
    pub ends : StandsAt beginning.base.entries history closed (entry_of caller End closing)
    pub places_are : round.numbers.items ≡ opened ∷ closed ∷ []
    pub rise : RiseIn 0 (beginning.base.entries + length history) round.numbers.items
    pub no_exchange : round.exchanges.items ≡ []
    pub nothing_sent : round.sent.items ≡ []
    pub no_talk : talks ≡ []

  -- What is kept of a round is a response over the history, whole or cut short; the talks are those of its exchanges.
  abbrev pub IsResponse : Beginning → List Entry → ℕ → Round → List (Talk L) → Answered → Type 0
  IsResponse beginning history caller round talks answered.Kept = Tells beginning history caller round talks false
  IsResponse beginning history caller round talks answered.Closes = Tells beginning history caller round talks true
  IsResponse beginning history caller round talks answered.WriteFault = TellsCut beginning history caller round talks WriteFault
  IsResponse beginning history caller round talks answered.HistoryFull =
      TellsCut beginning history caller round talks HistoryFull ⊎ NeverBegan beginning history caller round talks HistoryFull
  IsResponse beginning history caller round talks answered.NoMemory =
      TellsCut beginning history caller round talks NoMemory
      ⊎ OnlyBegan beginning history caller round talks
      ⊎ NeverBegan beginning history caller round talks NoMemory

  -- A round was led, from what the caller's pass knew and the dialer told to what they then do.
  pub record LedBy (k k' : CallerKnows) (told told' : DialerTold L) (round : Round) (how : Answered) : Type 0 where
    pub beginning : Beginning
    pub begins : k'.setting ≡ Some beginning
    pub called : HasCalled k k' round.numbers.items
    pub talks : List (Talk L)
    pub gained : Gains told told' talks
    pub response : IsResponse beginning k'.seen k.number round talks how
