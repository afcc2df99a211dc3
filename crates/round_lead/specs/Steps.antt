-- What leading a round changes, step by step.
use Rattle.std.specs.Prelude.{◌≡◌, ℕ, ◌<◌, Bool, true, false, ◌||◌, List, [], ◌∷◌, ◌++◌, length, Option, Some}
use Rattle.std.specs.List.{AllByRecursion}
use Rattle.std.specs.Vec.{vec_capacity}
use Rattle.http_heads.specs.declared.exchange.Backend.{Backend}
use Rattle.http_heads.specs.declared.exchange.BackendRequest.{BackendRequest}
use Rattle.http_heads.specs.declared.exchange.Got.{Got}
use Rattle.wire.specs.Flow.{Flow, Moves}
use Rattle.wire.specs.Tapes.{Tape, Tells}
use Rattle.wire.specs.Telling.{LinkTold, DialerTold, Gains, dialer_told_by}
use Rattle.wire.specs.declared.peer.Talk.{Talk}
use Rattle.cache_law.specs.declared.call.Call.{Call}
use Rattle.cache_law.specs.declared.cache.Told.{Told}
use Rattle.cache_law.specs.declared.cache.StepError.{StepError}
use Rattle.cache_law.specs.declared.cache.StepError.TheVariants as step
use Rattle.cache_law.specs.Core.{FitsBehind, moment_of}
use Rattle.cache_law.specs.Beginning.{Beginning}
use Rattle.turnstile.specs.Handles.{known}
use Rattle.shared_cache.specs.Sharing.{CallerKnows, Called, made_before}
use Rattle.round_task.specs.Happened.{Happened, entries_of, exchanges_of}
use Rattle.delivery.specs.declared.finishing.Delivery.{Delivery}
use Rattle.delivery.specs.Sent.{delivery_text}
use Rattle.round_lead.specs.declared.cut.Cut.{Cut}
use Rattle.round_lead.specs.declared.cut.Cut.TheVariants.{HistoryFull, NoMemory, WriteFault}
use Rattle.round_lead.specs.declared.keeping.Progress.{Progress}
use Rattle.round_lead.specs.declared.site.Shift.{Shift}
use Rattle.round_lead.specs.Seen.{HasCalled, StandAt, RiseIn, count_seen}
use Rattle.round_lead.specs.Tapes.{Went, ToldIn}
use Rattle.round_lead.specs.Talks.{TalksBy, TalksOf}
use Rattle.round_lead.specs.Things.{closes_of, says_close}

-- all that a round may change: what the caller's pass knows, what went over the link, what the clock and the dialer tell, and what
-- is kept of the round
pub record At (L : Type 0) : Type 0 where
  pub known : CallerKnows
  pub flow : Option Flow
  pub readings : Option Tape
  pub words : Option Tape
  pub dialer : DialerTold L
  pub places : List ℕ
  pub exchanges : List Got
  pub sent : List ℕ
  pub closes : Bool

abbrev pub stood : {D K Q L : Type 0} → (D → Option (List (Talk L))) → (D → ℕ) → (K → Option Tape) → (K → Option Tape) → Shift D K Q → Option Flow → Progress → At L
stood talks dial_faults readings words shift flow progress =
    record {
      known = known shift.pass;
      flow = flow;
      readings = readings shift.kit.clock;
      words = words shift.kit.clock;
      dialer = dialer_told_by talks dial_faults shift.kit.dialer;
      places = progress.numbers.items;
      exchanges = progress.exchanges.items;
      sent = progress.sent.items;
      closes = progress.closes;
    }

-- These things happened, from one to the other, and so many bytes were sent.
pub record Did {L : Type 0} (heard : L → LinkTold) (backends : List ℕ → Backend) (x y : At L) (steps : List Happened) (sent : List ℕ) : Type 0 where
  pub places : List ℕ
  pub called : HasCalled x.known y.known places
  pub places_are : y.places ≡ x.places ++ places
  pub stand : StandAt (made_before y.known) y.known.seen places (entries_of x.known.number steps)
  pub rise : RiseIn (count_seen x.known) (count_seen y.known) places
  pub exchanges_are : y.exchanges ≡ x.exchanges ++ exchanges_of steps
  pub timed : AllByRecursion (λ got. ToldIn x.readings y.readings got.moment) (exchanges_of steps)
  pub sent_are : y.sent ≡ x.sent ++ sent
  pub moves : Moves x.flow y.flow [] sent
  pub talks : List (Talk L)
  pub gained : Gains x.dialer y.dialer talks
  pub talked : TalksOf heard backends steps talks
  pub closes_are : y.closes ≡ (x.closes || closes_of steps)
  pub read : Went x.readings y.readings
  pub drew : Went x.words y.words

-- while the caller's round is open there is room for the place of its End
abbrev pub CanClose : Progress → Type 0
CanClose progress = progress.is_open ≡ true → length progress.numbers.items < vec_capacity progress.numbers

-- nothing more is kept of the exchanges and of the response
pub record SameRest (p p' : Progress) : Type 0 where
  pub exchanges : p'.exchanges.items ≡ p.exchanges.items
  pub sent : p'.sent.items ≡ p.sent.items
  pub closes : p'.closes ≡ p.closes

-- One call was made, and its place is kept.
pub record Makes (k k' : CallerKnows) (reads reads' : Option Tape) (p p' : Progress) (call : Call) (told : Told) : Type 0 where
  pub reading : ℕ
  pub read : Tells reads reads' reading
  pub called : Called k k' reading call told
  pub knows : k' ≡ record k { seen = k'.seen }
  pub places_are : p'.numbers.items ≡ p.numbers.items ++ told.place ∷ []
  pub rest : SameRest p p'

-- The call doesn't fit what the pass has seen, at a moment by a reading that was told meanwhile.
pub record Refused (k' : CallerKnows) (reads reads' : Option Tape) (call : Call) : Type 0 where
  pub beginning : Beginning
  pub begins : k'.setting ≡ Some beginning
  pub reading : ℕ
  pub read : ToldIn reads reads' reading
  pub full : ¬ FitsBehind beginning k'.seen k'.number (moment_of beginning k'.seen reading) call

abbrev pub RefusedFor : StepError → CallerKnows → Option Tape → Option Tape → Call → Type 0
RefusedFor step.HistoryFull k' reads reads' call = Refused k' reads reads' call
RefusedFor step.NoMemory k' reads reads' call = Unit {0}
RefusedFor step.SegmentFull k' reads reads' call = ⊥

-- No call was made, or it was declined.
pub record Declines (k k' : CallerKnows) (reads reads' : Option Tape) (p p' : Progress) (call : Call) (error : StepError) : Type 0 where
  pub called : HasCalled k k' []
  pub went : Went reads reads'
  pub places_are : p'.numbers.items ≡ p.numbers.items
  pub rest : SameRest p p'
  pub why : RefusedFor error k' reads reads' call

-- One exchange was made, and is kept.
pub record Exchanges {L : Type 0} (heard : L → LinkTold) (backend : Backend) (request : BackendRequest) (reads reads' : Option Tape)
    (dialer dialer' : DialerTold L) (p p' : Progress) (got : Got) : Type 0 where
  pub read : Tells reads reads' got.moment
  pub more : List (Talk L)
  pub gained : Gains dialer dialer' more
  pub by : TalksBy heard backend request got.exchange more
  pub exchanges_are : p'.exchanges.items ≡ p.exchanges.items ++ got ∷ []
  pub places_are : p'.numbers ≡ p.numbers
  pub sent_are : p'.sent.items ≡ p.sent.items
  pub closes_are : p'.closes ≡ p.closes
  pub open_is : p'.is_open ≡ p.is_open

-- nothing happened yet
pub record IsFirst (progress : Progress) : Type 0 where
  pub no_place : progress.numbers.items ≡ []
  pub no_exchange : progress.exchanges.items ≡ []
  pub nothing_sent : progress.sent.items ≡ []
  pub shut : progress.is_open ≡ false
  pub stays : progress.closes ≡ false

-- why a response isn't sent whole
abbrev pub IsCutSending : Cut → List ℕ → Type 0
IsCutSending NoMemory part = part ≡ []
IsCutSending HistoryFull part = ⊥
IsCutSending WriteFault part = Unit {0}

-- nothing more is kept of the calls and of the exchanges
pub record SameCalls (p p' : Progress) : Type 0 where
  pub numbers : p'.numbers ≡ p.numbers
  pub exchanges : p'.exchanges ≡ p.exchanges
  pub opened : p'.is_open ≡ p.is_open

-- The response was sent whole.
pub record Sends (before after : Option Flow) (p p' : Progress) (delivery : Delivery) : Type 0 where
  pub moves : Moves before after [] (delivery_text delivery)
  pub sent_are : p'.sent.items ≡ p.sent.items ++ delivery_text delivery
  pub closes_are : p'.closes ≡ (p.closes || says_close delivery)
  pub rest : SameCalls p p'

-- A part of the response was sent: none, where memory was wanting.
pub record SendsPart (before after : Option Flow) (p p' : Progress) (delivery : Delivery) (cut : Cut) : Type 0 where
  pub part : List ℕ
  pub left : List ℕ
  pub is : delivery_text delivery ≡ part ++ left
  pub moves : Moves before after [] part
  pub sent_are : p'.sent.items ≡ p.sent.items ++ part
  pub closes_are : p'.closes ≡ p.closes
  pub rest : SameCalls p p'
  pub why : IsCutSending cut part
