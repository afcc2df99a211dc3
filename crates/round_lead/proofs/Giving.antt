-- What comes of each want.
use Rattle.std.proofs.Common.{◌≡◌, ◌≢◌, ℕ, true, false, List, [], ◌∷◌, Option, refl, sym, ap, ◌∙◌, subst, inl, inr, arith}
use Rattle.std.proofs.lemmas.List.{append-nil}
use Rattle.http_heads.specs.declared.exchange.Backend.{Backend}
use Rattle.http_heads.specs.declared.exchange.BackendRequest.{BackendRequest}
use Rattle.http_heads.specs.declared.exchange.Exchange.{Exchange as Outcome}
use Rattle.http_heads.specs.declared.exchange.Exchange.TheVariants as exchange
use Rattle.http_heads.specs.declared.exchange.Got.{Got}
use Rattle.wire.specs.Flow.{Flow}
use Rattle.wire.specs.Telling.{LinkTold, DialerTold, Gains, dialer_told_by}
use Rattle.wire.proofs.Gaining.{gains_none}
use Rattle.wire.proofs.Flowing.{Moves-none}
use Rattle.wire.specs.Tapes.{Tape}
use Rattle.wire.specs.declared.peer.Talk.{Talk}
use Rattle.std.proofs.lemmas.Bool.{true≢false}
use Rattle.cache_law.specs.declared.call.Call.{Call}
use Rattle.cache_law.specs.declared.call.Call.TheVariants as calls
use Rattle.cache_law.specs.declared.cache.Told.{Told}
use Rattle.cache_law.specs.declared.cache.StepError.{StepError}
use Rattle.cache_law.specs.declared.cache.StepError.TheVariants as step
use Rattle.cache_law.specs.declared.rounds.Given.TheVariants as given
use Rattle.delivery.specs.declared.finishing.Delivery.{Delivery}
use Rattle.world.specs.declared.kit.Kit.{Kit}
use Rattle.shared_cache.specs.Sharing.{CallerKnows}
use Rattle.round_task.specs.declared.want.Want.{Want}
use Rattle.round_task.specs.declared.want.Want.TheVariants.{Cache, Exchange, Send}
use Rattle.round_lead.specs.declared.cut.Cut.{Cut}
use Rattle.round_lead.specs.declared.cut.Cut.TheVariants.{HistoryFull, NoMemory, WriteFault}
use Rattle.round_lead.specs.declared.keeping.Progress.{Progress}
use Rattle.round_lead.specs.Endings.{cut_by}
use Rattle.round_lead.specs.Steps.{At, Did, Makes, Declines, Exchanges, Sends, SendsPart}
use Rattle.round_lead.specs.Seen.{opened_by}
use Rattle.round_lead.specs.Onward.{happened, is_last, Gives, Fails}
use Rattle.round_lead.proofs.Told.{Went-same}
use Rattle.round_lead.proofs.Seen.{called_none}
use Rattle.round_lead.proofs.Things.{or_none}
use Rattle.round_lead.proofs.Did.{at, did_none, did_call, did_decline, did_exchange, did_send, did_send_part}

module _ {L : Type 0} (heard : L → LinkTold) (backends : List ℕ → Backend) where
  -- nothing was done, as far as can be told
  pub unmade_fails : (k : CallerKnows) (over : Option Flow) (reads reads' words words' : Option Tape) (dialer dialer' : DialerTold L) (p p' : Progress) (want : Want) → reads' ≡ reads → words' ≡ words
      → dialer' ≡ dialer → p'.numbers.items ≡ p.numbers.items → p'.exchanges.items ≡ p.exchanges.items → p'.sent.items ≡ p.sent.items → p'.closes ≡ p.closes
      → Fails heard backends (at k over reads words dialer p) (at k over reads' words' dialer' p') want NoMemory
  unmade_fails k over reads reads' words words' dialer dialer' p p' want read drawn told numbers exchanges sent closes = inl (record {
    extra = [];
    part = [];
    did = record {
      places = [];
      called = called_none k;
      places_are = numbers ∙ sym (append-nil p.numbers.items);
      stand = tt;
      rise = omega arith;
      exchanges_are = exchanges ∙ sym (append-nil p.exchanges.items);
      timed = tt;
      sent_are = sent ∙ sym (append-nil p.sent.items);
      moves = Moves-none over;
      talks = [];
      gained = subst (λ (t : DialerTold L). Gains dialer t []) (sym told) (gains_none dialer);
      talked = refl;
      closes_are = closes ∙ sym (or_none p.closes);
      read = Went-same reads reads' read;
      drew = Went-same words words' drawn;
    };
    so = (refl, tt);
  })

  -- an exchange that the round wasn't told of, or none
  pub untold_fails : {D K : Type 0} (talks : D → Option (List (Talk L))) (dial_faults : D → ℕ) (readings words : K → Option Tape) (kit kit' : Kit D K) (k : CallerKnows) (over : Option Flow) (p p' : Progress) (want : Want)
      → (kit' ≡ kit) × (p'.numbers ≡ p.numbers) × (p'.exchanges.items ≡ p.exchanges.items) × (p'.sent ≡ p.sent) × (p'.closes ≡ p.closes) × (p'.is_open ≡ p.is_open)
      → Fails heard backends (at k over (readings kit.clock) (words kit.clock) (dialer_told_by talks dial_faults kit.dialer) p) (at k over (readings kit'.clock) (words kit'.clock) (dialer_told_by talks dial_faults kit'.dialer) p') want NoMemory
  untold_fails {D} {K} talks dial_faults readings words kit kit' k over p p' want same =
      unmade_fails k over (readings kit.clock) (readings kit'.clock) (words kit.clock) (words kit'.clock) (dialer_told_by talks dial_faults kit.dialer) (dialer_told_by talks dial_faults kit'.dialer) p p' want
      (ap (λ (t : Kit D K). readings t.clock) same.0) (ap (λ (t : Kit D K). words t.clock) same.0) (ap (λ (t : Kit D K). dialer_told_by talks dial_faults t.dialer) same.0)
      (ap (λ (v : _). v.items) same.1) same.2 (ap (λ (v : _). v.items) same.3) same.4

  -- nothing was done, for want of memory
  pub idle_fails : (x : At L) (want : Want) → Fails heard backends x x want NoMemory
  idle_fails x want = inl (record { extra = []; part = []; did = did_none heard backends x; so = (refl, tt) })

  pub call_gives : (over : Option Flow) (dialer : DialerTold L) (k k' : CallerKnows) (reads reads' words words' : Option Tape) (p p' : Progress) (call : Call) (told : Told) → words' ≡ words
      → Makes k k' reads reads' p p' call told
      → Gives heard backends (at k over reads words dialer p) (at k' over reads' words' dialer p') (Cache call) (given.Reply told)
  call_gives over dialer k k' reads reads' words words' p p' call told undrawn made =
      record { suits = tt; did = did_call heard backends over dialer k k' reads reads' words words' p p' call told undrawn made }

  pub call_fails : (over : Option Flow) (dialer : DialerTold L) (k k' : CallerKnows) (reads reads' words words' : Option Tape) (p p' : Progress) (call : Call) (error : StepError) → words' ≡ words
      → Declines k k' reads reads' p p' call error
      → Fails heard backends (at k over reads words dialer p) (at k' over reads' words' dialer p') (Cache call) (cut_by error)
  call_fails over dialer k k' reads reads' words words' p p' call step.HistoryFull undrawn made =
      inl (record { extra = []; part = []; did = did_decline heard backends over dialer k k' reads reads' words words' p p' call step.HistoryFull undrawn made; so = (call, refl, refl, refl, made.why) })
  call_fails over dialer k k' reads reads' words words' p p' call step.NoMemory undrawn made =
      inl (record { extra = []; part = []; did = did_decline heard backends over dialer k k' reads reads' words words' p p' call step.NoMemory undrawn made; so = (refl, tt) })
  call_fails over dialer k k' reads reads' words words' p p' call step.SegmentFull undrawn made = absurd made.why

  pub exchange_gives : (k : CallerKnows) (over : Option Flow) (reads reads' words words' : Option Tape) (dialer dialer' : DialerTold L) (p p' : Progress) (number : ℕ) (name : List ℕ)
      (request : BackendRequest) (got : Got) → words' ≡ words → got.exchange ≢ exchange.NoMemory → Exchanges heard (backends name) request reads reads' dialer dialer' p p' got
      → Gives heard backends (at k over reads words dialer p) (at k over reads' words' dialer' p') (Exchange number name request) (given.Exchange got)
  exchange_gives k over reads reads' words words' dialer dialer' p p' number name request got undrawn there made =
      record { suits = there; did = did_exchange heard backends k over reads reads' words words' dialer dialer' p p' number name request got undrawn made }

  -- an exchange that the round wasn't told of
  exchange_fails_by : (x y : At L) (number : ℕ) (name : List ℕ) (request : BackendRequest) (moment : ℕ) (outcome : Outcome)
      → Did heard backends x y (happened (Exchange number name request) (given.Exchange (record { moment = moment; exchange = outcome })) ∷ []) []
      → Fails heard backends x y (Exchange number name request) NoMemory
  exchange_fails_by x y number name request moment exchange.NoMemory did = inl (record { extra = _; part = []; did = did; so = (refl, (refl, refl)) })
  exchange_fails_by x y number name request moment (exchange.Reply head body) did = inr (record { is = refl; given = _; gives = record { suits = λ e. cc; did = did } })
  exchange_fails_by x y number name request moment (exchange.Fault n) did = inr (record { is = refl; given = _; gives = record { suits = λ e. cc; did = did } })

  pub exchange_fails : (k : CallerKnows) (over : Option Flow) (reads reads' words words' : Option Tape) (dialer dialer' : DialerTold L) (p p' : Progress) (number : ℕ) (name : List ℕ)
      (request : BackendRequest) (got : Got) → words' ≡ words → Exchanges heard (backends name) request reads reads' dialer dialer' p p' got
      → Fails heard backends (at k over reads words dialer p) (at k over reads' words' dialer' p') (Exchange number name request) NoMemory
  exchange_fails k over reads reads' words words' dialer dialer' p p' number name request got undrawn made =
      exchange_fails_by (at k over reads words dialer p) (at k over reads' words' dialer' p') number name request got.moment got.exchange
      (did_exchange heard backends k over reads reads' words words' dialer dialer' p p' number name request got undrawn made)

  module _ (k : CallerKnows) (reads words : Option Tape) (dialer : DialerTold L) (over over' : Option Flow) (p p' : Progress) where
    pub send_gives : (delivery : Delivery) → Sends over over' p p' delivery
        → Gives heard backends (at k over reads words dialer p) (at k over' reads words dialer p') (Send delivery) given.Sent
    send_gives delivery made = record { suits = tt; did = did_send heard backends k reads words dialer over over' p p' delivery made }

    pub send_fails : (delivery : Delivery) (cut : Cut) → SendsPart over over' p p' delivery cut
        → Fails heard backends (at k over reads words dialer p) (at k over' reads words dialer p') (Send delivery) cut
    send_fails delivery NoMemory made =
        inl (record { extra = []; part = made.part; did = did_send_part heard backends k reads words dialer over over' p p' delivery NoMemory made; so = (made.why, tt) })
    send_fails delivery HistoryFull made = absurd made.why
    send_fails delivery WriteFault made =
        inl (record { extra = []; part = made.part; did = did_send_part heard backends k reads words dialer over over' p p' delivery WriteFault made; so = (delivery, made.left, refl, refl, made.is) })

-- a call that isn't its End leaves a round open
pub stays_open : (call : Call) → is_last (Cache call) ≡ false → opened_by call true true ≡ true
stays_open calls.Begin e = refl
stays_open calls.End e = absurd (true≢false e)
stays_open call e = refl
