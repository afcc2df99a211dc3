-- What a host over rounds that VCL steers keeps to.
use Rattle.std.proofs.Common.{◌≡◌, ℕ, false, List, [], ◌∷◌, ◌++◌, Option, Some, sym, ap, ◌∙◌, subst}
use Rattle.std.specs.Option.{option_map_or}
use Rattle.wire.specs.Tapes.{Tape}
use Rattle.wire.specs.declared.peer.Talk.{Talk}
use Rattle.cache_law.specs.declared.call.Entry.{Entry}
use Rattle.cache_law.specs.Beginning.{Beginning}
use Rattle.cache_law.specs.declared.state.OpenRound.{OpenRound}
use Rattle.cache_law.specs.History.{Legal, reached}
use Rattle.cache_law.specs.State.{has_round}
use Rattle.turnstile.specs.Handles.{known}
use Rattle.shared_cache.specs.declared.sharing.SharedCache.{SharedCache}
use Rattle.shared_cache.specs.Passes.{IsPassOf}
use Rattle.shared_cache.specs.Sharing.{CallerKnows, SeesLegal}
use Rattle.wire.specs.Telling.{LinkTold}
use Rattle.world.specs.declared.kit.Kit.{Kit}
use Rattle.connection.specs.Serving.{Round as Turn}
use Rattle.round_lead.specs.declared.keeping.Round.{Round}
use Rattle.round_lead.specs.declared.site.Shift.{Shift}
use Rattle.vcl_runs.specs.Languages.{Language}
use Rattle.round_lead.specs.Seen.{has_open, HasCalled as Called}
use Rattle.round_lead.specs.Tapes.{ToldIn, WasDrawn}
use Rattle.round_lead.proofs.Stays.{response_more}
use Rattle.server.specs.declared.keeping.Event.{Event}
use Rattle.server.specs.Keeping.{places_of}
use Rattle.server.specs.Transcripts.{AreResponses, all_numbers}
use Rattle.server.proofs.Tallies.{places_led}
use Rattle.steering.specs.Serving.{IsReady, Serves}
use Rattle.steering.specs.Telling.{Tells}
use Rattle.crew.specs.Calls.{HasCalled}
use Rattle.crew.specs.Opening.{IsStart}

-- ---- beginning

shut_at : (k : CallerKnows) (beginning : Beginning) → k.setting ≡ Some beginning → k.seen ≡ [] → beginning.base.rounds ≡ [] → has_open k ≡ false
shut_at k beginning begins unseen idle =
    ap (λ (setting : Option Beginning). option_map_or (λ (b : Beginning). has_round (reached b k.seen).rounds k.number) setting false) begins
    ∙ ap (λ (seen : List Entry). has_round (reached beginning seen).rounds k.number) unseen
    ∙ ap (λ (rounds : List OpenRound). has_round rounds k.number) idle

legal_at : (k : CallerKnows) → IsStart k → SeesLegal k
legal_at k start = record {
  beginning = start.beginning;
  begins = start.begins;
  legal = subst (λ (seen : List Entry). Legal start.beginning seen) (sym start.unseen) start.can_begin.legal;
}

pub starts : {C D K Q : Type 0} (cache : SharedCache C) (shift : Shift D K Q) → IsPassOf cache shift.pass → IsStart (known shift.pass) → IsReady cache shift
starts cache shift pass start = record {
  pass = pass;
  idle = shut_at (known shift.pass) start.beginning start.begins start.unseen start.can_begin.idle;
  legal = legal_at (known shift.pass) start;
}

-- ---- serving

module _ {P D K Q L E : Type 0} (language : Language P) (heard : L → LinkTold) (tell : E → LinkTold) (talks : D → Option (List (Talk L))) (dial_faults : D → ℕ) (readings words : K → Option Tape)
    (old new : Shift D K Q) (opening : LinkTold) (events : List (Event E)) (serves : Serves language heard tell talks dial_faults readings words old new opening events) where
  pub calls_of : HasCalled (known old.pass) (known new.pass) (places_of events)
  calls_of =
      let served = serves.served in
      let are : all_numbers served.rounds ≡ places_of events = sym (ap places_of served.events_are ∙ places_led served.rounds served.over served.ended) in
      let called = subst (λ (places : List ℕ). Called (known old.pass) (known new.pass) places) are served.led.called in
      record { between = called.between; knows = called.knows; gained = called.gained }

  pub tells_of : (beginning : Beginning) → (known new.pass).setting ≡ Some beginning
      → Tells language heard tell talks dial_faults readings words beginning (known new.pass).seen (known old.pass).number old.kit new.kit opening events
  tells_of beginning begins =
      let served = serves.served in
      let all = served.led in
      record {
        address = serves.address;
        from = serves.from;
        rounds = served.rounds;
        over = served.over;
        ended = served.ended;
        events_are = served.events_are;
        stays = served.stays;
        closed = served.closed;
        turns = served.turns;
        talked = all.talks;
        gained = all.gained;
        responses = all.each beginning begins;
        reads = all.read;
        draws = all.drew;
        link = served.link;
        faults = served.faults;
        complete = served.complete;
      }

-- ---- a longer history

module _ {P L : Type 0} (language : Language P) (heard : L → LinkTold) (words : Option ℕ → Type 0) (readings : ℕ → Type 0) (beginning : Beginning) (history more : List Entry)
    (caller : ℕ) (peer : List ℕ) where
  responses_more : (rounds : List Round) (turns : List Turn) (talks : List (Talk L)) → AreResponses language words readings heard beginning history caller peer rounds turns talks
      → AreResponses language words readings heard beginning (history ++ more) caller peer rounds turns talks
  responses_more [] [] talks are = are
  responses_more [] (turn ∷ turns) talks are = absurd are
  responses_more (round ∷ rounds) [] talks are = absurd are
  responses_more (round ∷ rounds) (turn ∷ turns) talks are = (
    are.0,
    are.1,
    are.2,
    are.3,
    response_more language heard words words readings readings (λ word drawn. drawn) (λ reading read. read) beginning history more caller round are.0 turn.answered are.4,
    responses_more rounds turns are.1 are.5,
  )

pub longer_of : {P D K L E : Type 0} (language : Language P) (heard : L → LinkTold) (tell : E → LinkTold) (talks : D → Option (List (Talk L))) (dial_faults : D → ℕ) (readings words : K → Option Tape)
    (beginning : Beginning) (history more : List Entry) (number : ℕ) (before after : Kit D K) (opening : LinkTold) (events : List (Event E))
    → Tells language heard tell talks dial_faults readings words beginning history number before after opening events
    → Tells language heard tell talks dial_faults readings words beginning (history ++ more) number before after opening events
longer_of language heard tell talks dial_faults readings words beginning history more number before after opening events tells =
    record {
      address = tells.address;
      from = tells.from;
      rounds = tells.rounds;
      over = tells.over;
      ended = tells.ended;
      events_are = tells.events_are;
      stays = tells.stays;
      closed = tells.closed;
      turns = tells.turns;
      talked = tells.talked;
      gained = tells.gained;
      responses = responses_more language heard (WasDrawn (words before.clock) (words after.clock)) (ToldIn (readings before.clock) (readings after.clock)) beginning history more number
          tells.address tells.rounds tells.turns tells.talked tells.responses;
      reads = tells.reads;
      draws = tells.draws;
      link = tells.link;
      faults = tells.faults;
      complete = tells.complete;
    }
