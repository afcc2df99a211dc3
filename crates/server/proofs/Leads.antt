-- The rounds of a connection, one behind another.
use Rattle.std.proofs.Common.{◌≡◌, ℕ, List, [], ◌∷◌, ◌++◌, map, Option, Some, refl, sym, ◌∙◌, subst, inr}
use Rattle.std.proofs.lemmas.List.{append-nil}
use Rattle.wire.specs.Flow.{Flow}
use Rattle.wire.specs.Tapes.{Tape}
use Rattle.wire.proofs.Gaining.{gains_none, gains_then}
use Rattle.wire.specs.Telling.{LinkTold, DialerTold}
use Rattle.wire.specs.declared.peer.Talk.{Talk}
use Rattle.cache_law.specs.declared.call.Entry.{Entry}
use Rattle.cache_law.specs.declared.rounds.Request.{Request as Asked}
use Rattle.cache_law.specs.Beginning.{Beginning}
use Rattle.connection.specs.Requests.{Request, BeginsRequests}
use Rattle.connection.specs.Serving.{Round as Turn, requests_of, Follow, Served}
use Rattle.connection.specs.declared.ended.Ended.{Ended}
use Rattle.round_lead.specs.declared.keeping.Round.{Round}
use Rattle.round_lead.specs.declared.site.Site.{Site}
use Rattle.connection.specs.declared.ended.Answered.TheVariants.{NoMemory}
use Rattle.shared_cache.specs.Passes.{IsPassOf}
use Rattle.shared_cache.specs.Sharing.{CallerKnows, SeesLegal}
use Rattle.round_lead.specs.Responses.{IsResponse, LedBy}
use Rattle.vcl_runs.specs.Languages.{Language}
use Rattle.round_lead.specs.Seen.{HasCalled}
use Rattle.round_lead.specs.Tapes.{ToldIn, WasDrawn}
use Rattle.round_lead.proofs.Told.{Went-none, Went-then, ToldIn-wider, WasDrawn-wider}
use Rattle.round_lead.proofs.Seen.{called_none, called_then, called_number, called_setting, called_seen}
use Rattle.round_lead.proofs.Stays.{response_more}
use Rattle.server.specs.declared.responding.Server.{Server}
use Rattle.server.specs.declared.keeping.Event.{Event}
use Rattle.server.specs.declared.keeping.Event.TheVariants.{Led}
use Rattle.server.specs.Serving.{IsSound, TellsAll, TellsOne, TellsRounds, stand_of}
use Rattle.server.specs.Transcripts.{Stand, AreResponses, LeadsOne, LeadsAll, all_numbers}
use Rattle.server.proofs.Tallies.{told_none, told_then}

module _ {P L : Type 0} (language : Language P) (heard : L → LinkTold) (peer : List ℕ) where
  responses_more : (words words' : Option ℕ → Type 0) (readings readings' : ℕ → Type 0) (drawn : (word : Option ℕ) → words word → words' word)
      (read : (reading : ℕ) → readings reading → readings' reading) (beginning : Beginning) (history more : List Entry) (caller : ℕ) (rounds : List Round) (turns : List Turn) (talks : List (Talk L))
      → AreResponses language words readings heard beginning history caller peer rounds turns talks
      → AreResponses language words' readings' heard beginning (history ++ more) caller peer rounds turns talks
  responses_more words words' readings readings' drawn read beginning history more caller [] [] talks are = are
  responses_more words words' readings readings' drawn read beginning history more caller [] (turn ∷ turns) talks are = absurd are
  responses_more words words' readings readings' drawn read beginning history more caller (round ∷ rounds) [] talks are = absurd are
  responses_more words words' readings readings' drawn read beginning history more caller (round ∷ rounds) (turn ∷ turns) talks are = (
    are.0,
    are.1,
    are.2,
    are.3,
    response_more language heard words words' readings readings' drawn read beginning history more caller round are.0 turn.answered are.4,
    responses_more words words' readings readings' drawn read beginning history more caller rounds turns are.1 are.5,
  )

  pub leads_none : (x : Stand L) → LeadsAll language heard peer x x [] []
  leads_none x = record {
    called = called_none x.known;
    talks = [];
    gained = gains_none x.dialer;
    each = λ beginning begins. refl;
    read = Went-none x.readings;
    drew = Went-none x.words;
  }

  pub leads_then : (x y z : Stand L) (round : Round) (rounds : List Round) (turn : Turn) (turns : List Turn) → LeadsOne language heard peer x y round turn → LeadsAll language heard peer y z rounds turns
      → LeadsAll language heard peer x z (round ∷ rounds) (turn ∷ turns)
  leads_then x y z round rounds turn turns one all =
      let seen = called_seen y.known z.known (all_numbers rounds) all.called in
      let number = called_number x.known y.known round.numbers.items one.led.called in
      let setting = called_setting y.known z.known (all_numbers rounds) all.called in
      record {
        called = called_then x.known y.known z.known round.numbers.items (all_numbers rounds) one.led.called all.called;
        talks = one.led.talks ++ all.talks;
        gained = gains_then x.dialer y.dialer z.dialer one.led.talks all.talks one.led.gained all.gained;
        each = λ beginning begins.
            let same : one.led.beginning ≡ beginning = let e : Some one.led.beginning ≡ Some beginning = sym one.led.begins ∙ (sym setting ∙ begins) in cc in (
              one.led.talks,
              all.talks,
              refl,
              one.is,
              subst (λ (h : List Entry). IsResponse language (WasDrawn x.words z.words) (ToldIn x.readings z.readings) heard beginning h x.known.number round one.led.talks turn.answered) (sym seen)
                  (response_more language heard (WasDrawn x.words y.words) (WasDrawn x.words z.words) (ToldIn x.readings y.readings) (ToldIn x.readings z.readings)
                  (λ word drawn. WasDrawn-wider x.words x.words y.words z.words word (Went-none x.words) all.drew drawn)
                  (λ reading told. ToldIn-wider x.readings x.readings y.readings z.readings reading (Went-none x.readings) all.read told)
                  beginning y.known.seen all.called.between x.known.number round one.led.talks turn.answered
                  (subst (λ (b : Beginning). IsResponse language (WasDrawn x.words y.words) (ToldIn x.readings y.readings) heard b y.known.seen x.known.number round one.led.talks turn.answered) same
                  one.led.response)),
              subst (λ (h : List Entry). AreResponses language (WasDrawn x.words z.words) (ToldIn x.readings z.readings) heard beginning h x.known.number peer rounds turns all.talks)
                  (append-nil z.known.seen)
                  (responses_more (WasDrawn y.words z.words) (WasDrawn x.words z.words) (ToldIn y.readings z.readings) (ToldIn x.readings z.readings)
                  (λ word drawn. WasDrawn-wider x.words y.words z.words z.words word one.drew (Went-none z.words) drawn)
                  (λ reading told. ToldIn-wider x.readings y.readings z.readings z.readings reading one.read (Went-none z.readings) told)
                  beginning z.known.seen [] x.known.number rounds turns all.talks
                  (subst (λ (n : ℕ). AreResponses language (WasDrawn y.words z.words) (ToldIn y.readings z.readings) heard beginning z.known.seen n peer rounds turns all.talks) number
                  (all.each beginning begins))),
            );
        read = Went-then x.readings y.readings z.readings one.read all.read;
        drew = Went-then x.words y.words z.words one.drew all.drew;
      }

  -- what a responder did that leads a round for each request, and tells of it
  module _ {S N K : Type 0} (Told : N → List (Event K) → Type 0) (does : S → S → Turn → Type 0) (view : S → Stand L) (keeper_of : S → N) (peer_of : S → List ℕ)
      (gives : (old new : S) (turn : Turn) → does old new turn → TellsOne language heard Told (peer_of old) (view old) (view new) (keeper_of old) (keeper_of new) turn)
      (stays : (old new : S) (turn : Turn) → does old new turn → peer_of new ≡ peer_of old) where
    pub tells_all : (turns : List Turn) (old new : S) → peer_of old ≡ peer → Follow does old turns new → TellsAll language heard Told peer (view old) (view new) (keeper_of old) (keeper_of new) turns
    tells_all [] old new from same =
        subst (λ (s : S). TellsAll language heard Told peer (view old) (view s) (keeper_of old) (keeper_of s) []) (sym same)
        (record { rounds = []; led = leads_none (view old); told = told_none Told (keeper_of old) })
    tells_all (turn ∷ turns) old new from follow =
        let one = gives old follow.0 turn follow.1 in
        let all = tells_all turns follow.0 new (stays old follow.0 turn follow.1 ∙ from) follow.2 in
        record {
          rounds = one.round ∷ all.rounds;
          led = leads_then (view old) (view follow.0) (view new) one.round all.rounds turn turns
              (subst (λ (p : List ℕ). LeadsOne language heard p (view old) (view follow.0) one.round turn) from one.led) all.led;
          told = told_then Told (keeper_of old) (keeper_of follow.0) (keeper_of new) (Led one.round ∷ []) (map Led all.rounds) one.told all.told;
        }

-- what holds of a responder at first, and stays behind each of its rounds, holds at last
pub holds_last : {S : Type 0} → (does : S → S → Turn → Type 0) (Holds : S → Type 0) → ((old new : S) (turn : Turn) → does old new turn → Holds old → Holds new) → (turns : List Turn) (old new : S)
    → Holds old → Follow does old turns new → Holds new
holds_last does Holds keeps [] old new holds same = subst Holds (sym same) holds
holds_last does Holds keeps (turn ∷ turns) old new holds follow = holds_last does Holds keeps turns follow.0 new (keeps old follow.0 turn follow.1 holds) follow.2

-- the last part of a connection that a server served
module _ {R C G D K Q M N : Type 0} {does : Server R C G D K Q M N → Server R C G D K Q M N → Turn → Type 0} (before after : Option Flow) (held left : List ℕ) (old new : Server R C G D K Q M N) (ended : Ended)
    (told : Served does before after held left old new ended) where
  pub tells_rounds : {P L E : Type 0} (language : Language P) (heard : L → LinkTold) (Told : N → List (Event E) → Type 0) (talks : D → Option (List (Talk L))) (dial_faults : D → ℕ) (readings words : K → Option Tape)
      → ((s t : Server R C G D K Q M N) (turn : Turn) → does s t turn → (t.peer ≡ s.peer)
      × TellsOne language heard Told s.peer (stand_of talks dial_faults readings words s) (stand_of talks dial_faults readings words t) s.keeper t.keeper turn)
      → held ≡ [] → TellsRounds language heard Told old.peer (stand_of talks dial_faults readings words old) (stand_of talks dial_faults readings words new) old.keeper new.keeper before after ended
  tells_rounds language heard Told talks dial_faults readings words leads empty = record {
    turns = told.all;
    tells = tells_all language heard old.peer Told does (λ (s : Server R C G D K Q M N). stand_of talks dial_faults readings words s) (λ (s : Server R C G D K Q M N). s.keeper)
        (λ (s : Server R C G D K Q M N). s.peer) (λ s t turn done. (leads s t turn done).1) (λ s t turn done. (leads s t turn done).0) told.all old new refl told.went.follow;
    link = record {
      read = told.went.read;
      rest = told.rest;
      extra = told.extra;
      moves = told.went.moves;
      requests = subst (λ (h : List ℕ). BeginsRequests (h ++ told.went.read) (requests_of told.all) told.rest) empty told.went.requests;
      left = left;
      ends = told.ends;
    };
  }

  pub sound_last : (room : N → ℕ) → ((s t : Server R C G D K Q M N) (turn : Turn) → does s t turn → (t.site ≡ s.site) × IsSound room t) → IsSound room old → (new.site ≡ old.site) × IsSound room new
  sound_last room keeps sound =
      holds_last does (λ (s : Server R C G D K Q M N). (s.site ≡ old.site) × IsSound room s) (λ s t turn done holds. let now = keeps s t turn done in (now.0 ∙ holds.0, now.1)) told.all old new
      (refl, sound) told.went.follow

  pub pass_last : (room : N → ℕ) → (new.site ≡ old.site) × IsSound room new → IsPassOf old.site.shared.now new.shift.pass
  pass_last room last = subst (λ (site : Site R C G). IsPassOf site.shared.now new.shift.pass) last.0 last.1.pass

-- the request of a round, as that of a turn
abbrev pub as_turn : Asked → Request
as_turn asked = (asked.head, asked.body)

-- a round for which there was no memory
pub unled : {P L : Type 0} → (language : Language P) (heard : L → LinkTold) (words : Option ℕ → Type 0) (readings : ℕ → Type 0) (k : CallerKnows) (dialer : DialerTold L) (round : Round) → SeesLegal k
    → round.numbers.items ≡ [] → round.exchanges.items ≡ [] → round.sent.items ≡ [] → LedBy language words readings heard k k dialer dialer round NoMemory
unled language heard words readings k dialer round legal no_place no_exchange nothing_sent = record {
  beginning = legal.beginning;
  begins = legal.begins;
  called = subst (λ (places : List ℕ). HasCalled k k places) (sym no_place) (called_none k);
  talks = [];
  gained = gains_none dialer;
  response = inr (inr (record { refused = tt; no_place = no_place; no_exchange = no_exchange; nothing_sent = nothing_sent; no_talk = refl }));
}
