-- A response over a history is one over each longer history, told at any later time.
use Rattle.std.proofs.Common.{ℕ, ◌+◌, ◌≤◌, Bool, List, [], ◌++◌, length, Option, ap, ◌∙◌, inl, inr, arith}
use Rattle.std.specs.List.{AllByRecursion}
use Rattle.std.proofs.lemmas.List.{append_assoc, length-append}
use Rattle.http_heads.specs.declared.exchange.Got.{Got}
use Rattle.wire.specs.Telling.{LinkTold}
use Rattle.wire.specs.declared.peer.Talk.{Talk}
use Rattle.cache_law.specs.declared.call.Call.{Call}
use Rattle.cache_law.specs.declared.call.Call.TheVariants.{Begin, End}
use Rattle.cache_law.specs.declared.call.Entry.{Entry}
use Rattle.cache_law.specs.declared.rounds.Given.{Given}
use Rattle.cache_law.specs.Beginning.{Beginning}
use Rattle.cache_law.specs.Core.{entry_of}
use Rattle.connection.specs.declared.ended.Answered.{Answered}
use Rattle.connection.specs.declared.ended.Answered.TheVariants as answered
use Rattle.round_task.specs.declared.want.Want.{Want}
use Rattle.round_task.specs.Happened.{behind, entries_of}
use Rattle.round_lead.specs.declared.cut.Cut.{Cut}
use Rattle.round_lead.specs.declared.cut.Cut.TheVariants.{HistoryFull, NoMemory, WriteFault}
use Rattle.round_lead.specs.declared.keeping.Round.{Round}
use Rattle.round_lead.specs.Seen.{RiseIn}
use Rattle.round_task.specs.Responses.{WantsBy}
use Rattle.round_lead.specs.Responses.{DidntFit, RefusedBegin, Tells, TellsCut, NeverBegan, OnlyBegan, IsResponse}
use Rattle.vcl_runs.specs.Languages.{Language}
use Rattle.round_lead.proofs.Seen.{stands_longer, stand_longer, rise_higher}
use Rattle.round_lead.proofs.Things.{runs_wider, all_wider}
use Rattle.round_lead.proofs.Onward.{cut_weaker}

module _ {P L : Type 0} (language : Language P) (heard : L → LinkTold) (words words' : Option ℕ → Type 0) (readings readings' : ℕ → Type 0)
    (drawn : (word : Option ℕ) → words word → words' word) (read : (reading : ℕ) → readings reading → readings' reading)
    (beginning : Beginning) (history more : List Entry) (caller : ℕ) (round : Round) (talks : List (Talk L)) where
  wants_more : (program : P) (givens : List Given) (want : Want) → WantsBy (language.evaluator program) words round.request round.peer givens want
      → WantsBy (language.evaluator program) words' round.request round.peer givens want
  wants_more program givens want wanted = (wanted.0, drawn wanted.0 wanted.1, wanted.2)

  rises_more : (places : List ℕ) → RiseIn 0 (beginning.base.entries + length history) places → RiseIn 0 (beginning.base.entries + length (history ++ more)) places
  rises_more places rise =
      let longer : beginning.base.entries + length history ≤ beginning.base.entries + length (history ++ more) = omega (arith, length-append history more) in
      rise_higher 0 (beginning.base.entries + length history) (beginning.base.entries + length (history ++ more)) places longer rise

  timed_more : (gots : List Got) → AllByRecursion (λ got. readings got.moment) gots → AllByRecursion (λ got. readings' got.moment) gots
  timed_more gots timed = all_wider (λ (got : Got). readings got.moment) (λ (got : Got). readings' got.moment) gots (λ got told. read got.moment told) timed

  didnt_fit_more : (places : List ℕ) (call : Call) → DidntFit readings beginning history caller places call → DidntFit readings' beginning (history ++ more) caller places call
  didnt_fit_more places call didnt = record {
    front = didnt.front;
    more = didnt.more ++ more;
    begins = ap (λ (h : List Entry). h ++ more) didnt.begins ∙ append_assoc didnt.front didnt.more more;
    has = didnt.has;
    reading = didnt.reading;
    read = read didnt.reading didnt.read;
    full = didnt.full;
  }

  tells_more : (closes : Bool) → Tells language words readings heard beginning history caller round talks closes → Tells language words' readings' heard beginning (history ++ more) caller round talks closes
  tells_more closes tells = record {
    program = tells.program;
    steps = tells.steps;
    ran = tells.ran;
    runs = runs_wider (WantsBy (language.evaluator tells.program) words round.request round.peer) (WantsBy (language.evaluator tells.program) words' round.request round.peer) [] tells.steps
        (wants_more tells.program) tells.runs;
    front = tells.front;
    closing = tells.closing;
    to_its_end = tells.to_its_end;
    stand = stand_longer beginning.base.entries history more round.numbers.items (entries_of caller tells.steps) tells.stand;
    rise = rises_more round.numbers.items tells.rise;
    exchanges_are = tells.exchanges_are;
    sent_is = tells.sent_is;
    timed = timed_more round.exchanges.items tells.timed;
    talked = tells.talked;
    closes_is = tells.closes_is;
  }

  cut_more : (cut : Cut) → TellsCut language words readings heard beginning history caller round talks cut → TellsCut language words' readings' heard beginning (history ++ more) caller round talks cut
  cut_more cut tells = record {
    program = tells.program;
    steps = tells.steps;
    ran = tells.ran;
    runs = runs_wider (WantsBy (language.evaluator tells.program) words round.request round.peer) (WantsBy (language.evaluator tells.program) words' round.request round.peer) [] tells.steps
        (wants_more tells.program) tells.runs;
    extra = tells.extra;
    part = tells.part;
    places = tells.places;
    closed = tells.closed;
    closing = tells.closing;
    cut_so = cut_weaker (WantsBy (language.evaluator tells.program) words round.request round.peer (behind [] tells.steps))
        (WantsBy (language.evaluator tells.program) words' round.request round.peer (behind [] tells.steps)) (DidntFit readings beginning history caller tells.places)
        (DidntFit readings' beginning (history ++ more) caller tells.places) cut tells.extra tells.part (wants_more tells.program (behind [] tells.steps)) (didnt_fit_more tells.places) tells.cut_so;
    places_are = tells.places_are;
    stand = stand_longer beginning.base.entries history more tells.places (entries_of caller tells.steps) tells.stand;
    ends = stands_longer beginning.base.entries history more tells.closed (entry_of caller End tells.closing) tells.ends;
    rise = rises_more round.numbers.items tells.rise;
    exchanges_are = tells.exchanges_are;
    sent_is = tells.sent_is;
    timed = timed_more round.exchanges.items tells.timed;
    talked = tells.talked;
  }

  only_more : OnlyBegan language words readings heard beginning history caller round talks → OnlyBegan language words' readings' heard beginning (history ++ more) caller round talks
  only_more only = record {
    opened = only.opened;
    closed = only.closed;
    opening = only.opening;
    closing = only.closing;
    begins = stands_longer beginning.base.entries history more only.opened (entry_of caller Begin only.opening) only.begins;
    ends = stands_longer beginning.base.entries history more only.closed (entry_of caller End only.closing) only.ends;
    places_are = only.places_are;
    rise = rises_more round.numbers.items only.rise;
    no_exchange = only.no_exchange;
    nothing_sent = only.nothing_sent;
    no_talk = only.no_talk;
  }

  refused_more : (cut : Cut) → RefusedBegin readings beginning history caller cut → RefusedBegin readings' beginning (history ++ more) caller cut
  refused_more NoMemory refused = tt
  refused_more HistoryFull refused = didnt_fit_more [] Begin refused
  refused_more WriteFault refused = absurd refused

  never_more : (cut : Cut) → NeverBegan language words readings heard beginning history caller round talks cut → NeverBegan language words' readings' heard beginning (history ++ more) caller round talks cut
  never_more cut never = record {
    refused = refused_more cut never.refused;
    no_place = never.no_place;
    no_exchange = never.no_exchange;
    nothing_sent = never.nothing_sent;
    no_talk = never.no_talk;
  }

  pub response_more : (how : Answered) → IsResponse language words readings heard beginning history caller round talks how → IsResponse language words' readings' heard beginning (history ++ more) caller round talks how
  response_more answered.Kept response = tells_more _ response
  response_more answered.Closes response = tells_more _ response
  response_more answered.WriteFault response = cut_more WriteFault response
  response_more answered.HistoryFull (inl tells) = inl (cut_more HistoryFull tells)
  response_more answered.HistoryFull (inr never) = inr (never_more HistoryFull never)
  response_more answered.NoMemory (inl tells) = inl (cut_more NoMemory tells)
  response_more answered.NoMemory (inr (inl only)) = inr (inl (only_more only))
  response_more answered.NoMemory (inr (inr never)) = inr (inr (never_more NoMemory never))
