-- What is told by one language is told by another that means the same.
use Rattle.std.proofs.Common.{◌≡◌, inl, inr, ℕ, Bool, List, [], ◌∷◌, ◌++◌, Option, refl, ap, subst}
use Rattle.std.specs.List.{AllZip}
use Rattle.vcl_tree.specs.declared.item.Tree.{Tree}
use Rattle.vmod_host.specs.declared.signature.Stored.{Stored}
use Rattle.vcl_library.specs.Meaning.{by_trees, meant, vcl}
use Rattle.http_heads.specs.declared.exchange.Backend.{Backend}
use Rattle.wire.specs.Tapes.{Tape}
use Rattle.wire.specs.declared.peer.Talk.{Talk}
use Rattle.cache_law.specs.declared.call.Entry.{Entry}
use Rattle.cache_law.specs.Beginning.{Beginning}
use Rattle.connection.specs.declared.ended.Answered.{Answered}
use Rattle.connection.specs.declared.ended.Answered.TheVariants as answered
use Rattle.connection.specs.Serving.{Round as Turn}
use Rattle.wire.specs.Telling.{LinkTold}
use Rattle.world.specs.declared.kit.Kit.{Kit}
use Rattle.vcl_runs.specs.Evaluators.{Evaluator}
use Rattle.round_task.specs.Happened.{behind}
use Rattle.round_lead.specs.declared.keeping.Round.{Round}
use Rattle.round_task.specs.Responses.{WantsBy}
use Rattle.round_lead.specs.Responses.{DidntFit, CutBy, Tells, TellsCut, NeverBegan, IsResponse}
use Rattle.vcl_runs.specs.Languages.{Language}
use Rattle.round_lead.specs.Talks.{TalksOf}
use Rattle.round_lead.specs.Things.{Runs, text_of}
use Rattle.round_lead.specs.Tapes.{ToldIn, WasDrawn}
use Rattle.server.specs.declared.keeping.Event.{Event}
use Rattle.server.specs.declared.tally.Tally.{Tally}
use Rattle.server.specs.Keeping.{places_of, tally_of}
use Rattle.server.specs.Transcripts.{AreResponses}
use Rattle.steering.specs.Telling.{Tells as TellsOf}
use Rattle.crew.specs.Leaving.{AllWhole}
use Rattle.crew.specs.Parts.{Part, all_events}
use Rattle.crew.specs.Running.{Ran}
use Rattle.crew.proofs.Called.{all_wider}
use Rattle.varn_serve.specs.Run.{RanIn, RanBy}
use Rattle.varn_serve.proofs.Counted.{counted}

-- each program of the one is, as the other sees it, one of the same text, and does and reaches the same
pub record MeansAs {P Q : Type 0} (one : Language P) (other : Language Q) (f : P → Q) : Type 1 where
  pub programs : (text : List ℕ) (p : P) → one.programs text p → other.programs text (f p)
  pub evaluators : (text : List ℕ) (p : P) → one.programs text p → one.evaluator p ≡ other.evaluator (f p)
  pub places : (p : P) → one.backends p ≡ other.backends (f p)

module _ {P Q L : Type 0} (one : Language P) (other : Language Q) (f : P → Q) (means : MeansAs one other f) (heard : L → LinkTold) where
  -- ---- rounds

  module _ (words : Option ℕ → Type 0) (readings : ℕ → Type 0) (beginning : Beginning) (history : List Entry) (caller : ℕ) where
    tells_as : (round : Round) (talks : List (Talk L)) (closes : Bool) → Tells one words readings heard beginning history caller round talks closes → Tells other words readings heard beginning history caller round talks closes
    tells_as round talks closes t = record {
      program = f t.program;
      steps = t.steps;
      ran = means.programs (text_of t.steps) t.program t.ran;
      runs = subst (λ (e : Evaluator). Runs (WantsBy e words round.request round.peer) [] t.steps) (means.evaluators (text_of t.steps) t.program t.ran) t.runs;
      front = t.front;
      closing = t.closing;
      to_its_end = t.to_its_end;
      stand = t.stand;
      rise = t.rise;
      exchanges_are = t.exchanges_are;
      sent_is = t.sent_is;
      timed = t.timed;
      talked = subst (λ (b : List ℕ → Backend). TalksOf heard b t.steps talks) (means.places t.program) t.talked;
      closes_is = t.closes_is;
    }

    cut_as : (round : Round) (talks : List (Talk L)) (cut : _) → TellsCut one words readings heard beginning history caller round talks cut → TellsCut other words readings heard beginning history caller round talks cut
    cut_as round talks cut t = record {
      program = f t.program;
      steps = t.steps;
      ran = means.programs (text_of t.steps) t.program t.ran;
      runs = subst (λ (e : Evaluator). Runs (WantsBy e words round.request round.peer) [] t.steps) (means.evaluators (text_of t.steps) t.program t.ran) t.runs;
      extra = t.extra;
      part = t.part;
      places = t.places;
      closed = t.closed;
      closing = t.closing;
      cut_so = subst (λ (e : Evaluator). CutBy (WantsBy e words round.request round.peer (behind [] t.steps)) (DidntFit readings beginning history caller t.places) cut t.extra t.part)
          (means.evaluators (text_of t.steps) t.program t.ran) t.cut_so;
      places_are = t.places_are;
      stand = t.stand;
      ends = t.ends;
      rise = t.rise;
      exchanges_are = t.exchanges_are;
      sent_is = t.sent_is;
      timed = t.timed;
      talked = subst (λ (b : List ℕ → Backend). TalksOf heard b (t.steps ++ t.extra) talks) (means.places t.program) t.talked;
    }

    never_as : (round : Round) (talks : List (Talk L)) (cut : _) → NeverBegan one words readings heard beginning history caller round talks cut
        → NeverBegan other words readings heard beginning history caller round talks cut
    never_as round talks cut n = record { refused = n.refused; no_place = n.no_place; no_exchange = n.no_exchange; nothing_sent = n.nothing_sent; no_talk = n.no_talk }

    response_as : (round : Round) (talks : List (Talk L)) (how : Answered) → IsResponse one words readings heard beginning history caller round talks how
        → IsResponse other words readings heard beginning history caller round talks how
    response_as round talks answered.Kept r = tells_as round talks _ r
    response_as round talks answered.Closes r = tells_as round talks _ r
    response_as round talks answered.WriteFault r = cut_as round talks _ r
    response_as round talks answered.HistoryFull (inl r) = inl (cut_as round talks _ r)
    response_as round talks answered.HistoryFull (inr r) = inr (never_as round talks _ r)
    response_as round talks answered.NoMemory (inl r) = inl (cut_as round talks _ r)
    response_as round talks answered.NoMemory (inr (inl r)) = inr (inl (record {
      opened = r.opened;
      closed = r.closed;
      opening = r.opening;
      closing = r.closing;
      begins = r.begins;
      ends = r.ends;
      places_are = r.places_are;
      rise = r.rise;
      no_exchange = r.no_exchange;
      nothing_sent = r.nothing_sent;
      no_talk = r.no_talk;
    }))
    response_as round talks answered.NoMemory (inr (inr r)) = inr (inr (never_as round talks _ r))

    responses_as : (peer : List ℕ) (rounds : List Round) (turns : List Turn) (talks : List (Talk L)) → AreResponses one words readings heard beginning history caller peer rounds turns talks
        → AreResponses other words readings heard beginning history caller peer rounds turns talks
    responses_as peer [] [] talks are = are
    responses_as peer [] (turn ∷ turns) talks are = absurd are
    responses_as peer (round ∷ rounds) [] talks are = absurd are
    responses_as peer (round ∷ rounds) (turn ∷ turns) talks are =
        (are.0, are.1, are.2, are.3, response_as round are.0 turn.answered are.4, responses_as peer rounds turns are.1 are.5)

  -- ---- connections

  module _ {D K E : Type 0} (tell : E → LinkTold) (talks : D → Option (List (Talk L))) (dial_faults : D → ℕ) (readings words : K → Option Tape) (beginning : Beginning) (history : List Entry) where
    told_as : (number : ℕ) (before after : Kit D K) (opening : LinkTold) (events : List (Event E))
        → TellsOf one heard tell talks dial_faults readings words beginning history number before after opening events
        → TellsOf other heard tell talks dial_faults readings words beginning history number before after opening events
    told_as number before after opening events t = record {
      address = t.address;
      from = t.from;
      rounds = t.rounds;
      over = t.over;
      ended = t.ended;
      events_are = t.events_are;
      stays = t.stays;
      closed = t.closed;
      turns = t.turns;
      talked = t.talked;
      gained = t.gained;
      responses = responses_as (WasDrawn (words before.clock) (words after.clock)) (ToldIn (readings before.clock) (readings after.clock)) beginning history number
          t.address t.rounds t.turns t.talked t.responses;
      reads = t.reads;
      draws = t.draws;
      link = t.link;
      faults = t.faults;
      complete = t.complete;
    }

    -- ---- workers

    module _ {N : Type 0} (unused : Kit D K → Type 0) (Told : N → List (Event E) → Type 0) where
      whole_as : (parts : List (Part (Kit D K) N (Event E)))
          → AllWhole unused Told (λ events. places_of events) (λ number before after opening events. TellsOf one heard tell talks dial_faults readings words beginning history number before after opening events) history parts
          → AllWhole unused Told (λ events. places_of events) (λ number before after opening events. TellsOf other heard tell talks dial_faults readings words beginning history number before after opening events) history parts
      whole_as [] whole = whole
      whole_as (part ∷ parts) whole = (
        record {
          unused = whole.0.unused;
          is_told = all_wider (λ events. places_of events)
              (λ number before after opening events. TellsOf one heard tell talks dial_faults readings words beginning history number before after opening events)
              (λ number before after opening events. TellsOf other heard tell talks dial_faults readings words beginning history number before after opening events)
              told_as part.number (record { kit = part.first; seen = [] }) (record { kit = part.last; seen = part.seen }) part.came whole.0.is_told;
          told = whole.0.told;
          front = whole.0.front;
          places = whole.0.places;
        },
        whole_as parts whole.1,
      )

      -- a run is told so by the other too, and of the same connections
      pub ran_as : (before after : Option (List (Kit D K))) (keepers : List N) (connections : ℕ) (tally : Tally) (beside : List ℕ)
          → RanIn one unused heard talks dial_faults readings words tell Told before after beginning history keepers connections tally beside
          → RanIn other unused heard talks dial_faults readings words tell Told before after beginning history keepers connections tally beside
      ran_as before after keepers connections tally beside r = (
        record {
          legal = r.0.legal;
          parts = r.0.parts;
          whole = whole_as r.0.parts r.0.whole;
          kits_are = r.0.kits_are;
          keepers_are = r.0.keepers_are;
          count_is = r.0.count_is;
          each_once = r.0.each_once;
        },
        r.1,
      )

-- ---- the programs of a library

pub trees_mean : {P : Type 0} (tree_of : P → Tree) (stored_of : P → List Stored) → MeansAs (by_trees tree_of stored_of) vcl tree_of
trees_mean tree_of stored_of = record {
  programs = λ text p is. is.joined;
  evaluators = λ text p is. ap (λ (stored : List Stored). meant (tree_of p).items stored) is.functions;
  places = λ p. refl;
}

-- a run that such programs steer is one that VCL steers, and its tally counts what its keepers were told
pub by_vcl : {P N D K L E : Type 0} (tree_of : P → Tree) (stored_of : P → List Stored) (unused : Kit D K → Type 0) (heard : L → LinkTold) (talks : D → Option (List (Talk L))) (dial_faults : D → ℕ)
    (readings words : K → Option Tape) (tell : E → LinkTold) (Told : N → List (Event E) → Type 0) (before after : Option (List (Kit D K))) (beginning : Beginning) (history : List Entry)
    (keepers : List N) (connections : ℕ) (tally : Tally) (beside : List ℕ) → ((lists : List (List (Event E))) → AllZip Told keepers lists → tally ≡ tally_of (all_events lists))
    → Ran unused Told (λ events. places_of events)
    (λ began seen number first last opening events. TellsOf (by_trees tree_of stored_of) heard tell talks dial_faults readings words began seen number first last opening events)
    beginning history before after keepers connections beside
    → RanBy unused heard talks dial_faults readings words tell Told before after beginning history keepers connections tally beside
by_vcl tree_of stored_of unused heard talks dial_faults readings words tell Told before after beginning history keepers connections tally beside counts ran =
    ran_as (by_trees tree_of stored_of) vcl tree_of (trees_mean tree_of stored_of) heard tell talks dial_faults readings words beginning history unused Told before after keepers connections tally beside (
      ran,
      counted unused Told (λ events. places_of events)
          (λ number first last opening events. TellsOf (by_trees tree_of stored_of) heard tell talks dial_faults readings words beginning history number first last opening events)
          history keepers ran.parts tally ran.keepers_are ran.whole counts,
    )
