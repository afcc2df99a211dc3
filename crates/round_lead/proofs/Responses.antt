-- A round from its Begin to its End, as a response over what its caller's pass has then seen.
use Rattle.std.proofs.Common.{◌≡◌, ℕ, Bool, true, false, ◌||◌, List, [], ◌∷◌, ◌++◌, ◌+◌, length, Option, Some, Result, Ok, Err, refl, sym, ap, ◌∙◌, subst, inl, inr, arith}
use Rattle.std.specs.List.{AllByRecursion}
use Rattle.std.specs.Result.{OnOk, IfErr}
use Rattle.std.proofs.lemmas.List.{append-nil}
use Rattle.http_heads.specs.declared.exchange.Backend.{Backend}
use Rattle.http_heads.specs.declared.exchange.Got.{Got}
use Rattle.wire.specs.Flow.{Flow, Moves}
use Rattle.wire.specs.Tapes.{Tape}
use Rattle.wire.specs.Telling.{LinkTold, DialerTold, Gains}
use Rattle.wire.specs.declared.peer.Talk.{Talk}
use Rattle.cache_law.specs.declared.call.Call.{Call}
use Rattle.cache_law.specs.declared.call.Call.TheVariants.{Begin, End}
use Rattle.cache_law.specs.declared.call.Entry.{Entry}
use Rattle.cache_law.specs.declared.cache.Told.{Told}
use Rattle.cache_law.specs.declared.rounds.Given.{Given}
use Rattle.cache_law.specs.declared.rounds.Given.TheVariants as given
use Rattle.cache_law.specs.declared.rounds.Request.{Request}
use Rattle.cache_law.specs.Beginning.{Beginning}
use Rattle.cache_law.specs.Core.{entry_of, moment_of, FitsBehind}
use Rattle.shared_cache.specs.Sharing.{CallerKnows, made_before}
use Rattle.round_task.specs.declared.want.Want.{Want}
use Rattle.round_task.specs.declared.want.Want.TheVariants.{Cache, Exchange}
use Rattle.round_task.specs.Happened.{Happened, behind, entries_for, entries_of, exchanges_of, bytes_of}
use Rattle.round_lead.specs.declared.cut.Cut.{Cut}
use Rattle.round_lead.specs.declared.cut.Cut.TheVariants.{HistoryFull, NoMemory, WriteFault}
use Rattle.round_lead.specs.declared.keeping.Progress.{Progress}
use Rattle.round_lead.specs.Seen.{HasCalled, StandsAt, StandAt, RiseIn, count_seen}
use Rattle.round_lead.specs.Tapes.{Went, ToldIn, WasDrawn}
use Rattle.round_lead.specs.Talks.{TalksOf}
use Rattle.round_lead.specs.Things.{called, ended, closes_of}
use Rattle.round_lead.specs.Steps.{At, Did, Refused}
use Rattle.round_task.specs.Responses.{WantsBy}
use Rattle.round_lead.specs.Responses.{DidntFit, CutBy, IsUntold, Tells, TellsCut, IsResponse, LedBy}
use Rattle.vcl_runs.specs.Languages.{Language}
use Rattle.round_lead.specs.Endings.{answered_of, answered_so}
use Rattle.round_lead.specs.Onward.{WantsNow, Whole, Cuts, Breaks}
use Rattle.round_lead.specs.Leading.{Begins, BeginRefused, Declined, kept}
use Rattle.round_lead.proofs.Told.{Went-none, Went-then, ToldIn-wider, WasDrawn-wider}
use Rattle.shared_cache.proofs.Numbers.{before_is}
use Rattle.round_lead.proofs.Seen.{stands_longer, stand_longer, rise_from_none, called_number, called_setting, called_seen, called_before}
use Rattle.round_lead.proofs.Things.{entries_of-append, bytes_of-append, runs_then, runs_wider}
use Rattle.round_lead.proofs.Did.{at, did_then}
use Rattle.round_lead.proofs.Onward.{cut_weaker, wants_later}

-- ---- one thing, that left one place

one_place : (from : ℕ) (history : List Entry) (places : List ℕ) (entry : Entry) → StandAt from history places (entry ∷ [])
    → (place : ℕ) × (places ≡ place ∷ []) × StandsAt from history place entry
one_place from history [] entry stand = absurd stand
one_place from history (place ∷ []) entry stand = (place, refl, stand.0)
one_place from history (place ∷ other ∷ more) entry stand = absurd stand.1

module _ {L : Type 0} (heard : L → LinkTold) (backends : List ℕ → Backend) where
  no_talk : (told : Told) (call : Call) (talks : List (Talk L)) → TalksOf heard backends (called call told ∷ []) talks → talks ≡ []
  no_talk told call talks talked = talked.2 ∙ (ap (λ (t : List (Talk L)). t ++ talked.1) talked.3 ∙ talked.4)

  -- what is kept once the End was made
  record Shuts (y z : At L) (told : Told) : Type 0 where
    place : ℕ
    places_are : z.places ≡ y.places ++ place ∷ []
    ends : StandsAt (made_before z.known) z.known.seen place (entry_of y.known.number End told)
    exchanges_are : z.exchanges ≡ y.exchanges
    sent_are : z.sent ≡ y.sent

  shuts : (y z : At L) (told : Told) → Did heard backends y z (ended told ∷ []) [] → Shuts y z told
  shuts y z told did =
      let one = one_place (made_before z.known) z.known.seen did.places (entry_of y.known.number End told) did.stand in
      record {
        place = one.0;
        places_are = did.places_are ∙ ap (λ (ps : List ℕ). y.places ++ ps) one.1;
        ends = one.2;
        exchanges_are = did.exchanges_are ∙ append-nil y.exchanges;
        sent_are = did.sent_are ∙ append-nil y.sent;
      }

  -- from where nothing is kept yet, what is kept is what happened
  record Whence (x y : At L) (steps : List Happened) (sent : List ℕ) : Type 0 where
    stand : StandAt (made_before y.known) y.known.seen y.places (entries_of x.known.number steps)
    rise : RiseIn 0 (count_seen y.known) y.places
    called : HasCalled x.known y.known y.places
    exchanges_are : y.exchanges ≡ exchanges_of steps
    sent_are : y.sent ≡ sent
    closes_are : closes_of steps ≡ y.closes
    timed : AllByRecursion (λ got. ToldIn x.readings y.readings got.moment) y.exchanges

  whence : (x y : At L) (steps : List Happened) (sent : List ℕ) → x.places ≡ [] → x.exchanges ≡ [] → x.sent ≡ [] → x.closes ≡ false → Did heard backends x y steps sent → Whence x y steps sent
  whence x y steps sent no_place no_exchange no_byte stays did =
      let places : y.places ≡ did.places = did.places_are ∙ ap (λ (ps : List ℕ). ps ++ did.places) no_place in
      let exchanges : y.exchanges ≡ exchanges_of steps = did.exchanges_are ∙ ap (λ (es : List Got). es ++ exchanges_of steps) no_exchange in
      record {
        stand = subst (λ (ps : List ℕ). StandAt (made_before y.known) y.known.seen ps (entries_of x.known.number steps)) (sym places) did.stand;
        rise = subst (RiseIn 0 (count_seen y.known)) (sym places) (rise_from_none (count_seen x.known) (count_seen y.known) did.places did.rise);
        called = subst (HasCalled x.known y.known) (sym places) did.called;
        exchanges_are = exchanges;
        sent_are = did.sent_are ∙ ap (λ (bs : List ℕ). bs ++ sent) no_byte;
        closes_are = sym (did.closes_are ∙ ap (λ (b : Bool). b || closes_of steps) stays);
        timed = subst (AllByRecursion (λ (got : Got). ToldIn x.readings y.readings got.moment)) (sym exchanges) did.timed;
      }

-- what wasn't told leaves no entry
untold_entries : (wants : Want → Type 0) (refused : Call → Type 0) (cut : Cut) (extra : List Happened) (part : List ℕ) (caller : ℕ) → CutBy wants refused cut extra part → entries_of caller extra ≡ []
untold_entries wants refused NoMemory [] part caller cut = refl
untold_entries wants refused NoMemory (one ∷ []) part caller cut = by_kind one.want one.given cut.1.1
  where
    by_kind : (want : Want) (given_ : Given) → IsUntold want given_ → entries_for caller want given_ ++ [] ≡ []
    by_kind (Exchange number backend request) (given.Exchange got) untold = refl
    by_kind want other untold = absurd untold
untold_entries wants refused NoMemory (one ∷ other ∷ more) part caller cut = absurd cut.1
untold_entries wants refused HistoryFull extra part caller cut = ap (entries_of caller) cut.1
untold_entries wants refused WriteFault extra part caller cut = ap (entries_of caller) cut.2

-- ---- a round that was led to its End

module _ {P L : Type 0} (language : Language P) (heard : L → LinkTold) (request : Request) (peer : List ℕ) (first then_ last : At L) (k' : CallerKnows) (over' : Option Flow)
    (reads' words' : Option Tape) (dialer' : DialerTold L) (p' : Progress) (told closing : Told) (beginning : Beginning) where
  abbrev pub z : At L
  z = at k' over' reads' words' dialer' p'

  -- nothing was kept before its Begin, which came then, and its End came last
  pub record Frame : Type 0 where
    pub begins : first.known.setting ≡ Some beginning
    pub no_place : first.places ≡ []
    pub no_exchange : first.exchanges ≡ []
    pub no_byte : first.sent ≡ []
    pub stays : first.closes ≡ false
    pub opened : Begins heard first then_ told
    pub shut : (backends : List ℕ → Backend) → Did heard backends last z (ended closing ∷ []) []

  -- its client was sent what is kept of it
  abbrev pub Moved : Type 0
  Moved = Moves first.flow over' [] p'.sent.items

  -- what a round wants, as it is told at its end
  abbrev Wanted : P → List Given → Want → Type 0
  Wanted program = WantsBy (language.evaluator program) (WasDrawn first.words words') request peer

  -- its history begins there from its first call to its last
  began_at : (frame : Frame) (after : CallerKnows) (places : List ℕ) → HasCalled first.known after places → made_before after ≡ beginning.base.entries
  began_at frame after places called_ = called_before first.known after places called_ ∙ before_is first.known beginning frame.begins

  rise_from : (frame : Frame) (after : CallerKnows) (calls places : List ℕ) → HasCalled first.known after calls → RiseIn 0 (count_seen after) places
      → RiseIn 0 (beginning.base.entries + length after.seen) places
  rise_from frame after calls places called_ rise = subst (λ (from : ℕ). RiseIn 0 (from + length after.seen) places) (began_at frame after calls called_) rise

  begin_runs : (frame : Frame) (program : P) → Went then_.words words' → Wanted program [] (Cache Begin)
  begin_runs frame program later = (Some frame.opened.first, WasDrawn-wider first.words first.words then_.words words' (Some frame.opened.first) (Went-none first.words) later frame.opened.drawn, refl)

  whole_tells : (frame : Frame) (whole : Whole language heard request peer told then_ last) (closes : Bool) → p'.closes ≡ closes
      → (talks : List (Talk L)) × Gains first.dialer dialer' talks × Moves first.flow over' [] p'.sent.items × HasCalled first.known k' p'.numbers.items
      × Tells language (WasDrawn first.words words') (ToldIn first.readings reads') heard beginning k'.seen first.known.number (kept request peer p') talks closes
  whole_tells frame whole closes closes_are =
      let backends = language.backends whole.program in
      let ending = frame.shut backends in
      let all : List Happened = called Begin told ∷ (whole.steps ++ ended closing ∷ []) in
      let later = Went-then then_.words last.words words' whole.did.drew ending.drew in
      let did = did_then heard backends first then_ z (called Begin told ∷ []) (whole.steps ++ ended closing ∷ []) [] (bytes_of whole.steps ++ []) (frame.opened.did backends)
      (did_then heard backends then_ last z whole.steps (ended closing ∷ []) (bytes_of whole.steps) [] whole.did ending) in
      let from = whence heard backends first z all (bytes_of whole.steps ++ []) frame.no_place frame.no_exchange frame.no_byte frame.stays did in
      let run = whole.runs first.words (frame.opened.did backends).drew in
      let until = wants_later (language.evaluator whole.program) request peer first.words last.words words' ending.drew in (
        did.talks,
        did.gained,
        subst (λ (bs : List ℕ). Moves first.flow over' [] bs) (sym from.sent_are) did.moves,
        from.called,
        record {
          program = whole.program;
          steps = all;
          ran = whole.ran;
          runs = (
            begin_runs frame whole.program later,
            tt,
            runs_then (Wanted whole.program) (given.Reply told ∷ []) whole.steps (ended closing ∷ [])
                (runs_wider (WantsBy (language.evaluator whole.program) (WasDrawn first.words last.words) request peer) (Wanted whole.program) (given.Reply told ∷ []) whole.steps until run.0)
                (until (behind (given.Reply told ∷ []) whole.steps) (Cache End) run.1, tt, tt),
          );
          front = called Begin told ∷ whole.steps;
          closing = closing;
          to_its_end = refl;
          stand = subst (λ (n : ℕ). StandAt n k'.seen p'.numbers.items (entries_of first.known.number all)) (began_at frame k' p'.numbers.items from.called) from.stand;
          rise = rise_from frame k' p'.numbers.items p'.numbers.items from.called from.rise;
          exchanges_are = from.exchanges_are;
          sent_is = from.sent_are ∙ sym (bytes_of-append whole.steps (ended closing ∷ []));
          timed = from.timed;
          talked = did.talked;
          closes_is = from.closes_are ∙ closes_are;
        },
      )

  led_whole : {T : Type 0} → (done : T) (frame : Frame) (whole : Whole language heard request peer told then_ last) (closes : Bool) → p'.closes ≡ closes
      → LedBy language (WasDrawn first.words words') (ToldIn first.readings reads') heard first.known k' first.dialer dialer' (kept request peer p') (answered_so (Ok done) closes) × Moved
  led_whole done frame whole true closes_are =
      let told_ = whole_tells frame whole true closes_are in
      (record { beginning = beginning; begins = called_setting first.known k' p'.numbers.items told_.3 ∙ frame.begins; called = told_.3; talks = told_.0; gained = told_.1; response = told_.4 }, told_.2)
  led_whole done frame whole false closes_are =
      let told_ = whole_tells frame whole false closes_are in
      (record { beginning = beginning; begins = called_setting first.known k' p'.numbers.items told_.3 ∙ frame.begins; called = told_.3; talks = told_.0; gained = told_.1; response = told_.4 }, told_.2)

  -- its End stands there
  ends_at : (frame : Frame) (place : ℕ) {number : ℕ} → number ≡ first.known.number → HasCalled first.known k' p'.numbers.items
      → StandsAt (made_before k') k'.seen place (entry_of number End closing) → StandsAt beginning.base.entries k'.seen place (entry_of first.known.number End closing)
  ends_at frame place number called_ ends =
      subst (λ (from : ℕ). StandsAt from k'.seen place (entry_of first.known.number End closing)) (began_at frame k' p'.numbers.items called_)
      (subst (λ (n : ℕ). StandsAt (made_before k') k'.seen place (entry_of n End closing)) number ends)

  -- ---- one that was cut short

  -- a call that didn't fit what was seen then doesn't fit a front of what is seen now
  didnt_fit : (frame : Frame) (from : List ℕ) (between : List Entry) (call : Call) → last.known.setting ≡ Some beginning → last.known.number ≡ first.known.number → k'.seen ≡ last.known.seen ++ between
      → RiseIn 0 (beginning.base.entries + length last.known.seen) from → Went first.readings then_.readings → Went last.readings reads' → Refused last.known then_.readings last.readings call
      → DidntFit (ToldIn first.readings reads') beginning k'.seen first.known.number from call
  didnt_fit frame from between call begins number seen rise earlier later refused =
      let same : refused.beginning ≡ beginning = let e : Some refused.beginning ≡ Some beginning = sym refused.begins ∙ begins in cc in
      record {
        front = last.known.seen;
        more = between;
        begins = seen;
        has = rise;
        reading = refused.reading;
        read = ToldIn-wider first.readings then_.readings last.readings reads' refused.reading earlier later refused.read;
        full = λ fits. refused.full (subst (λ (b : Beginning). FitsBehind b last.known.seen last.known.number (moment_of b last.known.seen refused.reading) call) (sym same)
            (subst (λ (n : ℕ). FitsBehind beginning last.known.seen n (moment_of beginning last.known.seen refused.reading) call) (sym number) fits));
      }

  cut_tells : (frame : Frame) (cut : Cut) (cuts : Cuts language heard request peer told then_ last cut)
      → (talks : List (Talk L)) × Gains first.dialer dialer' talks × Moves first.flow over' [] p'.sent.items × HasCalled first.known k' p'.numbers.items
      × TellsCut language (WasDrawn first.words words') (ToldIn first.readings reads') heard beginning k'.seen first.known.number (kept request peer p') talks cut
  cut_tells frame cut cuts =
      let backends = language.backends cuts.program in
      let ending = frame.shut backends in
      let opening = frame.opened.did backends in
      let front : List Happened = called Begin told ∷ (cuts.steps ++ cuts.extra) in
      let later = Went-then then_.words last.words words' cuts.did.drew ending.drew in
      let half = did_then heard backends first then_ last (called Begin told ∷ []) (cuts.steps ++ cuts.extra) [] (bytes_of cuts.steps ++ cuts.part) opening cuts.did in
      let from = whence heard backends first last front (bytes_of cuts.steps ++ cuts.part) frame.no_place frame.no_exchange frame.no_byte frame.stays half in
      let did = did_then heard backends first last z front (ended closing ∷ []) (bytes_of cuts.steps ++ cuts.part) [] half ending in
      let over_all = whence heard backends first z (front ++ ended closing ∷ []) ((bytes_of cuts.steps ++ cuts.part) ++ []) frame.no_place frame.no_exchange frame.no_byte frame.stays did in
      let end_ = shuts heard backends last z closing ending in
      let seen = called_seen last.known k' ending.places ending.called in
      let number = called_number first.known last.known last.places from.called in
      let run = cuts.so first.words opening.drew in
      let until = wants_later (language.evaluator cuts.program) request peer first.words last.words words' ending.drew in
      let none_ = untold_entries (WantsNow language heard request peer told cuts.program first.words last.words cuts.steps) (Refused last.known then_.readings last.readings) cut cuts.extra cuts.part first.known.number run.1 in
      let entries : entries_of first.known.number front ≡ entries_of first.known.number (called Begin told ∷ cuts.steps) =
      entries_of-append first.known.number (called Begin told ∷ cuts.steps) cuts.extra
      ∙ (ap (λ (es : List Entry). entries_of first.known.number (called Begin told ∷ cuts.steps) ++ es) none_ ∙ append-nil (entries_of first.known.number (called Begin told ∷ cuts.steps))) in (
        did.talks,
        did.gained,
        subst (λ (bs : List ℕ). Moves first.flow over' [] bs) (sym over_all.sent_are) did.moves,
        over_all.called,
        record {
          program = cuts.program;
          steps = called Begin told ∷ cuts.steps;
          ran = cuts.ran;
          runs = (
            begin_runs frame cuts.program later,
            tt,
            runs_wider (WantsBy (language.evaluator cuts.program) (WasDrawn first.words last.words) request peer) (Wanted cuts.program) (given.Reply told ∷ []) cuts.steps until run.0,
          );
          extra = cuts.extra;
          part = cuts.part;
          places = last.places;
          closed = end_.place;
          closing = closing;
          cut_so = cut_weaker (WantsNow language heard request peer told cuts.program first.words last.words cuts.steps) (Wanted cuts.program (behind (given.Reply told ∷ []) cuts.steps))
              (Refused last.known then_.readings last.readings) (DidntFit (ToldIn first.readings reads') beginning k'.seen first.known.number last.places) cut cuts.extra cuts.part
              (until (behind (given.Reply told ∷ []) cuts.steps))
              (λ call refused. didnt_fit frame last.places ending.called.between call (called_setting first.known last.known last.places from.called ∙ frame.begins) number seen (rise_from frame last.known last.places last.places from.called from.rise) opening.read ending.read refused)
              run.1;
          places_are = end_.places_are;
          stand = subst (λ (es : List Entry). StandAt beginning.base.entries k'.seen last.places es) entries
              (subst (λ (h : List Entry). StandAt beginning.base.entries h last.places (entries_of first.known.number front)) (sym seen)
              (stand_longer beginning.base.entries last.known.seen ending.called.between last.places (entries_of first.known.number front)
              (subst (λ (n : ℕ). StandAt n last.known.seen last.places (entries_of first.known.number front)) (began_at frame last.known last.places from.called) from.stand)));
          ends = ends_at frame end_.place number over_all.called end_.ends;
          rise = rise_from frame k' p'.numbers.items p'.numbers.items over_all.called over_all.rise;
          exchanges_are = end_.exchanges_are ∙ from.exchanges_are;
          sent_is = end_.sent_are ∙ from.sent_are;
          timed = over_all.timed;
          talked = cut_talked backends front did.talks did.talked;
        },
      )
    where
      -- the End has no talk
      cut_talked : (backends : List ℕ → Backend) (xs : List Happened) (talks : List (Talk L)) → TalksOf heard backends (xs ++ ended closing ∷ []) talks → TalksOf heard backends xs talks
      cut_talked backends [] talks talked = no_talk heard backends closing End talks talked
      cut_talked backends (x ∷ xs) talks talked = (talked.0, talked.1, talked.2, talked.3, cut_talked backends xs talked.1 talked.4)

  response_cut : (talks : List (Talk L)) (cut : Cut)
      → TellsCut language (WasDrawn first.words words') (ToldIn first.readings reads') heard beginning k'.seen first.known.number (kept request peer p') talks cut
      → IsResponse language (WasDrawn first.words words') (ToldIn first.readings reads') heard beginning k'.seen first.known.number (kept request peer p') talks (answered_of cut)
  response_cut talks NoMemory tells = inl tells
  response_cut talks HistoryFull tells = inl tells
  response_cut talks WriteFault tells = tells

  -- no more than its Begin and its End
  none_led : (frame : Frame) → last ≡ then_
      → LedBy language (WasDrawn first.words words') (ToldIn first.readings reads') heard first.known k' first.dialer dialer' (kept request peer p') (answered_of NoMemory) × Moved
  none_led frame same =
      let backends : List ℕ → Backend = λ name. record { name = name; host = []; port = [] } in
      let opening = frame.opened.did backends in
      let ending = subst (λ (w : At L). Did heard backends w z (ended closing ∷ []) []) same (frame.shut backends) in
      let from = whence heard backends first then_ (called Begin told ∷ []) [] frame.no_place frame.no_exchange frame.no_byte frame.stays opening in
      let did = did_then heard backends first then_ z (called Begin told ∷ []) (ended closing ∷ []) [] [] opening ending in
      let over_all = whence heard backends first z (called Begin told ∷ ended closing ∷ []) [] frame.no_place frame.no_exchange frame.no_byte frame.stays did in
      let end_ = shuts heard backends then_ z closing ending in
      let begin_ = one_place (made_before then_.known) then_.known.seen then_.places (entry_of first.known.number Begin told) from.stand in
      let seen = called_seen then_.known k' ending.places ending.called in
      let number = called_number first.known then_.known then_.places from.called in (
        record {
          beginning = beginning;
          begins = called_setting first.known k' p'.numbers.items over_all.called ∙ frame.begins;
          called = over_all.called;
          talks = did.talks;
          gained = did.gained;
          response = inr (inl (record {
            opened = begin_.0;
            closed = end_.place;
            opening = told;
            closing = closing;
            begins = subst (λ (h : List Entry). StandsAt beginning.base.entries h begin_.0 (entry_of first.known.number Begin told)) (sym seen)
                (stands_longer beginning.base.entries then_.known.seen ending.called.between begin_.0 (entry_of first.known.number Begin told)
                (subst (λ (n : ℕ). StandsAt n then_.known.seen begin_.0 (entry_of first.known.number Begin told)) (began_at frame then_.known then_.places from.called) begin_.2));
            ends = ends_at frame end_.place number over_all.called end_.ends;
            places_are = end_.places_are ∙ ap (λ (ps : List ℕ). ps ++ end_.place ∷ []) begin_.1;
            rise = rise_from frame k' p'.numbers.items p'.numbers.items over_all.called over_all.rise;
            no_exchange = over_all.exchanges_are;
            nothing_sent = over_all.sent_are;
            no_talk = two_talks backends did.talks did.talked;
          }));
        },
        subst (λ (bs : List ℕ). Moves first.flow over' [] bs) (sym over_all.sent_are) did.moves,
      )
    where
      two_talks : (backends : List ℕ → Backend) (talks : List (Talk L)) → TalksOf heard backends (called Begin told ∷ ended closing ∷ []) talks → talks ≡ []
      two_talks backends talks talked =
          talked.2 ∙ (ap (λ (t : List (Talk L)). t ++ talked.1) talked.3 ∙ no_talk heard backends closing End talked.1 talked.4)

  led_cut : (frame : Frame) (cut : Cut) → Breaks language heard request peer told then_ last cut
      → LedBy language (WasDrawn first.words words') (ToldIn first.readings reads') heard first.known k' first.dialer dialer' (kept request peer p') (answered_of cut) × Moved
  led_cut frame cut (inl cuts) =
      let told_ = cut_tells frame cut cuts in (
        record {
          beginning = beginning;
          begins = called_setting first.known k' p'.numbers.items told_.3 ∙ frame.begins;
          called = told_.3;
          talks = told_.0;
          gained = told_.1;
          response = response_cut told_.0 cut told_.4;
        },
        told_.2,
      )
  led_cut frame cut (inr none_) =
      subst (λ (c : Cut). LedBy language (WasDrawn first.words words') (ToldIn first.readings reads') heard first.known k' first.dialer dialer' (kept request peer p') (answered_of c) × Moved)
      (sym none_.is) (none_led frame none_.same)

  -- however it was led
  pub led_by : {T : Type 0} → (frame : Frame) (led : Result T Cut) → OnOk led (Whole language heard request peer told then_ last) → IfErr led (Breaks language heard request peer told then_ last)
      → LedBy language (WasDrawn first.words words') (ToldIn first.readings reads') heard first.known k' first.dialer dialer' (kept request peer p') (answered_so led p'.closes) × Moved
  led_by frame (Ok done) whole breaks = led_whole done frame whole p'.closes refl
  led_by frame (Err cut) whole breaks = led_cut frame cut breaks

  clock_over : (frame : Frame) → Went then_.readings last.readings → Went then_.words last.words → Went first.readings reads' × Went first.words words'
  clock_over frame read drew =
      let backends : List ℕ → Backend = λ name. record { name = name; host = []; port = [] } in
      let opening = frame.opened.did backends in
      let ending = frame.shut backends in (
        Went-then first.readings then_.readings reads' opening.read (Went-then then_.readings last.readings reads' read ending.read),
        Went-then first.words then_.words words' opening.drew (Went-then then_.words last.words words' drew ending.drew),
      )

  -- what its clock told
  pub clock_by : {T : Type 0} → (frame : Frame) (led : Result T Cut) → OnOk led (Whole language heard request peer told then_ last) → IfErr led (Breaks language heard request peer told then_ last)
      → Went first.readings reads' × Went first.words words'
  clock_by frame (Ok done) whole breaks = clock_over frame whole.did.read whole.did.drew
  clock_by frame (Err cut) whole (inl cuts) = clock_over frame cuts.did.read cuts.did.drew
  clock_by frame (Err cut) whole (inr none_) =
      clock_over frame (subst (λ (w : At L). Went then_.readings w.readings) (sym none_.same) (Went-none then_.readings))
      (subst (λ (w : At L). Went then_.words w.words) (sym none_.same) (Went-none then_.words))

-- ---- one whose Begin was refused

module _ {P L : Type 0} (language : Language P) (heard : L → LinkTold) (request : Request) (peer : List ℕ) (first : At L) (k' : CallerKnows) (over' : Option Flow)
    (reads' words' : Option Tape) (dialer' : DialerTold L) (p' : Progress) (beginning : Beginning) where
  pub led_none : (cut : Cut) → first.known.setting ≡ Some beginning → first.places ≡ [] → first.exchanges ≡ [] → first.sent ≡ [] → first.closes ≡ false → Declined heard first (at k' over' reads' words' dialer' p') cut
      → LedBy language (WasDrawn first.words words') (ToldIn first.readings reads') heard first.known k' first.dialer dialer' (kept request peer p') (answered_of cut) × Moves first.flow over' [] p'.sent.items × (Went first.readings reads' × Went first.words words')
  led_none cut begins no_place no_exchange no_byte stays declined =
      let backends : List ℕ → Backend = λ name. record { name = name; host = []; port = [] } in
      let did = declined.did backends in
      let from = whence heard backends first (at k' over' reads' words' dialer' p') [] [] no_place no_exchange no_byte stays did in
      let no_number : p'.numbers.items ≡ [] = no_places (made_before k') k'.seen p'.numbers.items from.stand in (
        record {
          beginning = beginning;
          begins = called_setting first.known k' p'.numbers.items from.called ∙ begins;
          called = from.called;
          talks = did.talks;
          gained = did.gained;
          response = by_cut cut declined.why did.talks did.talked no_number from.exchanges_are from.sent_are from.called;
        },
        subst (λ (bs : List ℕ). Moves first.flow over' [] bs) (sym from.sent_are) did.moves,
        (did.read, did.drew),
      )
    where
      no_places : (from : ℕ) (history : List Entry) (places : List ℕ) → StandAt from history places [] → places ≡ []
      no_places from history [] stand = refl
      no_places from history (place ∷ more) stand = absurd stand

      by_cut : (cut : Cut) → BeginRefused heard first (at k' over' reads' words' dialer' p') cut → (talks : List (Talk L)) → talks ≡ [] → p'.numbers.items ≡ [] → p'.exchanges.items ≡ [] → p'.sent.items ≡ []
          → HasCalled first.known k' p'.numbers.items
          → IsResponse language (WasDrawn first.words words') (ToldIn first.readings reads') heard beginning k'.seen first.known.number (kept request peer p') talks (answered_of cut)
      by_cut NoMemory why talks no_talk_ numbers exchanges sent called_ =
          inr (inr (record { refused = tt; no_place = numbers; no_exchange = exchanges; nothing_sent = sent; no_talk = no_talk_ }))
      by_cut HistoryFull why talks no_talk_ numbers exchanges sent called_ =
          let number = called_number first.known k' p'.numbers.items called_ in
          let same : why.beginning ≡ beginning = let e : Some why.beginning ≡ Some beginning = sym why.begins ∙ (called_setting first.known k' p'.numbers.items called_ ∙ begins) in cc in
          inr (record {
            refused = record {
              front = k'.seen;
              more = [];
              begins = sym (append-nil k'.seen);
              has = omega arith;
              reading = why.reading;
              read = why.read;
              full = λ fits. why.full (subst (λ (b : Beginning). FitsBehind b k'.seen k'.number (moment_of b k'.seen why.reading) Begin) (sym same)
                  (subst (λ (n : ℕ). FitsBehind beginning k'.seen n (moment_of beginning k'.seen why.reading) Begin) (sym number) fits));
            };
            no_place = numbers;
            no_exchange = exchanges;
            nothing_sent = sent;
            no_talk = no_talk_;
          })
      by_cut WriteFault why talks no_talk_ numbers exchanges sent called_ = absurd why
