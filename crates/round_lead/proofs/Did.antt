-- What happened, put together.
use Rattle.std.proofs.Common.{◌≡◌, ℕ, Bool, ◌||◌, List, [], ◌∷◌, ◌++◌, length, Option, refl, sym, ap, ◌∙◌, subst, arith}
use Rattle.std.specs.List.{AllByRecursion}
use Rattle.std.proofs.lemmas.List.{append-nil, append_assoc}
use Rattle.http_heads.specs.declared.exchange.Backend.{Backend}
use Rattle.http_heads.specs.declared.exchange.BackendRequest.{BackendRequest}
use Rattle.http_heads.specs.declared.exchange.Got.{Got}
use Rattle.wire.specs.Flow.{Flow, Moves}
use Rattle.wire.specs.Tapes.{Tape}
use Rattle.wire.specs.declared.peer.Talk.{Talk}
use Rattle.wire.specs.Telling.{LinkTold, DialerTold}
use Rattle.wire.proofs.Flowing.{Moves-none, Moves-trans}
use Rattle.wire.proofs.Gaining.{gains_none, gains_then}
use Rattle.cache_law.specs.declared.call.Call.{Call}
use Rattle.cache_law.specs.declared.call.Entry.{Entry}
use Rattle.cache_law.specs.declared.cache.Told.{Told}
use Rattle.cache_law.specs.declared.cache.StepError.{StepError}
use Rattle.cache_law.specs.declared.rounds.Given.TheVariants as given
use Rattle.delivery.specs.declared.finishing.Delivery.{Delivery}
use Rattle.delivery.specs.Sent.{delivery_text}
use Rattle.shared_cache.specs.Sharing.{CallerKnows, made_before}
use Rattle.round_task.specs.declared.want.Want.TheVariants.{Exchange, Send}
use Rattle.round_task.specs.Happened.{Happened, entries_of, exchanges_of}
use Rattle.round_lead.specs.declared.cut.Cut.{Cut}
use Rattle.round_lead.specs.declared.keeping.Progress.{Progress}
use Rattle.round_lead.specs.Seen.{StandAt, count_seen}
use Rattle.round_lead.specs.Tapes.{Went, ToldIn}
use Rattle.round_lead.specs.Steps.{At, Did, Makes, Declines, Exchanges, Sends, SendsPart, SameCalls}
use Rattle.round_lead.specs.Talks.{TalksOf}
use Rattle.round_lead.specs.Onward.{happened}
use Rattle.round_lead.specs.Things.{called, closes_of}
use Rattle.round_lead.proofs.Told.{Went-none, Went-same, Went-then, Went-told, ToldIn-now, ToldIn-wider}
use Rattle.round_lead.proofs.Seen.{stand_longer, stand_then, rise_then, called_none, called_then, called_number, called_seen, called_before, called_longer, one_called, one_stands, one_rises}
use Rattle.round_lead.proofs.Things.{entries_of-append, exchanges_of-append, closes_of-append, or_none, or_then, talks_then, all_then, all_wider}

abbrev pub at : {L : Type 0} → CallerKnows → Option Flow → Option Tape → Option Tape → DialerTold L → Progress → At L
at k over reads words dialer p =
    record {
      known = k;
      flow = over;
      readings = reads;
      words = words;
      dialer = dialer;
      places = p.numbers.items;
      exchanges = p.exchanges.items;
      sent = p.sent.items;
      closes = p.closes;
    }

module _ {L : Type 0} (heard : L → LinkTold) (backends : List ℕ → Backend) where
  pub did_none : (x : At L) → Did heard backends x x [] []
  did_none x = record {
    places = [];
    called = called_none x.known;
    places_are = sym (append-nil x.places);
    stand = tt;
    rise = omega arith;
    exchanges_are = sym (append-nil x.exchanges);
    timed = tt;
    sent_are = sym (append-nil x.sent);
    moves = Moves-none x.flow;
    talks = [];
    gained = gains_none x.dialer;
    talked = refl;
    closes_are = sym (or_none x.closes);
    read = Went-none x.readings;
    drew = Went-none x.words;
  }

  pub did_then : (x y z : At L) (xs ys : List Happened) (sent more : List ℕ) → Did heard backends x y xs sent → Did heard backends y z ys more
      → Did heard backends x z (xs ++ ys) (sent ++ more)
  did_then x y z xs ys sent more one two =
      let seen = called_seen y.known z.known two.places two.called in
      let number = called_number x.known y.known one.places one.called in
      let from = called_before y.known z.known two.places two.called in
      let first = subst (λ (h : List Entry). StandAt (made_before z.known) h one.places (entries_of x.known.number xs)) (sym seen)
      (stand_longer (made_before z.known) y.known.seen two.called.between one.places (entries_of x.known.number xs)
      (subst (λ (n : ℕ). StandAt n y.known.seen one.places (entries_of x.known.number xs)) (sym from) one.stand)) in
      let second = subst (λ (n : ℕ). StandAt (made_before z.known) z.known.seen two.places (entries_of n ys)) number two.stand in
      record {
        places = one.places ++ two.places;
        called = called_then x.known y.known z.known one.places two.places one.called two.called;
        places_are = two.places_are ∙ (ap (λ (ps : List ℕ). ps ++ two.places) one.places_are ∙ append_assoc x.places one.places two.places);
        stand = subst (λ (es : List Entry). StandAt (made_before z.known) z.known.seen (one.places ++ two.places) es) (sym (entries_of-append x.known.number xs ys))
            (stand_then (made_before z.known) z.known.seen one.places two.places (entries_of x.known.number xs) (entries_of x.known.number ys) first second);
        rise = rise_then (count_seen x.known) (count_seen y.known) (count_seen z.known) one.places two.places one.rise two.rise;
        exchanges_are = two.exchanges_are
            ∙ (ap (λ (es : List Got). es ++ exchanges_of ys) one.exchanges_are
            ∙ (append_assoc x.exchanges (exchanges_of xs) (exchanges_of ys) ∙ ap (λ (es : List Got). x.exchanges ++ es) (sym (exchanges_of-append xs ys))));
        timed = subst (λ (es : List Got). AllByRecursion (λ (got : Got). ToldIn x.readings z.readings got.moment) es) (sym (exchanges_of-append xs ys))
            (all_then (λ (got : Got). ToldIn x.readings z.readings got.moment) (exchanges_of xs) (exchanges_of ys)
            (all_wider (λ (got : Got). ToldIn x.readings y.readings got.moment) (λ (got : Got). ToldIn x.readings z.readings got.moment) (exchanges_of xs)
            (λ got told. ToldIn-wider x.readings x.readings y.readings z.readings got.moment (Went-none x.readings) two.read told) one.timed)
            (all_wider (λ (got : Got). ToldIn y.readings z.readings got.moment) (λ (got : Got). ToldIn x.readings z.readings got.moment) (exchanges_of ys)
            (λ got told. ToldIn-wider x.readings y.readings z.readings z.readings got.moment one.read (Went-none z.readings) told) two.timed));
        sent_are = two.sent_are ∙ (ap (λ (bs : List ℕ). bs ++ more) one.sent_are ∙ append_assoc x.sent sent more);
        moves = Moves-trans x.flow y.flow z.flow [] [] sent more one.moves two.moves;
        talks = one.talks ++ two.talks;
        gained = gains_then x.dialer y.dialer z.dialer one.talks two.talks one.gained two.gained;
        talked = talks_then heard backends xs ys one.talks two.talks one.talked two.talked;
        closes_are = subst (λ (b : Bool). z.closes ≡ (x.closes || b)) (sym (closes_of-append xs ys))
            (or_then x.closes y.closes z.closes (closes_of xs) (closes_of ys) one.closes_are two.closes_are);
        read = Went-then x.readings y.readings z.readings one.read two.read;
        drew = Went-then x.words y.words z.words one.drew two.drew;
      }

  -- no more than a word was drawn
  pub did_draw : (x : At L) (words : Option Tape) → Went x.words words → Did heard backends x (record x { words = words }) [] []
  did_draw x words drew = record {
    places = [];
    called = called_none x.known;
    places_are = sym (append-nil x.places);
    stand = tt;
    rise = omega arith;
    exchanges_are = sym (append-nil x.exchanges);
    timed = tt;
    sent_are = sym (append-nil x.sent);
    moves = Moves-none x.flow;
    talks = [];
    gained = gains_none x.dialer;
    talked = refl;
    closes_are = sym (or_none x.closes);
    read = Went-none x.readings;
    drew = drew;
  }

  module _ (over : Option Flow) (dialer : DialerTold L) where
    -- one call
    pub did_call : (k k' : CallerKnows) (reads reads' words words' : Option Tape) (p p' : Progress) (call : Call) (told : Told) → words' ≡ words
        → Makes k k' reads reads' p p' call told
        → Did heard backends (at k over reads words dialer p) (at k' over reads' words' dialer p') (called call told ∷ []) []
    did_call k k' reads reads' words words' p p' call told undrawn made = record {
      places = told.place ∷ [];
      called = one_called k k' made.reading call told made.knows made.called;
      places_are = made.places_are;
      stand = (one_stands k k' made.reading call told made.knows made.called, tt);
      rise = one_rises k k' made.reading call told made.knows made.called;
      exchanges_are = made.rest.exchanges ∙ sym (append-nil p.exchanges.items);
      timed = tt;
      sent_are = made.rest.sent ∙ sym (append-nil p.sent.items);
      moves = Moves-none over;
      talks = [];
      gained = gains_none dialer;
      talked = ([], [], refl, refl, refl);
      closes_are = made.rest.closes ∙ sym (or_none p.closes);
      read = Went-told reads reads' made.reading made.read;
      drew = Went-same words words' undrawn;
    }

    -- a call that was declined
    pub did_decline : (k k' : CallerKnows) (reads reads' words words' : Option Tape) (p p' : Progress) (call : Call) (error : StepError) → words' ≡ words
        → Declines k k' reads reads' p p' call error
        → Did heard backends (at k over reads words dialer p) (at k' over reads' words' dialer p') [] []
    did_decline k k' reads reads' words words' p p' call error undrawn made = record {
      places = [];
      called = made.called;
      places_are = made.places_are ∙ sym (append-nil p.numbers.items);
      stand = tt;
      rise = called_longer k k' [] made.called;
      exchanges_are = made.rest.exchanges ∙ sym (append-nil p.exchanges.items);
      timed = tt;
      sent_are = made.rest.sent ∙ sym (append-nil p.sent.items);
      moves = Moves-none over;
      talks = [];
      gained = gains_none dialer;
      talked = refl;
      closes_are = made.rest.closes ∙ sym (or_none p.closes);
      read = made.went;
      drew = Went-same words words' undrawn;
    }

  -- one exchange
  pub did_exchange : (k : CallerKnows) (over : Option Flow) (reads reads' words words' : Option Tape) (dialer dialer' : DialerTold L) (p p' : Progress) (number : ℕ) (name : List ℕ)
      (request : BackendRequest) (got : Got) → words' ≡ words → Exchanges heard (backends name) request reads reads' dialer dialer' p p' got
      → Did heard backends (at k over reads words dialer p) (at k over reads' words' dialer' p') (happened (Exchange number name request) (given.Exchange got) ∷ []) []
  did_exchange k over reads reads' words words' dialer dialer' p p' number name request got undrawn made = record {
    places = [];
    called = called_none k;
    places_are = ap (λ (v : _). v.items) made.places_are ∙ sym (append-nil p.numbers.items);
    stand = tt;
    rise = omega arith;
    exchanges_are = made.exchanges_are;
    timed = (ToldIn-now reads reads' got.moment made.read, tt);
    sent_are = made.sent_are ∙ sym (append-nil p.sent.items);
    moves = Moves-none over;
    talks = made.more;
    gained = made.gained;
    talked = (made.more, [], sym (append-nil made.more), made.by, refl);
    closes_are = made.closes_are ∙ sym (or_none p.closes);
    read = Went-told reads reads' got.moment made.read;
    drew = Went-same words words' undrawn;
  }

  module _ (k : CallerKnows) (reads words : Option Tape) (dialer : DialerTold L) (over over' : Option Flow) (p p' : Progress) where
    -- so many bytes of the response were sent, by these things
    did_write : (things : List Happened) (sent : List ℕ) → entries_of k.number things ≡ [] → exchanges_of things ≡ [] → ((empty : List (Talk L)) → empty ≡ [] → TalksOf heard backends things empty)
        → Moves over over' [] sent → p'.sent.items ≡ p.sent.items ++ sent → p'.closes ≡ (p.closes || closes_of things) → SameCalls p p'
        → Did heard backends (at k over reads words dialer p) (at k over' reads words dialer p') things sent
    did_write things sent no_entry no_exchange no_talk moves sent_are closes rest = record {
      places = [];
      called = called_none k;
      places_are = ap (λ (v : _). v.items) rest.numbers ∙ sym (append-nil p.numbers.items);
      stand = subst (λ (es : List Entry). StandAt (made_before k) k.seen [] es) (sym no_entry) tt;
      rise = omega arith;
      exchanges_are = ap (λ (v : _). v.items) rest.exchanges ∙ (sym (append-nil p.exchanges.items) ∙ ap (λ (es : List Got). p.exchanges.items ++ es) (sym no_exchange));
      timed = subst (λ (es : List Got). AllByRecursion (λ (got : Got). ToldIn reads reads got.moment) es) (sym no_exchange) tt;
      sent_are = sent_are;
      moves = moves;
      talks = [];
      gained = gains_none dialer;
      talked = no_talk [] refl;
      closes_are = closes;
      read = Went-none reads;
      drew = Went-none words;
    }

    pub did_send : (delivery : Delivery) → Sends over over' p p' delivery
        → Did heard backends (at k over reads words dialer p) (at k over' reads words dialer p') (happened (Send delivery) given.Sent ∷ []) (delivery_text delivery)
    did_send delivery made =
        did_write (happened (Send delivery) given.Sent ∷ []) (delivery_text delivery) refl refl (λ empty none_. ([], empty, refl, refl, none_)) made.moves made.sent_are
        (made.closes_are ∙ ap (λ (b : Bool). p.closes || b) (sym (or_none _))) made.rest

    pub did_send_part : (delivery : Delivery) (cut : Cut) (made : SendsPart over over' p p' delivery cut)
        → Did heard backends (at k over reads words dialer p) (at k over' reads words dialer p') [] made.part
    did_send_part delivery cut made =
        did_write [] made.part refl refl (λ empty none_. none_) made.moves made.sent_are (made.closes_are ∙ sym (or_none p.closes)) made.rest
