-- Rounds of a connection, one behind another, and how it ends behind them.
use Rattle.std.proofs.Common.{◌≡◌, ◌⊎◌, inl, inr, ℕ, List, [], ◌∷◌, ◌++◌, take, Option, Some, None, Ok, Err, refl, sym, ◌∙◌, ap, subst}
use Rattle.std.proofs.lemmas.Grind.{flat_map-append}
use Rattle.std.proofs.lemmas.List.{append-nil, append_assoc, map-append}
use Rattle.message_reader.specs.Inputs.{Hears}
use Rattle.message_reader.specs.declared.stop.Stop.{Stop}
use Rattle.message_reader.specs.declared.stop.Stop.TheVariants as stops
use Rattle.wire.specs.Flow.{Flow, IsOver, Moves}
use Rattle.wire.proofs.Flowing.{Moves-trans}
use Rattle.connection.specs.Requests.{Request, BeginsRequests}
use Rattle.connection.specs.Reading.{RequestTold}
use Rattle.http_heads.specs.Refusal.{bad_request}
use Rattle.connection.specs.Serving.{Round, ending_of, Responds, Follow, AllKept, requests_of, sent_of, Went, Goes, EndsBehind, IsBad, Stops, Served, TurnTold, RefusedWith, Refused}
use Rattle.connection.specs.declared.ended.Answered.{Answered}
use Rattle.connection.specs.declared.ended.Ended.{Ended}
use Rattle.connection.specs.declared.ended.Ended.TheVariants as ends
use Rattle.connection.proofs.ReadingFacts.{longer, joined}

-- ---- one behind another

follow_then : {S : Type 0} → (does : S → S → Round → Type 0) (old mid new : S) (all others : List Round) → Follow does old all mid → Follow does mid others new
    → Follow does old (all ++ others) new
follow_then {S} does old mid new [] others x y = subst (λ (s : S). Follow does s others new) x y
follow_then does old mid new (round ∷ all) others x y = (x.0, x.1, follow_then does x.0 mid new all others x.2 y)

kept_then : (all others : List Round) → AllKept all → AllKept others → AllKept (all ++ others)
kept_then [] others x y = y
kept_then (round ∷ all) others x y = (x.0, kept_then all others x.1 y)

went_then : {S : Type 0} → (does : S → S → Round → Type 0) (first second third : Option Flow) (held now : List ℕ) (old mid new : S) (all others : List Round)
    (rest extra : List ℕ) → Went does first second held old mid all now [] → Went does second third now mid new others rest extra
    → Went does first third held old new (all ++ others) rest extra
went_then does first second third held now old mid new all others rest extra x y = record {
  follow = follow_then does old mid new all others x.follow y.follow;
  read = x.read ++ y.read;
  moves = subst (λ (t : List ℕ). Moves first third (x.read ++ y.read) t) sent (Moves-trans first second third x.read y.read (sent_of all ++ []) (sent_of others ++ extra) x.moves y.moves);
  requests = subst (λ (l : List Request). BeginsRequests (held ++ (x.read ++ y.read)) l rest) (sym (map-append (λ (r : Round). r.request) all others))
      (joined (held ++ (x.read ++ y.read)) (requests_of all) (requests_of others) (now ++ y.read) rest
      (subst (λ (t : List ℕ). BeginsRequests t (requests_of all) (now ++ y.read)) (append_assoc held x.read y.read) (longer (held ++ x.read) y.read (requests_of all) now x.requests))
      y.requests);
}
  where
    sent : (sent_of all ++ []) ++ (sent_of others ++ extra) ≡ sent_of (all ++ others) ++ extra
    sent = ap (λ (t : List ℕ). t ++ (sent_of others ++ extra)) (append-nil (sent_of all)) ∙ sym (append_assoc (sent_of all) (sent_of others) extra)
        ∙ ap (λ (t : List ℕ). t ++ extra) (sym (flat_map-append (λ (r : Round). r.sent) all others))

pub goes_then : {S : Type 0} → (does : S → S → Round → Type 0) (first second third : Option Flow) (held now left : List ℕ) (old mid new : S)
    → Goes does first second held now old mid → Goes does second third now left mid new → Goes does first third held left old new
goes_then does first second third held now left old mid new x y = record {
  all = x.all ++ y.all;
  went = went_then does first second third held now old mid new x.all y.all left [] x.went y.went;
  kept = kept_then x.all y.all x.kept y.kept;
}

ends_then : (before : List Round) (after : Option Flow) (left : List ℕ) (ended : Ended) (all : List Round) (rest extra : List ℕ) → AllKept before
    → EndsBehind ended all left rest extra ⊎ (AllKept all × Stops ended after left rest extra)
    → EndsBehind ended (before ++ all) left rest extra ⊎ (AllKept (before ++ all) × Stops ended after left rest extra)
ends_then before after left ended all rest extra kept (inl behind) = inl (record {
  front = before ++ behind.front;
  last = behind.last;
  split = ap (λ (l : List Round). before ++ l) behind.split ∙ sym (append_assoc before behind.front (behind.last ∷ []));
  kept = kept_then before behind.front kept behind.kept;
  is = behind.is;
  held = behind.held;
  silent = behind.silent;
})
ends_then before after left ended all rest extra kept (inr stops) = inr (kept_then before all kept stops.0, stops.1)

pub served_then : {S : Type 0} → (does : S → S → Round → Type 0) (first second third : Option Flow) (held now left : List ℕ) (old mid new : S) (ended : Ended)
    → Goes does first second held now old mid → Served does second third now left mid new ended → Served does first third held left old new ended
served_then does first second third held now left old mid new ended x y = record {
  all = x.all ++ y.all;
  rest = y.rest;
  extra = y.extra;
  went = went_then does first second third held now old mid new x.all y.all y.rest y.extra x.went y.went;
  ends = ends_then x.all third left ended y.all y.rest y.extra x.kept y.ends;
}

-- ---- one turn

-- a round behind the reading of its request
one_round : {S : Type 0} → (does : S → S → Round → Type 0) (first second third : Option Flow) (held now : List ℕ) (old new : S) (request : Request) (answered : Answered)
    → Hears first second held (RequestTold second now (Ok (Some request))) → (told : Responds does old new second third request answered)
    → Went does first third held old new (record { request = request; sent = told.0; answered = answered } ∷ []) now []
one_round does first second third held now old new request answered heard told = record {
  follow = (new, told.2, refl);
  read = heard.0 ++ [];
  moves = subst (λ (t : List ℕ). Moves first third (heard.0 ++ []) t) sent (Moves-trans first second third heard.0 [] [] told.0 heard.1 told.1);
  requests = subst (λ (t : List ℕ). BeginsRequests (held ++ t) (request ∷ []) now) (sym (append-nil heard.0)) (now, heard.2, refl);
}
  where
    sent : told.0 ≡ (told.0 ++ []) ++ []
    sent = sym (append-nil (told.0 ++ []) ∙ append-nil told.0)

pub turn_of_round : {S : Type 0} → (does : S → S → Round → Type 0) (first second third : Option Flow) (held now : List ℕ) (old new : S) (request : Request)
    (answered : Answered) (ending : Option Ended) → ending ≡ ending_of answered → Hears first second held (RequestTold second now (Ok (Some request)))
    → Responds does old new second third request answered → TurnTold does first third held now old new ending
turn_of_round does first second third held now old new request answered None is heard told = record {
  all = record { request = request; sent = told.0; answered = answered } ∷ [];
  went = one_round does first second third held now old new request answered heard told;
  kept = (sym is, tt);
}
turn_of_round does first second third held now old new request answered (Some ended) is heard told = record {
  all = record { request = request; sent = told.0; answered = answered } ∷ [];
  rest = now;
  extra = [];
  went = one_round does first second third held now old new request answered heard told;
  ends = inl (record {
    front = [];
    last = record { request = request; sent = told.0; answered = answered };
    split = refl;
    kept = tt;
    is = sym is;
    held = refl;
    silent = refl;
  });
}

-- the input ended between requests
pub turn_of_end : {S : Type 0} → (does : S → S → Round → Type 0) (first second : Option Flow) (held now : List ℕ) (state : S)
    → Hears first second held (RequestTold second now (Ok None)) → Served does first second held now state state ends.Closed
turn_of_end does first second held now state heard =
    let told = heard.2 in
    record {
      all = [];
      rest = held ++ heard.0;
      extra = [];
      went = record { follow = refl; read = heard.0; moves = heard.1; requests = refl };
      ends = inr (tt, (told.0, told.1, told.2, refl));
    }

-- nothing goes over a link that reads nothing and writes something
over_later : (before after : Option Flow) (written : List ℕ) → Moves before after [] written → IsOver before → IsOver after
over_later None None written moves over = tt
over_later None (Some a) written moves over = absurd moves
over_later (Some b) None written moves over = absurd moves
over_later (Some b) (Some a) written moves over = sym moves.1 ∙ over

bad_later : (before after : Option Flow) (rest written : List ℕ) → Moves before after [] written → IsBad before rest → IsBad after rest
bad_later before after rest written moves (inl never) = inl never
bad_later before after rest written moves (inr inside) = inr (inside.0, inside.1, over_later before after written moves inside.2)

-- the input was read, and so much written, without a round
stopped : {S : Type 0} → (does : S → S → Round → Type 0) (first second third : Option Flow) (held left read extra : List ℕ) (state : S) (ended : Ended)
    → Moves first second read [] → Moves second third [] extra → Stops ended third left (held ++ read) extra → Served does first third held left state state ended
stopped does first second third held left read extra state ended gave took stops = record {
  all = [];
  rest = held ++ read;
  extra = extra;
  went = record {
    follow = refl;
    read = read;
    moves = subst (λ (t : List ℕ). Moves first third t extra) (append-nil read) (Moves-trans first second third read [] [] extra gave took);
    requests = refl;
  };
  ends = inr (tt, stops);
}

refusal : {S : Type 0} → (does : S → S → Round → Type 0) (first second third : Option Flow) (held left read : List ℕ) (state : S) (ended : Ended)
    → Moves first second read [] → IsBad second (held ++ read) → RefusedWith second third ended → Served does first third held left state state ended
refusal does first second third held left read state ended gave bad (inl whole) =
    subst (λ (e : Ended). Served does first third held left state state e) (sym whole.0)
    (stopped does first second third held left read bad_request state ends.BadRequest gave whole.1 (bad_later second third (held ++ read) bad_request whole.1 bad, refl))
refusal does first second third held left read state ended gave bad (inr part) =
    let took = part.1 in
    subst (λ (e : Ended). Served does first third held left state state e) (sym part.0)
    (stopped does first second third held left read (take took.0 bad_request) state ends.WriteFault gave took.2
    (bad_later second third (held ++ read) (take took.0 bad_request) took.2 bad, took.0, took.1, refl))

pub turn_of_stop : {S : Type 0} → (does : S → S → Round → Type 0) (first second third : Option Flow) (held now left : List ℕ) (state : S) (stop : Stop) (ended : Ended)
    → Hears first second held (RequestTold second now (Err stop)) → Refused stop second third ended → Served does first third held left state state ended
turn_of_stop does first second third held now left state stops.Read ended heard told =
    subst (λ (e : Ended). Served does first third held left state state e) (sym told.0)
    (stopped does first second third held left heard.0 [] state ends.ReadFault heard.1 told.1 refl)
turn_of_stop does first second third held now left state stops.NoMemory ended heard told =
    subst (λ (e : Ended). Served does first third held left state state e) (sym told.0)
    (stopped does first second third held left heard.0 [] state ends.NoMemory heard.1 told.1 refl)
turn_of_stop does first second third held now left state stops.Early ended heard told =
    refusal does first second third held left heard.0 state ended heard.1 (inr heard.2) told
turn_of_stop does first second third held now left state stops.BadHead ended heard told =
    refusal does first second third held left heard.0 state ended heard.1 (inl heard.2) told
turn_of_stop does first second third held now left state stops.BadBody ended heard told =
    refusal does first second third held left heard.0 state ended heard.1 (inl heard.2) told
turn_of_stop does first second third held now left state stops.TooLarge ended heard told =
    refusal does first second third held left heard.0 state ended heard.1 (inl heard.2) told
