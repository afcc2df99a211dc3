-- What is told of the next request.
use Rattle.std.specs.Prelude.{◌≡◌, ◌≢◌, Bool, true, false, ℕ, List, [], Result, Ok, Err, Option, Some, None}
use Rattle.http_bodies.specs.Framings.{Frames}
use Rattle.http_bodies.specs.declared.framing.Framing.{Framing}
use Rattle.http_bodies.specs.declared.framing.Kind.TheVariants as kinds
use Rattle.http_heads.specs.declared.message.RequestHead.{RequestHead}
use Rattle.seen_request.specs.Sites.{is_of_one_site}
use Rattle.message_reader.specs.declared.stop.Stop.{Stop}
use Rattle.message_reader.specs.declared.stop.Stop.TheVariants.{Read, Early, BadHead, BadBody, TooLarge, NoMemory}
use Rattle.wire.specs.Flow.{Flow, IsOver}
use Rattle.connection.specs.Requests.{Request, BeginsRequest, LacksRequest, NeverBegins}

-- the input ends inside a request
abbrev pub EndsInside : Option Flow → List ℕ → Type 0
EndsInside flow input = (input ≢ []) × LacksRequest input × IsOver flow

-- The input begins with this request, and the rest is held; there is no input and no more comes; it ends inside a request; or
-- no request begins it, whatever follows.
abbrev pub RequestTold : Option Flow → List ℕ → Result (Option Request) Stop → List ℕ → Type 0
RequestTold flow rest (Ok (Some request)) input = BeginsRequest input request rest
RequestTold flow rest (Ok None) input = (input ≡ []) × (rest ≡ []) × IsOver flow
RequestTold flow rest (Err Early) input = EndsInside flow input
RequestTold flow rest (Err BadHead) input = NeverBegins input
RequestTold flow rest (Err BadBody) input = NeverBegins input
RequestTold flow rest (Err TooLarge) input = NeverBegins input
RequestTold flow rest (Err Read) input = Unit {0}
RequestTold flow rest (Err NoMemory) input = Unit {0}

-- the input isn't empty, and all of it is held; or no more comes
abbrev pub MoreTold : Option Flow → List ℕ → Result Bool Stop → List ℕ → Type 0
MoreTold flow rest (Ok true) input = (rest ≡ input) × (input ≢ [])
MoreTold flow rest (Ok false) input = (input ≡ []) × (rest ≡ []) × IsOver flow
MoreTold flow rest (Err Read) input = Unit {0}
MoreTold flow rest (Err NoMemory) input = Unit {0}
MoreTold flow rest (Err Early) input = ⊥
MoreTold flow rest (Err BadHead) input = ⊥
MoreTold flow rest (Err BadBody) input = ⊥
MoreTold flow rest (Err TooLarge) input = ⊥

-- the head of a request says one site at most and its fields frame its body; or it doesn't; or they frame none
abbrev pub FramedTold : RequestHead → Result Framing Stop → Type 0
FramedTold head (Ok framing) = (is_of_one_site head ≡ true) × Frames kinds.Request head.fields framing
FramedTold head (Err BadHead) = is_of_one_site head ≡ false
FramedTold head (Err BadBody) = (framing : Framing) → ¬ (Frames kinds.Request head.fields framing)
FramedTold head (Err Read) = ⊥
FramedTold head (Err Early) = ⊥
FramedTold head (Err TooLarge) = ⊥
FramedTold head (Err NoMemory) = ⊥
