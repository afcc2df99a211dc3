-- Requests at the front of longer and longer bytes.
use Rattle.std.proofs.Common.{◌≡◌, ◌≢◌, inl, inr, ℕ, ◌≤◌, List, [], ◌∷◌, ◌++◌, length, drop, Some, Err, refl, sym, ◌∙◌, ap, subst, arith}
use Rattle.std.proofs.lemmas.List.{append-nil, append_assoc, length-append, drop-append-le}
use Rattle.httparse.specs.Grammar.{NeverHasRequest, MayBecomeRequest, print_end}
use Rattle.http_bodies.specs.Answers.{IsBroken}
use Rattle.http_bodies.specs.Bodies.{BeginsWith}
use Rattle.http_bodies.specs.Framings.{Frames}
use Rattle.http_bodies.specs.declared.framing.BodyError.{BodyError}
use Rattle.http_bodies.specs.declared.framing.Framing.{Framing}
use Rattle.http_bodies.specs.declared.framing.Framing.TheVariants.{Nothing, UntilEnd}
use Rattle.http_bodies.specs.declared.framing.Kind.TheVariants as kinds
use Rattle.http_bodies.proofs.FramingFacts.{one_framing}
use Rattle.http_bodies.proofs.Fronts.{one_body, longer_text, broken_none}
use Rattle.http_heads.specs.Heads.{requests, HasRequest, AnswersRequest}
use Rattle.http_heads.specs.Lines.{ended_lines, full_lines}
use Rattle.http_heads.specs.declared.fields.Field.{Field}
use Rattle.http_heads.specs.declared.message.HeadError.{HeadError}
use Rattle.http_heads.specs.declared.message.RequestHead.{RequestHead}
use Rattle.http_heads.proofs.HeadLines.{lines_of_requests}
use Rattle.http_heads.proofs.SentFacts.{longer_head, one_request}
use Rattle.message_reader.proofs.LongerBodies.{broken_longer}
use Rattle.message_reader.proofs.LongerHeads.{never_longer}
use Rattle.message_reader.specs.Causes.{head_stop}
use Rattle.message_reader.specs.declared.stop.Stop.TheVariants.{BadHead}
use Rattle.wire.specs.Flow.{Flow, Moves}
use Rattle.connection.specs.Requests.{Request, BeginsRequest, LacksRequest, NeverBegins, BeginsRequests, body_limit}
use Rattle.connection.specs.Serving.{IsBad}

pub head_within : (text : List ℕ) (head : RequestHead) (count : ℕ) → HasRequest text head count → count ≤ length text
head_within text head count has = omega (arith, has.counted, simp length-append at (ap length has.reads.1))

-- ---- one request

-- the body of a request doesn't go on to the end of the connection
pub not_open : (fields : List Field) (framing : Framing) → Frames kinds.Request fields framing → framing ≢ UntilEnd
not_open fields framing frames is =
    let there : Frames kinds.Request fields UntilEnd = subst (λ (f : Framing). Frames kinds.Request fields f) is frames in
    let never : Nothing ≡ UntilEnd = there.2 in
    cc

-- the requests at the front of two readings are one, with one rest
pub one : (input : List ℕ) (request other : Request) (rest left : List ℕ) → BeginsRequest input request rest → BeginsRequest input other left
    → (request ≡ other) × (rest ≡ left)
one input request other rest left x y =
    let heads = one_request input request.0 other.0 x.count y.count x.has y.has in
    let frames : Frames kinds.Request request.0.fields y.framing =
    subst (λ (h : RequestHead). Frames kinds.Request h.fields y.framing) (sym heads.0) y.frames in
    let framings = one_framing kinds.Request request.0.fields y.framing x.framing frames x.frames in
    let here : BeginsWith x.framing (drop x.count input) other.1 left =
    subst (λ (f : Framing). BeginsWith f (drop x.count input) other.1 left) framings
    (subst (λ (n : ℕ). BeginsWith y.framing (drop n input) other.1 left) (sym heads.1) y.begins) in
    let bodies = one_body x.framing (drop x.count input) request.1 rest other.1 left x.begins here in
    (let head = heads.0 in let body = bodies.0 in λ i. (head i, body i), bodies.1)

pub longer_one : (input more : List ℕ) (request : Request) (rest : List ℕ) → BeginsRequest input request rest → BeginsRequest (input ++ more) request (rest ++ more)
longer_one input more request rest x = record {
  count = x.count;
  has = longer_head requests input more request.0 x.count x.has;
  one_site = x.one_site;
  framing = x.framing;
  frames = x.frames;
  begins = subst (λ (t : List ℕ). BeginsWith x.framing t request.1 (rest ++ more)) (sym (drop-append-le x.count input more (head_within input request.0 x.count x.has)))
      (longer_text x.framing (drop x.count input) request.1 rest more (not_open request.0.fields x.framing x.frames) x.begins);
  within = x.within;
}

-- ---- requests one behind another

pub longer : (input more : List ℕ) (all : List Request) (rest : List ℕ) → BeginsRequests input all rest → BeginsRequests (input ++ more) all (rest ++ more)
longer input more [] rest x = ap (λ (l : List ℕ). l ++ more) x
longer input more (request ∷ others) rest x = (x.0 ++ more, longer_one input more request x.0 x.1, longer x.0 more others rest x.2)

pub joined : (input : List ℕ) (all others : List Request) (mid rest : List ℕ) → BeginsRequests input all mid → BeginsRequests mid others rest
    → BeginsRequests input (all ++ others) rest
joined input [] others mid rest x y = subst (λ (t : List ℕ). BeginsRequests t others rest) x y
joined input (request ∷ all) others mid rest x y = (x.0, x.1, joined x.0 all others mid rest x.2 y)

-- a reading that nothing can go on from has each other one as its front
pub front_of : (input : List ℕ) (all others : List Request) (rest left : List ℕ) → BeginsRequests input all rest → BeginsRequests input others left
    → LacksRequest left → (more : List Request) × (others ≡ all ++ more) × BeginsRequests rest more left
front_of input [] others rest left x y lacks = (others, refl, subst (λ (t : List ℕ). BeginsRequests t others left) (sym x) y)
front_of input (request ∷ all) [] rest left x y lacks =
    absurd (lacks request x.0 (subst (λ (t : List ℕ). BeginsRequest t request x.0) (sym y) x.1))
front_of input (request ∷ all) (other ∷ others) rest left x y lacks =
    let same = one input request other x.0 y.0 x.1 y.1 in
    let there = front_of x.0 all others rest left x.2 (subst (λ (t : List ℕ). BeginsRequests t others left) (sym same.1) y.2) lacks in
    (there.0, (let first = sym same.0 in let behind = there.1 in λ i. first i ∷ behind i), there.2)

none_more : (rest : List ℕ) (more : List Request) (left : List ℕ) → LacksRequest rest → BeginsRequests rest more left → (more ≡ []) × (left ≡ rest)
none_more rest [] left lacks x = (refl, x)
none_more rest (request ∷ more) left lacks x = absurd (lacks request x.0 x.1)

pub whole : (input : List ℕ) (all others : List Request) (rest left : List ℕ) → BeginsRequests input all rest → BeginsRequests input others left
    → LacksRequest rest → LacksRequest left → (all ≡ others) × (rest ≡ left)
whole input all others rest left x y here there =
    let front = front_of input all others rest left x y there in
    let none = none_more rest front.0 left here front.2 in
    (sym (front.1 ∙ ap (λ (l : List Request). all ++ l) none.0 ∙ append-nil all), sym none.1)

-- ---- no request

-- no head begins the bytes, so no request does
pub no_head : (input : List ℕ) → ((head : RequestHead) (count : ℕ) → ¬ (HasRequest input head count)) → LacksRequest input
no_head input none request rest x = none request.0 x.count x.has

pub never_head : (input : List ℕ) (error : HeadError) → AnswersRequest input (Err error) → head_stop error ≡ BadHead → NeverBegins input
never_head input error told is more =
    no_head (input ++ more) (never_longer requests lines_of_requests NeverHasRequest MayBecomeRequest (λ front never. never) input more error told is)

-- what stands behind the head of a request, whatever follows
behind_head : (input : List ℕ) (head : RequestHead) (count : ℕ) (request : Request) (rest more : List ℕ) → HasRequest input head count
    → (x : BeginsRequest (input ++ more) request rest) → (head ≡ request.0) × (drop x.count (input ++ more) ≡ drop count input ++ more)
behind_head input head count request rest more has x =
    let same = one_request (input ++ more) head request.0 count x.count (longer_head requests input more head count has) x.has in
    (same.0, ap (λ (n : ℕ). drop n (input ++ more)) (sym same.1) ∙ drop-append-le count input more (head_within input head count has))

-- the head says more than one site, or its fields frame no body
pub never_of_head : (input : List ℕ) (head : RequestHead) (count : ℕ) → HasRequest input head count
    → ((request : Request) (rest more : List ℕ) → head ≡ request.0 → BeginsRequest (input ++ more) request rest → ⊥) → NeverBegins input
never_of_head input head count has none more request rest x = none request rest more (behind_head input head count request rest more has x).0 x

-- a body of this framing stands nowhere behind the head, whatever follows
pub never_body : (input : List ℕ) (head : RequestHead) (count : ℕ) (framing : Framing) (error : BodyError) → HasRequest input head count
    → Frames kinds.Request head.fields framing → IsBroken framing body_limit (drop count input) error → NeverBegins input
never_body input head count framing error has frames broken more request rest x =
    let same = behind_head input head count request rest more has x in
    let framings = one_framing kinds.Request request.0.fields x.framing framing x.frames (subst (λ (h : RequestHead). Frames kinds.Request h.fields framing) same.0 frames) in
    let begins : BeginsWith framing (drop count input ++ more) request.1 rest =
    subst (λ (f : Framing). BeginsWith f (drop count input ++ more) request.1 rest) framings
    (subst (λ (t : List ℕ). BeginsWith x.framing t request.1 rest) same.1 x.begins) in
    broken_none framing body_limit (drop count input ++ more) request.1 rest error (broken_longer framing body_limit (drop count input) more error broken) begins x.within

-- a body of this framing doesn't stand behind the head
pub no_body : (input : List ℕ) (head : RequestHead) (count : ℕ) (framing : Framing) → HasRequest input head count → Frames kinds.Request head.fields framing
    → ((body rest : List ℕ) → BeginsWith framing (drop count input) body rest → length body ≤ body_limit → ⊥) → LacksRequest input
no_body input head count framing has frames none request rest x =
    let same = one_request input head request.0 count x.count has x.has in
    let framings = one_framing kinds.Request request.0.fields x.framing framing x.frames (subst (λ (h : RequestHead). Frames kinds.Request h.fields framing) same.0 frames) in
    let begins : BeginsWith framing (drop count input) request.1 rest =
    subst (λ (f : Framing). BeginsWith f (drop count input) request.1 rest) framings
    (subst (λ (n : ℕ). BeginsWith x.framing (drop n input) request.1 rest) (sym same.1) x.begins) in
    none request.1 rest begins x.within

-- ---- all the bytes

-- requests at the front of what was read stand at the front of all
pub of_all : (before after : Flow) (held read sent : List ℕ) (all : List Request) (rest : List ℕ) → Moves (Some before) (Some after) read sent
    → BeginsRequests (held ++ read) all rest → BeginsRequests (held ++ before.left) all (rest ++ after.left)
of_all before after held read sent all rest moves x =
    let bytes : (held ++ read) ++ after.left ≡ held ++ before.left = append_assoc held read after.left ∙ ap (λ (l : List ℕ). held ++ l) (sym moves.1) in
    subst (λ (t : List ℕ). BeginsRequests t all (rest ++ after.left)) bytes (longer (held ++ read) after.left all rest x)

pub bad_of_all : (after : Flow) (rest : List ℕ) → IsBad (Some after) rest → LacksRequest (rest ++ after.left)
bad_of_all after rest (inl never) = never after.left
bad_of_all after rest (inr inside) =
    let none : after.left ≡ [] = inside.2 in
    subst LacksRequest (sym (ap (λ (l : List ℕ). rest ++ l) none ∙ append-nil rest)) inside.1

no_lines : full_lines [] ≡ 0
unfolding ended_lines
no_lines = refl

pub empty_lacks : LacksRequest []
empty_lacks request rest x =
    let tree = x.has.tree in
    let lined = lines_of_requests in
    let text : [] ≡ lined.front x.has.tree (print_end (lined.last x.has.tree) ++ x.has.rest) = x.has.reads.1 ∙ lined.printed x.has.tree x.has.rest in
    omega (arith, no_lines, ap full_lines text, lined.lines x.has.tree (print_end (lined.last x.has.tree) ++ x.has.rest) x.has.reads.0)
