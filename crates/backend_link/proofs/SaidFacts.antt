-- What was told of the bytes that came is what all of them say, and they say one thing.
use Rattle.std.proofs.Common.{◌≡◌, ◌≢◌, inl, inr, ℕ, ◌<◌, Bool, true, false, ◌==◌, ◌&&◌, not, List, [], ◌++◌, drop, Ok, Err, Option, Some, None, refl, sym, ◌∙◌, ap, subst, arith}
use Rattle.std.proofs.lemmas.Bool.{cases_lt}
use Rattle.std.proofs.lemmas.List.{append-nil, drop-append-le}
use Rattle.http_bodies.specs.Answers.{IsBroken}
use Rattle.http_bodies.specs.Bodies.{BeginsWith}
use Rattle.http_bodies.specs.Framings.{reply_kind}
use Rattle.http_bodies.proofs.FramingFacts.{one_framing}
use Rattle.http_bodies.specs.declared.framing.Framing.{Framing}
use Rattle.http_heads.specs.Heads.{HasResponse, AnswersResponse, responses}
use Rattle.http_heads.specs.declared.exchange.Backend.{Backend}
use Rattle.http_heads.specs.declared.exchange.BackendRequest.{BackendRequest}
use Rattle.http_heads.specs.declared.exchange.Exchange.{Exchange}
use Rattle.http_heads.specs.declared.exchange.Exchange.TheVariants as answers
use Rattle.http_heads.specs.declared.message.ResponseHead.{ResponseHead}
use Rattle.http_heads.proofs.HeadFacts.{few_lines}
use Rattle.http_heads.proofs.HeadLines.{lines_of_responses}
use Rattle.http_heads.proofs.SentFacts.{longer_head, one_response}
use Rattle.message_reader.specs.BodiesTold.{BreaksOff}
use Rattle.message_reader.specs.declared.stop.Stop.{Stop}
use Rattle.message_reader.specs.declared.stop.Stop.TheVariants.{Read, Early, BadHead, BadBody, TooLarge, NoMemory}
use Rattle.message_reader.proofs.LongerBodies.{body_longer, broken_longer}
use Rattle.wire.specs.Flow.{Flow, IsOver}
use Rattle.wire.specs.Telling.{LinkTold, DialerTold}
use Rattle.backend_link.specs.Exchanges.{exchange_of, answer_of, asks_head, HasReply, Answers, Conversed, Exchanged}
use Rattle.backend_link.specs.Replies.{body_limit, interim_limit, is_interim, is_passed, Behind, HasFinal, IsRefused, HasFramed, ReplyAt}
use Rattle.backend_link.specs.Said.{Outcome, NeverHasHead, SaysBody, SaysBehind, SaysAt, Says, SaidBy, IsSaid}
use Rattle.backend_link.proofs.BehindFacts.{behind_longer, head_within}
use Rattle.backend_link.proofs.SaidBodies.{one_said}
use Rattle.backend_link.proofs.SaidHeads.{never_longer, one_behind, passed_at}

-- neither a read failed nor was memory wanting
abbrev WasTold : Outcome → Type 0
WasTold (Ok reply) = Unit {0}
WasTold (Err Read) = ⊥
WasTold (Err Early) = Unit {0}
WasTold (Err BadHead) = Unit {0}
WasTold (Err BadBody) = Unit {0}
WasTold (Err TooLarge) = Unit {0}
WasTold (Err NoMemory) = ⊥

-- ---- all the bytes

final_longer : (text more : List ℕ) (head : ResponseHead) (count : ℕ) → HasFinal text head count → HasFinal (text ++ more) head count
final_longer text more head count final = record { has = longer_head responses text more head count final.has; final = final.final }

-- what stands behind a head
behind_head : (text more : List ℕ) (head : ResponseHead) (count : ℕ) → HasFinal text head count → drop count text ++ more ≡ drop count (text ++ more)
behind_head text more head count final = sym (drop-append-le count text more (head_within text head count final.has))

broken_said : (to_head : Bool) (flow : Option Flow) (k : ℕ) (stop : Stop) (text more : List ℕ) (head : ResponseHead)
    → HasFramed to_head text head (λ framing behind. BreaksOff framing body_limit stop behind) → SaysAt to_head k (text ++ more) (Err stop)
broken_said to_head flow k stop text more head framed =
    let breaks = framed.behind in
    let failed : Stop → Outcome = λ (s : Stop). Err s in
    let broken : IsBroken framed.framing body_limit (drop framed.count (text ++ more)) breaks.0 =
    subst (λ (t : List ℕ). IsBroken framed.framing body_limit t breaks.0) (behind_head text more head framed.count framed.final)
    (broken_longer framed.framing body_limit (drop framed.count text) more breaks.0 breaks.1) in
    inr (inr (inr (
      head,
      framed.count,
      final_longer text more head framed.count framed.final,
      inl (framed.framing, framed.frames, inr (inr (breaks.0, ap failed (sym breaks.2), broken))),
    )))

said_at : (to_head : Bool) (flow : Option Flow) (rest : List ℕ) (k : ℕ) (outcome : Outcome) (text more : List ℕ) → (IsOver flow → more ≡ []) → WasTold outcome
    → ReplyAt to_head flow rest k outcome text → SaysAt to_head k (text ++ more) outcome
said_at to_head flow rest k (Ok reply) text more over was told =
    let begins : BeginsWith told.framing (drop told.count (text ++ more)) reply.1 (rest ++ more) =
    subst (λ (t : List ℕ). BeginsWith told.framing t reply.1 (rest ++ more)) (behind_head text more reply.0 told.count told.final)
    (body_longer told.framing (drop told.count text) reply.1 rest more (λ until. over (told.behind.over until)) told.behind.begins) in
    inr (inr (inr (
      reply.0,
      told.count,
      final_longer text more reply.0 told.count told.final,
      inl (told.framing, told.frames, inl (reply.1, rest ++ more, refl, begins, told.behind.within)),
    )))
said_at to_head flow rest k (Err Early) text more over was (inl told) =
    let same : text ≡ text ++ more = sym (ap (λ (l : List ℕ). text ++ l) (over told.1) ∙ append-nil text) in
    inl (subst (λ (t : List ℕ). AnswersResponse t (Ok None)) same told.0, refl)
said_at to_head flow rest k (Err Early) text more over was (inr told) =
    let framed = told.1 in
    let same : text ≡ text ++ more = sym (ap (λ (l : List ℕ). text ++ l) (over framed.behind.over) ∙ append-nil text) in
    let here : SaysAt to_head k text (Err Early) =
    inr (inr (inr (told.0, framed.count, framed.final, inl (framed.framing, framed.frames, inr (inl (refl, framed.behind.goes_on, framed.behind.none)))))) in
    subst (λ (t : List ℕ). SaysAt to_head k t (Err Early)) same here
said_at to_head flow rest k (Err BadHead) text more over was (inl told) = inr (inl (never_longer text more told.0 told.1 told.2, refl))
said_at to_head flow rest k (Err BadHead) text more over was (inr told) =
    let refused : IsRefused k (text ++ more) = record {
      head = told.head;
      count = told.count;
      has = longer_head responses text more told.head told.count told.has;
      interim = told.interim;
      last = told.last;
    } in
    inr (inr (inl (refused, refl)))
said_at to_head flow rest k (Err BadBody) text more over was (inl told) =
    inr (inr (inr (told.head, told.count, final_longer text more told.head told.count told.final, inr (told.none, refl))))
said_at to_head flow rest k (Err BadBody) text more over was (inr told) = broken_said to_head flow k BadBody text more told.0 told.1
said_at to_head flow rest k (Err TooLarge) text more over was told = broken_said to_head flow k TooLarge text more told.0 told.1
said_at to_head flow rest k (Err Read) text more over was told = absurd was
said_at to_head flow rest k (Err NoMemory) text more over was told = absurd was

said_whole : (request : BackendRequest) (flow : Option Flow) (outcome : Outcome) (read more : List ℕ) → (IsOver flow → more ≡ []) → WasTold outcome
    → HasReply request flow outcome read → Says (asks_head request) (read ++ more) outcome
said_whole request flow outcome read more over was told =
    let b = told.1 in
    (b.0, b.1 ++ more, b.2, behind_longer b.0 read b.1 more b.3, said_at (asks_head request) flow told.0 b.0 outcome b.1 more over was b.4)

-- ---- an answer

stop_told : (number : ℕ) (stop : Stop) → answers.Fault number ≡ answer_of stop → answers.Fault number ≢ answers.Fault 3 → WasTold (Err stop)
stop_told number Read is other = other is
stop_told number Early is other = tt
stop_told number BadHead is other = tt
stop_told number BadBody is other = tt
stop_told number TooLarge is other = tt
stop_told number NoMemory is other = cc

outcome_of : (request : BackendRequest) (flow : Option Flow) (answer : Exchange) (written read : List ℕ) → Answers request flow answer written read
    → answer ≢ answers.Fault 2 → answer ≢ answers.Fault 3 → answer ≢ answers.NoMemory
    → (outcome : Outcome) × (answer ≡ exchange_of outcome) × WasTold outcome × HasReply request flow outcome read
outcome_of request flow (answers.Reply head body) written read told writes reads memory = (Ok (head, body), refl, tt, told.1)
outcome_of request flow (answers.Fault number) written read (inl cut) writes reads memory = absurd (writes (ap (λ (n : ℕ). answers.Fault n) cut.is))
outcome_of request flow (answers.Fault number) written read (inr unread) writes reads memory =
    (Err unread.stop, unread.is, stop_told number unread.stop unread.is reads, unread.told)
outcome_of request flow answers.NoMemory written read told writes reads memory = absurd (memory refl)

pub said : (request : BackendRequest) (before after : Option Flow) (answer : Exchange) → Conversed request before after answer
    → answer ≢ answers.Fault 2 → answer ≢ answers.Fault 3 → answer ≢ answers.NoMemory → SaidBy request before answer
said request None after answer c writes reads memory = tt
said request (Some before) None answer c writes reads memory = absurd c.moves
said request (Some before) (Some after) answer c writes reads memory =
    let o = outcome_of request (Some after) answer c.written c.read c.answers writes reads memory in
    (o.0, o.1, subst (λ (t : List ℕ). Says (asks_head request) t o.0) (sym c.moves.1) (said_whole request (Some after) o.0 c.read after.left (λ over. over) o.2 o.3))

-- a whole exchange
pub exchange_said : {L : Type 0} → (heard : L → LinkTold) (backend : Backend) (request : BackendRequest) (before after : DialerTold L) (answer : Exchange)
    → Exchanged heard backend request before after answer → answer ≢ answers.Fault 1 → answer ≢ answers.Fault 2 → answer ≢ answers.Fault 3 → answer ≢ answers.NoMemory
    → IsSaid heard backend request before after answer
exchange_said heard backend request before after answer (inl has) dials writes reads memory =
    record { has = has; said = said request has.start (heard has.link).flow answer has.conversed writes reads memory }
exchange_said heard backend request before after answer (inr (inl none)) dials writes reads memory = absurd (dials none.is)
exchange_said heard backend request before after answer (inr (inr none)) dials writes reads memory = absurd (memory none.0)

-- ---- one answer

early_lacks : (bytes : List ℕ) (head : ResponseHead) (count : ℕ) → AnswersResponse bytes (Ok None) → HasResponse bytes head count → ⊥
early_lacks bytes head count early has = early.1 head count has

never_has : (bytes : List ℕ) (head : ResponseHead) (count : ℕ) → NeverHasHead bytes → HasResponse bytes head count → ⊥
never_has bytes head count (inl never) has = never.0 head count has
never_has bytes head count (inr many) has = few_lines responses lines_of_responses bytes head count has many

never_early : (bytes : List ℕ) → NeverHasHead bytes → AnswersResponse bytes (Ok None) → ⊥
never_early bytes (inl never) early = never.1 early
never_early bytes (inr many) early = early.3 many

refused_final : (k : ℕ) (bytes : List ℕ) (head : ResponseHead) (count : ℕ) → IsRefused k bytes → HasFinal bytes head count → ⊥
refused_final k bytes head count refused final =
    let same = one_response bytes refused.head head refused.count count refused.has final.has in
    let never : true ≡ false = sym refused.interim ∙ ap (λ (h : ResponseHead). is_interim h.status) same.0 ∙ final.final in
    cc

one_there : (to_head : Bool) (bytes : List ℕ) (a b : Outcome) (head : ResponseHead) (count : ℕ) → SaysBehind to_head bytes a head count
    → SaysBehind to_head bytes b head count → a ≡ b
one_there to_head bytes a b head count (inl x) (inl y) =
    let same = one_framing (reply_kind head.status to_head) head.fields y.0 x.0 y.1 x.1 in
    one_said x.0 head (drop count bytes) a b x.2 (subst (λ (f : Framing). SaysBody f head (drop count bytes) b) same y.2)
one_there to_head bytes a b head count (inl x) (inr y) = absurd (y.0 x.0 x.1)
one_there to_head bytes a b head count (inr x) (inl y) = absurd (x.0 y.0 y.1)
one_there to_head bytes a b head count (inr x) (inr y) = x.1 ∙ sym y.1

one_here : (to_head : Bool) (k : ℕ) (bytes : List ℕ) (a b : Outcome) → SaysAt to_head k bytes a → SaysAt to_head k bytes b → a ≡ b
one_here to_head k bytes a b (inl x) (inl y) = x.1 ∙ sym y.1
one_here to_head k bytes a b (inl x) (inr (inl y)) = absurd (never_early bytes y.0 x.0)
one_here to_head k bytes a b (inl x) (inr (inr (inl y))) = absurd (early_lacks bytes y.0.head y.0.count x.0 y.0.has)
one_here to_head k bytes a b (inl x) (inr (inr (inr y))) = absurd (early_lacks bytes y.0 y.1 x.0 y.2.has)
one_here to_head k bytes a b (inr (inl x)) (inl y) = absurd (never_early bytes x.0 y.0)
one_here to_head k bytes a b (inr (inl x)) (inr (inl y)) = x.1 ∙ sym y.1
one_here to_head k bytes a b (inr (inl x)) (inr (inr (inl y))) = absurd (never_has bytes y.0.head y.0.count x.0 y.0.has)
one_here to_head k bytes a b (inr (inl x)) (inr (inr (inr y))) = absurd (never_has bytes y.0 y.1 x.0 y.2.has)
one_here to_head k bytes a b (inr (inr (inl x))) (inl y) = absurd (early_lacks bytes x.0.head x.0.count y.0 x.0.has)
one_here to_head k bytes a b (inr (inr (inl x))) (inr (inl y)) = absurd (never_has bytes x.0.head x.0.count y.0 x.0.has)
one_here to_head k bytes a b (inr (inr (inl x))) (inr (inr (inl y))) = x.1 ∙ sym y.1
one_here to_head k bytes a b (inr (inr (inl x))) (inr (inr (inr y))) = absurd (refused_final k bytes y.0 y.1 x.0 y.2)
one_here to_head k bytes a b (inr (inr (inr x))) (inl y) = absurd (early_lacks bytes x.0 x.1 y.0 x.2.has)
one_here to_head k bytes a b (inr (inr (inr x))) (inr (inl y)) = absurd (never_has bytes x.0 x.1 y.0 x.2.has)
one_here to_head k bytes a b (inr (inr (inr x))) (inr (inr (inl y))) = absurd (refused_final k bytes x.0 x.1 y.0 x.2)
one_here to_head k bytes a b (inr (inr (inr x))) (inr (inr (inr y))) =
    let same = one_response bytes x.0 y.0 x.1 y.1 x.2.has y.2.has in
    let counted = subst (λ (n : ℕ). SaysBehind to_head bytes b y.0 n) (sym same.1) y.3 in
    one_there to_head bytes a b x.0 x.1 x.3 (subst (λ (h : ResponseHead). SaysBehind to_head bytes b h x.1) (sym same.0) counted)

first_of_both : (p q : Bool) → (p && q) ≡ true → p ≡ true
first_of_both true q both = refl
first_of_both false q both = both

-- where an interim reply is passed over, nothing else is said
only_passed : (to_head : Bool) (k : ℕ) (bytes : List ℕ) (a : Outcome) (head : ResponseHead) (count : ℕ) → k < interim_limit
    → HasResponse bytes head count → is_passed head.status ≡ true → SaysAt to_head k bytes a → ⊥
only_passed to_head k bytes a head count low has passed (inl x) = early_lacks bytes head count x.0 has
only_passed to_head k bytes a head count low has passed (inr (inl x)) = never_has bytes head count x.0 has
only_passed to_head k bytes a head count low has passed (inr (inr (inl x))) =
    let r = x.0 in
    let same = one_response bytes r.head head r.count count r.has has in
    elim r.last [
      | inl other ↦
          let never : is_passed 101 ≡ true = subst (λ (n : ℕ). is_passed n ≡ true) (sym (ap (λ (h : ResponseHead). h.status) same.0) ∙ other) passed in
          cc
      | inr many ↦ omega (arith, many, low)
    ]
only_passed to_head k bytes a head count low has passed (inr (inr (inr x))) =
    let same = one_response bytes x.0 head x.1 count x.2.has has in
    let interim = first_of_both (is_interim head.status) (not (head.status == 101)) passed in
    let never : true ≡ false = sym interim ∙ sym (ap (λ (h : ResponseHead). is_interim h.status) same.0) ∙ x.2.final in
    cc

not_later : (to_head : Bool) (bytes : List ℕ) (a b : Outcome) (x : Says to_head bytes a) (y : Says to_head bytes b) → ¬ (x.0 < y.0)
not_later to_head bytes a b x y less =
    let p = passed_at x.0 y.0 bytes x.1 y.1 less x.3 y.3 in
    only_passed to_head x.0 x.1 a p.0 p.1 (omega (arith, less, y.2)) p.2 p.3 x.4

pub one_answer : (to_head : Bool) (bytes : List ℕ) (a b : Outcome) → Says to_head bytes a → Says to_head bytes b → a ≡ b
one_answer to_head bytes a b x y = elim (cases_lt x.0 y.0) [
  | inl less ↦ absurd (not_later to_head bytes a b x y less)
  | inr first ↦ elim (cases_lt y.0 x.0) [
    | inl less ↦ absurd (not_later to_head bytes b a y x less)
    | inr second ↦
        let same : y.0 ≡ x.0 = omega (arith, first, second) in
        let there : Behind x.0 bytes y.1 = subst (λ (n : ℕ). Behind n bytes y.1) same y.3 in
        let texts : y.1 ≡ x.1 = one_behind x.0 bytes y.1 x.1 there x.3 in
        let numbered = subst (λ (n : ℕ). SaysAt to_head n y.1 b) same y.4 in
        one_here to_head x.0 x.1 a b x.4 (subst (λ (t : List ℕ). SaysAt to_head x.0 t b) texts numbered)
  ]
]
