-- Replies behind interim replies, as more and more of the input is read.
use Rattle.std.proofs.Common.{◌≡◌, ◌⊎◌, inl, inr, ℕ, zero, suc, ◌≤◌, Bool, true, false, not, ◌&&◌, ◌==◌, List, [], ◌++◌, length, drop, Option, Ok, Err, sym, ◌∙◌, ap, subst, arith}
use Rattle.std.proofs.lemmas.List.{append_assoc, length-append, drop-append-le}
use Rattle.http_bodies.specs.Framings.{Frames, reply_kind}
use Rattle.http_bodies.specs.declared.framing.Framing.{Framing}
use Rattle.http_heads.specs.Heads.{HasResponse, AnswersResponse, responses}
use Rattle.http_heads.specs.declared.message.ResponseHead.{ResponseHead}
use Rattle.http_heads.proofs.SentFacts.{longer_head}
use Rattle.message_reader.specs.BodiesTold.{BodyTold}
use Rattle.message_reader.specs.HeadsTold.{HeadTold}
use Rattle.message_reader.specs.Inputs.{Hears}
use Rattle.message_reader.specs.declared.stop.Stop.{Stop}
use Rattle.message_reader.specs.declared.stop.Stop.TheVariants.{Read, Early, BadHead, BadBody, TooLarge, NoMemory}
use Rattle.wire.specs.Flow.{Flow}
use Rattle.wire.proofs.Flowing.{Moves-trans}
use Rattle.backend_link.specs.Replies.{interim_limit, body_limit, is_interim, is_passed, Behind, HasFinal, IsRefused, FinalAt, BehindInterim, HasFramed, HasNoFraming, ReplyAt}

pub head_within : (text : List ℕ) (head : ResponseHead) (count : ℕ) → HasResponse text head count → count ≤ length text
head_within text head count has = omega (arith, has.counted, simp length-append at (ap length has.reads.1))

pub behind_longer : (k : ℕ) (input rest more : List ℕ) → Behind k input rest → Behind k (input ++ more) (rest ++ more)
behind_longer zero input rest more behind = ap (λ (l : List ℕ). l ++ more) behind
behind_longer (suc k) input rest more behind = (
  behind.0 ++ more,
  behind.1,
  behind.2,
  behind_longer k input behind.0 more behind.3,
  longer_head responses behind.0 more behind.1 behind.2 behind.4,
  behind.5,
  ap (λ (l : List ℕ). l ++ more) behind.6 ∙ sym (drop-append-le behind.2 behind.0 more (head_within behind.0 behind.1 behind.2 behind.4)),
)

-- what is said behind interim replies, of all that came
reads_behind : (first second third : Option Flow) (held now : List ℕ) (k : ℕ) (says : List ℕ → Type 0) → Hears first second held (λ input. Behind k input now)
    → Hears second third now says → Hears first third held (λ input. (text : List ℕ) × Behind k input text × says text)
reads_behind first second third held now k says one two =
    let behind : Behind k (held ++ (one.0 ++ two.0)) (now ++ two.0) =
    subst (λ (t : List ℕ). Behind k t (now ++ two.0)) (append_assoc held one.0 two.0) (behind_longer k (held ++ one.0) now two.0 one.2) in
    (one.0 ++ two.0, Moves-trans first second third one.0 two.0 [] [] one.1 two.1, (now ++ two.0, behind, two.2))

pub one_more : (first second third : Option Flow) (held now rest : List ℕ) (k n : ℕ) (head : ResponseHead) → n ≡ suc k → Hears first second held (λ input. Behind k input now)
    → Hears second third now (HeadTold AnswersResponse third rest (Ok head)) → is_interim head.status ≡ true → (head.status == 101) ≡ false → Hears first third held (λ input. Behind n input rest)
one_more first second third held now rest k n head is one two interim other =
    let all = reads_behind first second third held now k (HeadTold AnswersResponse third rest (Ok head)) one two in
    let behind : Behind (suc k) (held ++ all.0) rest = (all.2.0, head, all.2.2.0, all.2.1, all.2.2.1.0, passed, all.2.2.3) in
    (all.0, all.1, subst (λ (m : ℕ). Behind m (held ++ all.0) rest) (sym is) behind)
  where
    passed : is_passed head.status ≡ true
    passed = ap (λ (b : Bool). b && not (head.status == 101)) interim ∙ ap not other

pub final_ok : (first second third : Option Flow) (held now rest : List ℕ) (k : ℕ) (head : ResponseHead) → k ≤ interim_limit → Hears first second held (λ input. Behind k input now)
    → Hears second third now (HeadTold AnswersResponse third rest (Ok head)) → is_interim head.status ≡ false
    → Hears first third held (BehindInterim (λ passed text. FinalAt third rest passed (Ok head) text))
final_ok first second third held now rest k head few one two final =
    let all = reads_behind first second third held now k (HeadTold AnswersResponse third rest (Ok head)) one two in
    (all.0, all.1, (k, all.2.0, few, all.2.1, (all.2.2.0, record { has = all.2.2.1.0; final = final }, all.2.2.3)))

pub final_refused : (first second third : Option Flow) (held now rest : List ℕ) (k : ℕ) (head : ResponseHead) → k ≤ interim_limit
    → Hears first second held (λ input. Behind k input now) → Hears second third now (HeadTold AnswersResponse third rest (Ok head)) → is_interim head.status ≡ true
    → (head.status ≡ 101) ⊎ (interim_limit ≤ k) → Hears first third held (BehindInterim (λ passed text. FinalAt third rest passed (Err BadHead) text))
final_refused first second third held now rest k head few one two interim last =
    let all = reads_behind first second third held now k (HeadTold AnswersResponse third rest (Ok head)) one two in
    let at_limit : (head.status ≡ 101) ⊎ (k ≡ interim_limit) = elim last [ inl other ↦ inl other | inr many ↦ inr (omega (arith, few, many)) ] in
    let refused : IsRefused k all.2.0 = record { head = head; count = all.2.2.0; has = all.2.2.1.0; interim = interim; last = at_limit } in
    (all.0, all.1, (k, all.2.0, few, all.2.1, inr refused))

head_err : (flow : Option Flow) (rest other : List ℕ) (k : ℕ) (stop : Stop) (text : List ℕ) → HeadTold AnswersResponse flow rest (Err stop) text
    → FinalAt flow other k (Err stop) text
head_err flow rest other k Read text told = tt
head_err flow rest other k NoMemory text told = tt
head_err flow rest other k Early text told = told
head_err flow rest other k BadHead text told = inl told
head_err flow rest other k BadBody text told = absurd told
head_err flow rest other k TooLarge text told = absurd told

pub final_err : (first second third : Option Flow) (held now rest other : List ℕ) (k : ℕ) (stop : Stop) → k ≤ interim_limit
    → Hears first second held (λ input. Behind k input now) → Hears second third now (HeadTold AnswersResponse third rest (Err stop))
    → Hears first third held (BehindInterim (λ passed text. FinalAt third other passed (Err stop) text))
final_err first second third held now rest other k stop few one two =
    let all = reads_behind first second third held now k (HeadTold AnswersResponse third rest (Err stop)) one two in
    (all.0, all.1, (k, all.2.0, few, all.2.1, head_err third rest other k stop all.2.0 all.2.2))

-- ---- the whole reply

final_stops : (to_head : Bool) (flow : Option Flow) (rest other : List ℕ) (k : ℕ) (stop : Stop) (text : List ℕ) → FinalAt flow rest k (Err stop) text
    → ReplyAt to_head flow other k (Err stop) text
final_stops to_head flow rest other k Read text told = tt
final_stops to_head flow rest other k NoMemory text told = tt
final_stops to_head flow rest other k Early text told = inl told
final_stops to_head flow rest other k BadHead text told = told
final_stops to_head flow rest other k BadBody text told = absurd told
final_stops to_head flow rest other k TooLarge text told = absurd told

pub reply_stopped : (to_head : Bool) (first second : Option Flow) (held rest other : List ℕ) (stop : Stop)
    → Hears first second held (BehindInterim (λ passed text. FinalAt second rest passed (Err stop) text))
    → Hears first second held (BehindInterim (λ passed text. ReplyAt to_head second other passed (Err stop) text))
reply_stopped to_head first second held rest other stop one =
    let b = one.2 in
    (one.0, one.1, (b.0, b.1, b.2, b.3, final_stops to_head second rest other b.0 stop b.1 b.4))

pub reply_unframed : (to_head : Bool) (first second : Option Flow) (held rest other : List ℕ) (head : ResponseHead)
    → Hears first second held (BehindInterim (λ passed text. FinalAt second rest passed (Ok head) text))
    → ((framing : Framing) → ¬ (Frames (reply_kind head.status to_head) head.fields framing))
    → Hears first second held (BehindInterim (λ passed text. ReplyAt to_head second other passed (Err BadBody) text))
reply_unframed to_head first second held rest other head one none =
    let b = one.2 in
    let unframed : HasNoFraming to_head b.1 = record { head = head; count = b.4.0; final = b.4.1; none = none } in
    (one.0, one.1, (b.0, b.1, b.2, b.3, inl unframed))

-- what is said behind the head, of all that came
framed : (to_head : Bool) (first second third : Option Flow) (held rest : List ℕ) (head : ResponseHead) (framing : Framing) (says : Framing → List ℕ → Type 0)
    → Hears first second held (BehindInterim (λ passed text. FinalAt second rest passed (Ok head) text)) → Frames (reply_kind head.status to_head) head.fields framing
    → Hears second third rest (says framing) → Hears first third held (BehindInterim (λ passed text. HasFramed to_head text head says))
framed to_head first second third held rest head framing says one frames two =
    let b = one.2 in
    let f = b.4 in
    let behind : Behind b.0 (held ++ (one.0 ++ two.0)) (b.1 ++ two.0) =
    subst (λ (t : List ℕ). Behind b.0 t (b.1 ++ two.0)) (append_assoc held one.0 two.0) (behind_longer b.0 (held ++ one.0) b.1 two.0 b.3) in
    let rests : rest ++ two.0 ≡ drop f.0 (b.1 ++ two.0) =
    ap (λ (l : List ℕ). l ++ two.0) f.2 ∙ sym (drop-append-le f.0 b.1 two.0 (head_within b.1 head f.0 f.1.has)) in
    let final : HasFinal (b.1 ++ two.0) head f.0 = record { has = longer_head responses b.1 two.0 head f.0 f.1.has; final = f.1.final } in
    let there : HasFramed to_head (b.1 ++ two.0) head says =
    record { count = f.0; final = final; framing = framing; frames = frames; behind = subst (says framing) rests two.2 } in
    (one.0 ++ two.0, Moves-trans first second third one.0 two.0 [] [] one.1 two.1, (b.0, b.1 ++ two.0, b.2, behind, there))

pub reply_ok : (to_head : Bool) (first second third : Option Flow) (held rest left : List ℕ) (head : ResponseHead) (framing : Framing) (body : List ℕ)
    → Hears first second held (BehindInterim (λ passed text. FinalAt second rest passed (Ok head) text)) → Frames (reply_kind head.status to_head) head.fields framing
    → Hears second third rest (BodyTold framing body_limit third left (Ok body))
    → Hears first third held (BehindInterim (λ passed text. ReplyAt to_head third left passed (Ok (head, body)) text))
reply_ok to_head first second third held rest left head framing body one frames two =
    framed to_head first second third held rest head framing (λ f behind. BodyTold f body_limit third left (Ok body) behind) one frames two

body_stops : (to_head : Bool) (flow : Option Flow) (left : List ℕ) (head : ResponseHead) (k : ℕ) (text : List ℕ) (stop : Stop)
    → HasFramed to_head text head (λ f behind. BodyTold f body_limit flow left (Err stop) behind) → ReplyAt to_head flow left k (Err stop) text
body_stops to_head flow left head k text Read has = tt
body_stops to_head flow left head k text NoMemory has = tt
body_stops to_head flow left head k text Early has = inr (head, has)
body_stops to_head flow left head k text BadHead has = absurd has.behind
body_stops to_head flow left head k text BadBody has = inr (head, has)
body_stops to_head flow left head k text TooLarge has = (head, has)

pub reply_unread : (to_head : Bool) (first second third : Option Flow) (held rest left : List ℕ) (head : ResponseHead) (framing : Framing) (stop : Stop)
    → Hears first second held (BehindInterim (λ passed text. FinalAt second rest passed (Ok head) text)) → Frames (reply_kind head.status to_head) head.fields framing
    → Hears second third rest (BodyTold framing body_limit third left (Err stop))
    → Hears first third held (BehindInterim (λ passed text. ReplyAt to_head third left passed (Err stop) text))
reply_unread to_head first second third held rest left head framing stop one frames two =
    let all = framed to_head first second third held rest head framing (λ f behind. BodyTold f body_limit third left (Err stop) behind) one frames two in
    let b = all.2 in
    (all.0, all.1, (b.0, b.1, b.2, b.3, body_stops to_head third left head b.0 b.1 stop b.4))
