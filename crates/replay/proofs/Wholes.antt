-- The one message at the front of a text.
use Rattle.std.proofs.Common.{◌≡◌, ◌≢◌, inl, inr, ℕ, ◌-◌, ◌≤◌, List, length, take, drop, Option, Some, None, Result, Ok, Err, IfOk, MatchOption, sym, ◌∙◌, ap, subst, arith}
use Rattle.std.proofs.lemmas.List.{take_all, length-drop}
use Rattle.http_heads.specs.declared.message.RequestHead.{RequestHead}
use Rattle.http_heads.specs.declared.message.HeadError.{HeadError}
use Rattle.http_heads.specs.declared.message.HeadError.TheVariants.{NoMemory}
use Rattle.http_heads.specs.Heads.{HasRequest, LacksRequest, AnswersRequest}
use Rattle.units.specs.Outcomes.{Gives}
use Rattle.http_heads.specs.declared.fields.Field.{Field}
use Rattle.http_bodies.specs.declared.framing.Kind.{Kind}
use Rattle.http_bodies.specs.declared.framing.Kind.TheVariants as kinds
use Rattle.http_bodies.specs.declared.framing.Framing.{Framing}
use Rattle.http_bodies.specs.declared.framing.BodyError.{BodyError}
use Rattle.http_bodies.specs.Framings.{Frames}
use Rattle.http_bodies.specs.Bodies.{BeginsWith}
use Rattle.std.specs.declared.alloc.AllocError.{AllocError}
use Rattle.replay.specs.Whole.{HasFramedBody, LacksWholeRequest, IsTheRequest, IsTheWholeRequest}

not_none : (A : Type 0) (value : A) → Gives {T = Option A} NoMemory (Ok None) (Some value) → ⊥
not_none A value (inl e) = cc
not_none A value (inr e) = cc

not_error : (A : Type 0) (value : A) (error : HeadError) → error ≢ NoMemory → Gives {T = Option A} NoMemory (Err error) (Some value) → ⊥
not_error A value error other (inl e) = cc
not_error A value error other (inr e) = other cc

the_same : (A : Type 0) (a b : A) → Gives {T = Option A} NoMemory (Ok (Some a)) (Some b) → b ≡ a
the_same A a b (inl e) = cc
the_same A a b (inr e) = cc

pub the_request : (text : List ℕ) (found : Option (RequestHead × ℕ)) → AnswersRequest text (Ok found) → ((head : RequestHead) (count : ℕ) → HasRequest text head count → Gives NoMemory (Ok found) (Some (head, count))) → MatchOption found (LacksRequest text) (λ x. IsTheRequest text x.0 x.1)
the_request text None answer gives = λ head count has. not_none (RequestHead × ℕ) (head, count) (gives head count has)
the_request text (Some x) answer gives =
    (answer.0, λ head count has. let same = the_same (RequestHead × ℕ) x (head, count) (gives head count has) in (ap (λ (y : RequestHead × ℕ). y.0) same, ap (λ (y : RequestHead × ℕ). y.1) same))

pub no_request : (text : List ℕ) (error : HeadError) → error ≢ NoMemory → ((head : RequestHead) (count : ℕ) → HasRequest text head count → Gives {T = Option (RequestHead × ℕ)} NoMemory (Err error) (Some (head, count))) → LacksRequest text
no_request text error other gives = λ head count has. not_error (RequestHead × ℕ) (head, count) error other (gives head count has)

-- without a head there is no message
pub headless_request : (text : List ℕ) → LacksRequest text → LacksWholeRequest text
headless_request text lacks head body whole = lacks head whole.count whole.head_is

-- a head with a body is the message, and without one there is none
pub whole_request : (text rest body : List ℕ) (head : RequestHead) (count : ℕ) → IsTheRequest text head count → rest ≡ drop count text → HasFramedBody kinds.Request 1048576 head.fields rest body → IsTheWholeRequest text head body
whole_request text rest body head count the behind framed = (
  record { count = count; head_is = the.0; body_is = subst (λ (t : List ℕ). HasFramedBody kinds.Request 1048576 head.fields t body) behind framed },
  λ other more whole. (the.1 other whole.count whole.head_is).0,
)

pub bodiless_request : (text rest : List ℕ) (head : RequestHead) (count : ℕ) → IsTheRequest text head count → rest ≡ drop count text → ((body : List ℕ) → HasFramedBody kinds.Request 1048576 head.fields rest body → ⊥) → LacksWholeRequest text
bodiless_request text rest head count the behind none other more whole =
    let same = the.1 other whole.count whole.head_is in
    none more
    (subst (λ (t : List ℕ). HasFramedBody kinds.Request 1048576 head.fields t more) (ap (λ (k : ℕ). drop k text) same.1 ∙ sym behind)
    (subst (λ (h : RequestHead). HasFramedBody kinds.Request 1048576 h.fields (drop whole.count text) more) same.0 whole.body_is))

-- the rest of a text behind a place
pub rest_behind : (text : List ℕ) (count : ℕ) → take (length text - count) (drop count text) ≡ drop count text
rest_behind text count = let len = length-drop count text in take_all (length text - count) (drop count text) (omega (arith, len))

abbrev OkFraming : Framing → Result Framing BodyError
OkFraming framing = Ok framing

-- what is found of the framing is what is found of the fields, which frame no other
pub framed_body : (kind : Kind) (limit : ℕ) (fields : List Field) (text : List ℕ) (framing : Framing) (result : Result (Option (List ℕ)) AllocError)
    → Frames kind fields framing
    → ((other : Framing) → Frames kind fields other → OkFraming framing ≡ OkFraming other)
    → IfOk result (λ found. MatchOption found
    ((body rest : List ℕ) → BeginsWith framing text body rest → length body ≤ limit → ⊥)
    (λ body. (rest : List ℕ) × BeginsWith framing text body rest × (length body ≤ limit)))
    → IfOk result (λ found. MatchOption found ((body : List ℕ) → HasFramedBody kind limit fields text body → ⊥)
    (λ body. HasFramedBody kind limit fields text body))
framed_body kind limit fields text framing (Err e) frames only told = tt
framed_body kind limit fields text framing (Ok None) frames only told = λ body has.
    let same : framing ≡ has.framing = let told_once = only has.framing has.frames in cc in
    told body has.rest (subst (λ (f : Framing). BeginsWith f text body has.rest) (sym same) has.reads) has.short
framed_body kind limit fields text framing (Ok (Some body)) frames only told =
    record { framing = framing; frames = frames; rest = told.0; reads = told.1; short = told.2 }
