-- The whole body at the front of a text, and what a reader that took the text from its start tells of it.
use Rattle.std.proofs.Common.{◌≡◌, ◌≢◌, ◌⊎◌, ◌↔◌, inl, inr, ℕ, ◌+◌, ◌-◌, ◌≤◌, List, [], ◌∷◌, ◌++◌, length, take, drop, Some, None, Result, Ok, Err, refl, sym, ◌∙◌, ap, subst, arith}
use native.Mathlib.Decide.{dec_le}
use Rattle.std.proofs.lemmas.List.{append-nil, append_assoc, length-append, take-append-drop, take-append-le, length-drop, take_all}
use Rattle.std.proofs.Math.Seq.{take-append-add}
use Rattle.http_bodies.specs.declared.framing.Framing.{Framing}
use Rattle.http_bodies.specs.declared.framing.Framing.TheVariants.{Length, UntilEnd}
use Rattle.http_bodies.specs.declared.framing.BodyError.{BodyError}
use Rattle.http_bodies.specs.declared.framing.BodyError.TheVariants.{BadLength, TwoFramings, BadChunk, TooLarge, Early, NoMemory}
use Rattle.http_bodies.specs.Bodies.{IsBody, BeginsWith}
use Rattle.http_bodies.specs.Reading.{ReaderState, Ends, Makes, Follows, Starts, refusal}
use Rattle.http_bodies.specs.Answers.{CanEndWithin, IsCause, Breaks, IsBroken, HasEndWithin, GoesOn, Takes, Refuses}
use Rattle.http_bodies.proofs.Prefixes.{prefix_split, nothing}
use Rattle.http_bodies.proofs.PlaceFacts.{alive}
use Rattle.http_bodies.proofs.AnswerFacts.{has_end_after}
use Rattle.http_bodies.proofs.EndFacts.{one_end, one_meaning}

-- ---- one body

-- nothing is left between a body and a longer front that is one too
none_between : (framing : Framing) (front more body other rest : List ℕ) → IsBody framing front body → IsBody framing (front ++ more) other
    → (framing ≡ UntilEnd → more ++ rest ≡ []) → more ≡ []
none_between framing front more body other rest x y last = elim (one_end framing front more body other x y) [
  | inl none ↦ none
  | inr until ↦ nothing more (omega (arith, ap length (last until), length-append more rest))
]

shorter_first : (framing : Framing) (text body rest other rests : List ℕ) (x : BeginsWith framing text body rest) (y : BeginsWith framing text other rests)
    → length x.front ≤ length y.front → (body ≡ other) × (rest ≡ rests)
shorter_first framing text body rest other rests x y shorter =
    let split = prefix_split x.front rest y.front rests (sym x.split ∙ y.split) shorter in
    let more = split.0 in
    let reads : IsBody framing (x.front ++ more) other = subst (λ (t : List ℕ). IsBody framing t other) split.1 y.reads in
    let none = none_between framing x.front more body other rests x.reads reads (λ until. sym split.2 ∙ x.last until) in
    let same : x.front ++ more ≡ x.front = ap (λ (l : List ℕ). x.front ++ l) none ∙ append-nil x.front in (
      one_meaning framing x.front body other x.reads (subst (λ (t : List ℕ). IsBody framing t other) same reads),
      split.2 ∙ ap (λ (l : List ℕ). l ++ rests) none,
    )

pub one_body : (framing : Framing) (text body rest other rests : List ℕ) → BeginsWith framing text body rest → BeginsWith framing text other rests
    → (body ≡ other) × (rest ≡ rests)
one_body framing text body rest other rests x y = elim (dec_le (length x.front) (length y.front)) [
  | yes shorter ↦ shorter_first framing text body rest other rests x y shorter
  | no longer ↦
      let same = shorter_first framing text other rests body rest y x (omega (arith, longer)) in
      (sym same.0, sym same.1)
]

pub longer_text : (framing : Framing) (text body rest more : List ℕ) → framing ≢ UntilEnd → BeginsWith framing text body rest
    → BeginsWith framing (text ++ more) body (rest ++ more)
longer_text framing text body rest more other x = record {
  front = x.front;
  split = ap (λ (l : List ℕ). l ++ more) x.split ∙ append_assoc x.front rest more;
  reads = x.reads;
  last = λ until. absurd (other until);
}

-- ---- a text that breaks

cause_by : (error : BodyError) (reads other : List ℕ → List ℕ → Type 0) (bytes : List ℕ) → ((text body : List ℕ) → reads text body ↔ other text body)
    → IsCause error reads bytes → IsCause error other bytes
cause_by BadLength reads other bytes same kind = kind
cause_by TwoFramings reads other bytes same kind = kind
cause_by BadChunk reads other bytes same kind = λ e. kind (e.0, e.1, (same _ _).1 e.2)
cause_by TooLarge reads other bytes same kind = (kind.0, kind.1, (same _ _).0 kind.2)
cause_by Early reads other bytes same kind = kind
cause_by NoMemory reads other bytes same kind = kind

-- two readings that agree break alike
breaks_by : (reads other : List ℕ → List ℕ → Type 0) (limit : ℕ) (text : List ℕ) (error : BodyError)
    → ((text body : List ℕ) → reads text body ↔ other text body) → Breaks reads limit text error → Breaks other limit text error
breaks_by reads other limit text error same b = record {
  before = b.before;
  within = b.within;
  has_end = (b.has_end.0, b.has_end.1, record { ends = (same _ _).0 b.has_end.2.ends; within = b.has_end.2.within });
  goes_on = (b.goes_on.0, b.goes_on.1, b.goes_on.2, (same _ _).0 b.goes_on.3);
  none = λ e. b.none (e.0, e.1, record { ends = (same _ _).1 e.2.ends; within = e.2.within });
  kind = cause_by error reads other (take (b.before + 1) text) same b.kind;
}

-- a front of a front
front_of : (n : ℕ) (text front rest : List ℕ) → text ≡ front ++ rest → n ≤ length front → front ≡ take n text ++ drop n front
front_of n text front rest split short =
    sym (take-append-drop n front) ∙ ap (λ (t : List ℕ). t ++ drop n front) (sym (ap (λ (t : List ℕ). take n t) split ∙ take-append-le n front rest short))

-- a longer front
longer : (n : ℕ) (text front rest : List ℕ) → text ≡ front ++ rest → length front ≤ n → take n text ≡ front ++ take (n - length front) rest
longer n text front rest split long =
    let count : n ≡ length front + (n - length front) = omega (arith, long) in
    ap (λ (t : List ℕ). take n t) split ∙ (ap (λ (k : ℕ). take k (front ++ rest)) count ∙ take-append-add front rest (n - length front))

-- no body within the limit stands at the front of a text that breaks
breaks_none : (framing : Framing) (limit : ℕ) (text body rest : List ℕ) (error : BodyError) → Breaks (IsBody framing) limit text error
    → BeginsWith framing text body rest → length body ≤ limit → ⊥
breaks_none framing limit text body rest error b x short =
    let k = b.before in
    elim (dec_le (b.before + 1) (length x.front)) [
      | yes inside ↦
          let parts = front_of (b.before + 1) text x.front rest x.split inside in
          b.none (drop (b.before + 1) x.front, body, record { ends = subst (λ (t : List ℕ). IsBody framing t body) parts x.reads; within = short })
      | no behind ↦
          let more = take (b.before - length x.front) rest in
          let whole = longer b.before text x.front rest x.split (omega (arith, behind)) in
          let on = b.goes_on in
          let joined : take b.before text ++ on.0 ∷ on.1 ≡ x.front ++ (more ++ on.0 ∷ on.1) =
          ap (λ (t : List ℕ). t ++ on.0 ∷ on.1) whole ∙ append_assoc x.front more (on.0 ∷ on.1) in
          elim (one_end framing x.front (more ++ on.0 ∷ on.1) body on.2 x.reads (subst (λ (t : List ℕ). IsBody framing t on.2) joined on.3)) [
            | inl none ↦ omega (arith, ap length none, length-append more (on.0 ∷ on.1))
            | inr until ↦ omega (arith, ap length x.split, length-append x.front rest, ap length (x.last until), b.within, behind)
          ]
    ]

pub broken_none : (framing : Framing) (limit : ℕ) (text body rest : List ℕ) (error : BodyError) → IsBroken framing limit text error
    → BeginsWith framing text body rest → length body ≤ limit → ⊥
broken_none framing limit text body rest error broken x short = elim broken [
  | inl breaks ↦ breaks_none framing limit text body rest error breaks x short
  | inr large ↦
      let reads : IsBody (Length large.1) x.front body = subst (λ (f : Framing). IsBody f x.front body) large.2 x.reads in
      omega (arith, reads.1, large.3, short)
]

-- ---- what a reader that began with the text tells

is_body : (framing : Framing) (limit : ℕ) (reader : ReaderState) (text body : List ℕ) → Starts framing limit reader → Ends reader text body → IsBody framing text body
is_body framing limit reader text body starts ends = (starts.ends (alive reader text body ends) text body).0 ends

-- a refusal
pub text_broken : (framing : Framing) (limit : ℕ) (reader : ReaderState) (text : List ℕ) (error : BodyError) → Starts framing limit reader
    → (refusal reader ≡ Some error) ⊎ Refuses reader text error → IsBroken framing limit text error
text_broken framing limit reader text error starts told = elim told [
  | inl refused ↦ inr (starts.refused error refused)
  | inr refuses ↦
      let living = alive reader _ _ refuses.has_end.2.ends in
      inl (subst (λ (m : ℕ). Breaks (IsBody framing) m text error) starts.limit_is
      (breaks_by (Ends reader) (IsBody framing) reader.limit text error (starts.ends living) refuses))
]

-- a body that goes on to the end of the connection goes on
always_on : (limit : ℕ) (reader : ReaderState) (bytes body : List ℕ) → Starts UntilEnd limit reader → Ends reader bytes body → GoesOn reader bytes
always_on limit reader bytes body starts ends =
    (0, [], bytes ++ 0 ∷ [], (starts.ends (alive reader bytes body ends) (bytes ++ 0 ∷ []) (bytes ++ 0 ∷ [])).1 refl)

-- a body
pub text_found : (framing : Framing) (limit n : ℕ) (before after : ReaderState) (text body : List ℕ) → Starts framing limit before → Takes before text n
    → Follows before after (take n text) → Makes after [] body → BeginsWith framing text body (drop n text) × (n ≤ length text) × (length body ≤ limit)
text_found framing limit n before after text body starts takes follows makes =
    let ends : Ends before (take n text) body = subst (λ (t : List ℕ). Ends before t body) (append-nil (take n text)) ((follows.ends [] body).0 makes.ends) in (
      record {
        front = take n text;
        split = sym (take-append-drop n text);
        reads = is_body framing limit before (take n text) body starts ends;
        last = λ until. elim (dec_le (length text) n) [
          | yes all ↦ nothing (drop n text) (omega (arith, length-drop n text, all))
          | no less ↦ absurd (takes.over (omega (arith, less))
              (always_on limit before (take n text) body (subst (λ (f : Framing). Starts f limit before) until starts) ends))
        ];
      },
      takes.within,
      subst (λ (m : ℕ). length body ≤ m) (follows.limit ∙ starts.limit_is) makes.within,
    )

-- where no body ends at what was taken, all was taken, and a body may still come
pub text_early : (framing : Framing) (limit n : ℕ) (before after : ReaderState) (text : List ℕ) → Starts framing limit before → Takes before text n
    → Follows before after (take n text) → ((body : List ℕ) → ¬ (Makes after [] body)) → (length text ≤ n) × CanEndWithin (IsBody framing) limit text
text_early framing limit n before after text starts takes follows none =
    let living = (has_end_after before after (take n text) [] follows).1
    (subst (HasEndWithin before) (sym (append-nil (take n text))) takes.has_end) in
    let all = by_rest living.0 living.1 living.2 in
    let end = subst (HasEndWithin before) (take_all n text all) takes.has_end in (
      all,
      (
        end.0,
        end.1,
        record {
          ends = is_body framing limit before (text ++ end.0) end.1 starts end.2.ends;
          within = subst (λ (m : ℕ). length end.1 ≤ m) starts.limit_is end.2.within;
        },
      ),
    )
  where
    by_rest : (rest body : List ℕ) → Makes after rest body → length text ≤ n
    by_rest [] body makes = absurd (none body makes)
    by_rest (c ∷ rest) body makes = elim (dec_le (length text) n) [
      | yes all ↦ all
      | no less ↦ absurd (takes.over (omega (arith, less)) (c, rest, body, (follows.ends (c ∷ rest) body).0 makes.ends))
    ]

-- a reader that took bytes has refused none
pub not_refused : (n : ℕ) (before after : ReaderState) (text : List ℕ) → Takes before text n → Follows before after (take n text) → refusal after ≡ None
not_refused n before after text takes follows =
    let living = (has_end_after before after (take n text) [] follows).1
    (subst (HasEndWithin before) (sym (append-nil (take n text))) takes.has_end) in
    alive after living.0 living.1 living.2.ends

pub early_none : (framing : Framing) (limit n : ℕ) (before after : ReaderState) (text body rest : List ℕ) → Starts framing limit before
    → Takes before text n → Follows before after (take n text) → ((body : List ℕ) → ¬ (Makes after [] body)) → BeginsWith framing text body rest
    → length body ≤ limit → ⊥
early_none framing limit n before after text body rest starts takes follows none x short =
    let early = text_early framing limit n before after text starts takes follows none in
    let end = early.1 in
    let joined : text ++ end.0 ≡ x.front ++ (rest ++ end.0) = ap (λ (t : List ℕ). t ++ end.0) x.split ∙ append_assoc x.front rest end.0 in
    let on = subst (λ (t : List ℕ). IsBody framing t end.1) joined end.2.ends in
    let no_rest : rest ≡ [] = elim (one_end framing x.front (rest ++ end.0) body end.1 x.reads on) [
      | inl empty ↦ nothing rest (omega (arith, ap length empty, length-append rest end.0))
      | inr until ↦ x.last until
    ] in
    let front : x.front ≡ take n text ++ [] =
    sym (append-nil x.front) ∙ ap (λ (l : List ℕ). x.front ++ l) (sym no_rest) ∙ sym x.split ∙ sym (take_all n text early.0) ∙ sym (append-nil (take n text)) in
    let made = (starts.makes x.front body).1 (x.reads, short) in
    let makes : Makes before (take n text ++ []) body = subst (λ (t : List ℕ). Makes before t body) front made in
    none body (record { ends = (follows.ends [] body).1 makes.ends; within = subst (λ (m : ℕ). length body ≤ m) (sym follows.limit) makes.within })

-- a reader that can't finish but for want of memory makes no body
pub none_made : {T : Type 0} (result : Result T BodyError) (error : BodyError) (body : T) → result ≡ Err error → error ≢ NoMemory
    → (result ≡ Ok body) ⊎ (result ≡ Err NoMemory) → ⊥
none_made result error body is living told = elim told [
  | inl found ↦ absurd (let never : Ok body ≡ Err error = sym found ∙ is in cc)
  | inr memory ↦ let same : Err error ≡ Err NoMemory = sym is ∙ memory in living (cc)
]
