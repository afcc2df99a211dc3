-- What a reader of a body tells of all that came.
use Rattle.std.proofs.Common.{◌≡◌, ◌⊎◌, inl, inr, ℕ, ◌+◌, List, [], ◌∷◌, ◌++◌, length, take, drop, Option, Some, None, Result, Ok, Err, refl, sym, ◌∙◌, ap, subst}
use Rattle.std.proofs.lemmas.List.{append-nil, append_assoc, take-append-drop}
use Rattle.std.proofs.Math.Seq.{take-append-add, drop-append-add}
use Rattle.http_bodies.specs.declared.framing.Framing.{Framing}
use Rattle.http_bodies.specs.declared.framing.Framing.TheVariants.{Length, UntilEnd}
use Rattle.http_bodies.specs.declared.framing.BodyError.{BodyError}
use Rattle.http_bodies.specs.declared.framing.BodyError.TheVariants as bodies
use Rattle.http_bodies.specs.Bodies.{BeginsWith}
use Rattle.http_bodies.specs.Reading.{ReaderState, Makes, Follows, Starts, refusal}
use Rattle.http_bodies.specs.Answers.{IsBroken, HasEndWithin, GoesOn, Takes}
use Rattle.http_bodies.proofs.AnswerFacts.{Follows-trans, has_end_after}
use Rattle.http_bodies.proofs.LawFacts.{cut_taken, cut_refused}
use Rattle.http_bodies.proofs.Fronts.{text_found, text_broken, text_early, early_none, not_refused, none_made}
use Rattle.wire.specs.Flow.{Flow, IsOver}
use Rattle.message_reader.specs.Causes.{body_stop}
use Rattle.message_reader.specs.Inputs.{Fills}
use Rattle.message_reader.specs.BodiesTold.{HasBody, EndsEarly, BodyTold, TakesAll, Denies, FeedStops, Fed}
use Rattle.message_reader.specs.declared.stop.Stop.{Stop}
use Rattle.message_reader.specs.declared.stop.Stop.TheVariants.{Read, Early, BadHead, BadBody, TooLarge, NoMemory}

-- a body may still end behind what was taken
lives : (now new : ReaderState) (piece : List ℕ) (count : ℕ) → Takes now piece count → Follows now new (take count piece) → HasEndWithin new []
lives now new piece count takes follows =
    (has_end_after now new (take count piece) [] follows).1 (subst (HasEndWithin now) (sym (append-nil (take count piece))) takes.has_end)

pub fed_more : (first now new : ReaderState) (used piece : List ℕ) (count : ℕ) → Fed first now used → Takes now piece count → Follows now new (take count piece)
    → Fed first new (used ++ take count piece)
fed_more first now new used piece count fed takes follows = record {
  follows = Follows-trans first now new used (take count piece) fed.follows follows;
  denies = λ input error told.
      let back : Denies now (take count piece ++ input) error = elim told [
        | inl refused ↦ absurd (let never : None ≡ Some error = sym (not_refused count now new piece takes follows) ∙ refused in cc)
        | inr refuses ↦ inr ((cut_refused now new (take count piece) input error follows (lives now new piece count takes follows)).0 refuses)
      ] in
      subst (λ (t : List ℕ). Denies first t error) (sym (append_assoc used (take count piece) input)) (fed.denies (take count piece ++ input) error back);
}

-- the bytes that were used, and what is held of the others
pub used_more : (used held rest input : List ℕ) (count : ℕ) → used ++ held ≡ input → rest ≡ drop count held → (used ++ take count held) ++ rest ≡ input
used_more used held rest input count joined rest_is =
    ap (λ (l : List ℕ). (used ++ take count held) ++ l) rest_is ∙ append_assoc used (take count held) (drop count held)
    ∙ ap (λ (l : List ℕ). used ++ l) (take-append-drop count held) ∙ joined

pub all_taken : (first now new : ReaderState) (flow : Option Flow) (used held rest input : List ℕ) (count : ℕ) → Fed first now used → Takes now held count
    → Follows now new (take count held) → rest ≡ drop count held → (used ++ take count held) ++ rest ≡ input → (¬ (GoesOn new [])) ⊎ IsOver flow
    → TakesAll first new flow rest input
all_taken first now new flow used held rest input count fed takes follows rest_is joined over =
    let split : used ++ held ≡ input =
    ap (λ (l : List ℕ). used ++ l) (sym (take-append-drop count held)) ∙ sym (append_assoc used (take count held) (drop count held))
    ∙ ap (λ (l : List ℕ). (used ++ take count held) ++ l) (sym rest_is) ∙ joined in
    let fed_all : Follows first new (used ++ take count held) = Follows-trans first now new used (take count held) fed.follows follows in
    let whole : TakesAll first new flow rest (used ++ held) = record {
      count = length used + count;
      takes = (cut_taken first now used held count fed.follows).0 takes;
      follows = subst (λ (t : List ℕ). Follows first new t) (sym (take-append-add used held count)) fed_all;
      rest_is = rest_is ∙ sym (drop-append-add used held count);
      over = over;
    } in
    subst (λ (t : List ℕ). TakesAll first new flow rest t) split whole

-- a read that failed
pub unfilled_feed : (first : ReaderState) (after : Option Flow) (before now came input : List ℕ) (stop : Stop) → Fills after before now (Err stop) came
    → FeedStops first stop input
unfilled_feed first after before now came input Read fills = tt
unfilled_feed first after before now came input NoMemory fills = tt
unfilled_feed first after before now came input Early fills = absurd fills
unfilled_feed first after before now came input BadHead fills = absurd fills
unfilled_feed first after before now came input BadBody fills = absurd fills
unfilled_feed first after before now came input TooLarge fills = absurd fills

-- what is held once more came
pub joined_more : (used now held read more : List ℕ) → used ++ now ≡ held ++ read → used ++ (now ++ more) ≡ held ++ (read ++ more)
joined_more used now held read more joined = sym (append_assoc used now more) ∙ ap (λ (l : List ℕ). l ++ more) joined ∙ append_assoc held read more

-- ---- the whole body

until_refuses_none : (limit : ℕ) (s : ReaderState) → Starts UntilEnd limit s → refusal s ≡ None
until_refuses_none limit s starts = by (refusal s) refl
  where
    by : (o : Option BodyError) → refusal s ≡ o → refusal s ≡ None
    by None is = is
    by (Some error) is = let large = starts.refused error is in absurd (let never : UntilEnd ≡ Length large.1 = large.2 in cc)

-- a body that goes on to the end of the connection goes on
until_goes_on : (limit count : ℕ) (first new : ReaderState) (input : List ℕ) → Starts UntilEnd limit first → Follows first new (take count input) → GoesOn new []
until_goes_on limit count first new input starts follows =
    let text = take count input ++ 0 ∷ [] in
    (0, [], text, (follows.ends (0 ∷ []) text).1 ((starts.ends (until_refuses_none limit first starts) text text).1 refl))

pub body_found : (framing : Framing) (limit : ℕ) (first new : ReaderState) (flow : Option Flow) (rest input body : List ℕ) → Starts framing limit first
    → TakesAll first new flow rest input → Makes new [] body → HasBody framing limit flow input body rest
body_found framing limit first new flow rest input body starts all makes =
    let found = text_found framing limit all.count first new input body starts all.takes all.follows makes in
    record {
      begins = subst (λ (r : List ℕ). BeginsWith framing input body r) (sym all.rest_is) found.0;
      within = found.2;
      over = λ until. elim all.over [
        | inl done ↦ absurd (done (until_goes_on limit all.count first new input (subst (λ (f : Framing). Starts f limit first) until starts) all.follows))
        | inr over ↦ over
      ];
    }

pub body_early : (framing : Framing) (limit : ℕ) (first new : ReaderState) (flow : Option Flow) (rest input : List ℕ) → Starts framing limit first
    → TakesAll first new flow rest input → ((body : List ℕ) → ¬ (Makes new [] body)) → EndsEarly framing limit flow input
body_early framing limit first new flow rest input starts all none = record {
  over = elim all.over [
    | inl done ↦ let living = lives first new input all.count all.takes all.follows in by_rest done living.0 living.1 living.2
    | inr over ↦ over
  ];
  goes_on = (text_early framing limit all.count first new input starts all.takes all.follows none).1;
  none = λ body behind x short. early_none framing limit all.count first new input body behind starts all.takes all.follows none x short;
}
  where
    by_rest : ¬ (GoesOn new []) → (more body : List ℕ) → Makes new more body → IsOver flow
    by_rest done [] body makes = absurd (none body makes)
    by_rest done (byte ∷ more) body makes = absurd (done (byte, more, body, makes.ends))

-- a reader that can't finish
pub body_unfinished : (framing : Framing) (limit : ℕ) (first new : ReaderState) (flow : Option Flow) (rest input : List ℕ) (result : Result (List ℕ) BodyError)
    (error : BodyError) → Starts framing limit first → TakesAll first new flow rest input → result ≡ Err error
    → ((body : List ℕ) → Makes new [] body → (result ≡ Ok body) ⊎ (result ≡ Err bodies.NoMemory))
    → (error ≡ bodies.Early) ⊎ (error ≡ bodies.NoMemory) ⊎ (refusal new ≡ Some error) → BodyTold framing limit flow rest (Err (body_stop error)) input
body_unfinished framing limit first new flow rest input result error starts all is found kinds = elim kinds [
  | inl early ↦
      let other : error ≡ bodies.NoMemory → ⊥ = (λ memory. absurd (let never : bodies.Early ≡ bodies.NoMemory = sym early ∙ memory in cc)) in
      let ends = body_early framing limit first new flow rest input starts all (λ body makes. none_made result error body is other (found body makes)) in
      subst (λ (e : BodyError). BodyTold framing limit flow rest (Err (body_stop e)) input) (sym early) ends
  | inr more ↦ elim more [
    | inl memory ↦ subst (λ (e : BodyError). BodyTold framing limit flow rest (Err (body_stop e)) input) (sym memory) tt
    | inr refused ↦ absurd (let never : None ≡ Some error = sym (not_refused all.count first new input all.takes all.follows) ∙ refused in cc)
  ]
]

-- nothing that breaks is early
never_early : (framing : Framing) (limit : ℕ) (input : List ℕ) (error : BodyError) → IsBroken framing limit input error → body_stop error ≡ Early → ⊥
never_early framing limit input bodies.BadLength broken is = cc
never_early framing limit input bodies.TwoFramings broken is = cc
never_early framing limit input bodies.BadChunk broken is = cc
never_early framing limit input bodies.TooLarge broken is = cc
never_early framing limit input bodies.NoMemory broken is = cc
never_early framing limit input bodies.Early broken is = elim broken [
  | inl breaks ↦ breaks.kind
  | inr large ↦ let never : bodies.Early ≡ bodies.TooLarge = large.0 in cc
]

-- a refusal of all that came
pub body_stopped : (framing : Framing) (limit : ℕ) (first : ReaderState) (flow : Option Flow) (rest input : List ℕ) (stop : Stop) → Starts framing limit first
    → FeedStops first stop input → BodyTold framing limit flow rest (Err stop) input
body_stopped framing limit first flow rest input Read starts told = tt
body_stopped framing limit first flow rest input NoMemory starts told = tt
body_stopped framing limit first flow rest input BadHead starts told = absurd told
body_stopped framing limit first flow rest input Early starts told =
    absurd (never_early framing limit input told.0 (text_broken framing limit first input told.0 starts told.1) told.2)
body_stopped framing limit first flow rest input BadBody starts told = (told.0, text_broken framing limit first input told.0 starts told.1, told.2)
body_stopped framing limit first flow rest input TooLarge starts told = (told.0, text_broken framing limit first input told.0 starts told.1, told.2)
