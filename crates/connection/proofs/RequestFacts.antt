-- What the parts of a reading tell of the next request.
use Rattle.std.proofs.Common.{◌≡◌, ◌≢◌, ℕ, ◌+◌, ◌<◌, Bool, List, [], ◌∷◌, ◌++◌, length, drop, Option, Some, Ok, Err, true, false, refl, sym, ◌∙◌, ap, subst, arith}
use Rattle.std.proofs.lemmas.Bool.{true≢false}
use Rattle.std.proofs.lemmas.List.{append-nil, append_assoc, drop-append-le}
use Rattle.http_bodies.specs.Framings.{Frames}
use Rattle.http_bodies.specs.declared.framing.Framing.{Framing}
use Rattle.http_bodies.specs.declared.framing.Kind.TheVariants as kinds
use Rattle.http_heads.specs.Heads.{requests, HasRequest, AnswersRequest}
use Rattle.http_heads.specs.declared.message.RequestHead.{RequestHead}
use Rattle.http_heads.proofs.SentFacts.{longer_head}
use Rattle.message_reader.specs.BodiesTold.{BodyTold}
use Rattle.message_reader.specs.HeadsTold.{HeadTold}
use Rattle.message_reader.specs.Inputs.{Hears, Fills}
use Rattle.message_reader.specs.declared.stop.Stop.{Stop}
use Rattle.message_reader.specs.declared.stop.Stop.TheVariants.{Read, Early, BadHead, BadBody, TooLarge, NoMemory}
use Rattle.wire.specs.Flow.{Flow}
use Rattle.wire.proofs.Flowing.{Moves-none, Moves-trans}
use Rattle.seen_request.specs.Sites.{is_of_one_site}
use Rattle.connection.specs.Requests.{body_limit, BeginsRequest, NeverBegins}
use Rattle.connection.specs.Reading.{RequestTold, MoreTold, FramedTold}
use Rattle.connection.proofs.ReadingFacts.{head_within, no_head, never_head, never_of_head, never_body, no_body}

-- ---- a byte

-- bytes that are held already
pub held_more : (flow : Option Flow) (held : List ℕ) → held ≢ [] → Hears flow flow held (MoreTold flow held (Ok true))
held_more flow held some = ([], Moves-none flow, (sym (append-nil held), λ none. some (sym (append-nil held) ∙ none)))

-- bytes that come
pub came_more : (before after : Option Flow) (held now : List ℕ) (count : ℕ) → length now ≡ length held + count → 0 < count
    → Hears before after held (Fills after held now (Ok count)) → Hears before after held (MoreTold after now (Ok true))
came_more before after held now count longer some hears =
    let there = hears.2.0 in
    (hears.0, hears.1, (there, λ none. omega (arith, longer, some, ap length (there ∙ none))))

pub came_none : (before after : Option Flow) (held now : List ℕ) (count : ℕ) → held ≡ [] → count ≡ 0
    → Hears before after held (Fills after held now (Ok count)) → Hears before after held (MoreTold after now (Ok false))
came_none before after held now count empty none hears =
    let over = hears.2.1 none in
    (hears.0, hears.1, (sym hears.2.0 ∙ over.0 ∙ empty, over.0 ∙ empty, over.1))

pub came_failed : (before after : Option Flow) (held now : List ℕ) (stop : Stop) → Hears before after held (Fills after held now (Err stop))
    → Hears before after held (MoreTold after now (Err stop))
came_failed before after held now Read hears = (hears.0, hears.1, tt)
came_failed before after held now NoMemory hears = (hears.0, hears.1, tt)
came_failed before after held now Early hears = absurd hears.2
came_failed before after held now BadHead hears = absurd hears.2
came_failed before after held now BadBody hears = absurd hears.2
came_failed before after held now TooLarge hears = absurd hears.2

-- ---- what comes behind a byte

pub more_failed : (before after : Option Flow) (held now left : List ℕ) (stop : Stop) → Hears before after held (MoreTold after now (Err stop))
    → Hears before after held (RequestTold after left (Err stop))
more_failed before after held now left Read hears = (hears.0, hears.1, tt)
more_failed before after held now left NoMemory hears = (hears.0, hears.1, tt)
more_failed before after held now left Early hears = absurd hears.2
more_failed before after held now left BadHead hears = absurd hears.2
more_failed before after held now left BadBody hears = absurd hears.2
more_failed before after held now left TooLarge hears = absurd hears.2

-- what is told of the input behind its first byte is told of an input that isn't empty
some_then : (first second third : Option Flow) (held now : List ℕ) (says : List ℕ → Type 0) → Hears first second held (MoreTold second now (Ok true))
    → Hears second third now says → Hears first third held (λ input. (input ≢ []) × says input)
some_then first second third held now says one two =
    let input : now ++ two.0 ≡ held ++ (one.0 ++ two.0) = ap (λ (l : List ℕ). l ++ two.0) one.2.0 ∙ append_assoc held one.0 two.0 in
    let some : held ++ (one.0 ++ two.0) ≢ [] =
    λ none. one.2.1 (front_none (held ++ one.0) two.0 (append_assoc held one.0 two.0 ∙ none)) in
    (one.0 ++ two.0, Moves-trans first second third one.0 two.0 [] [] one.1 two.1, (some, subst says input two.2))
  where
    front_none : (front behind : List ℕ) → front ++ behind ≡ [] → front ≡ []
    front_none [] behind is = refl
    front_none (byte ∷ front) behind is = absurd (cc)

-- ---- a head

-- the input isn't empty, and begins with this head
abbrev pub HeadFound : RequestHead → List ℕ → List ℕ → Type 0
HeadFound head rest input = (input ≢ []) × (count : ℕ) × HasRequest input head count × (rest ≡ drop count input)

pub head_found : (first second third : Option Flow) (held now rest : List ℕ) (head : RequestHead) → Hears first second held (MoreTold second now (Ok true))
    → Hears second third now (HeadTold AnswersRequest third rest (Ok head)) → Hears first third held (HeadFound head rest)
head_found first second third held now rest head one two =
    let all = some_then first second third held now (HeadTold AnswersRequest third rest (Ok head)) one two in
    (all.0, all.1, (all.2.0, all.2.1.0, all.2.1.1.0, all.2.1.3))

no_head_told : (flow : Option Flow) (rest left : List ℕ) (stop : Stop) (input : List ℕ) → input ≢ [] → HeadTold AnswersRequest flow rest (Err stop) input
    → RequestTold flow left (Err stop) input
no_head_told flow rest left Early input some told = (some, no_head input told.0.1, told.1)
no_head_told flow rest left BadHead input some told = never_head input told.0 told.1 told.2
no_head_told flow rest left Read input some told = tt
no_head_told flow rest left NoMemory input some told = tt
no_head_told flow rest left BadBody input some told = absurd told
no_head_told flow rest left TooLarge input some told = absurd told

pub head_failed : (first second third : Option Flow) (held now rest left : List ℕ) (stop : Stop) → Hears first second held (MoreTold second now (Ok true))
    → Hears second third now (HeadTold AnswersRequest third rest (Err stop)) → Hears first third held (RequestTold third left (Err stop))
head_failed first second third held now rest left stop one two =
    let all = some_then first second third held now (HeadTold AnswersRequest third rest (Err stop)) one two in
    (all.0, all.1, no_head_told third rest left stop (held ++ all.0) all.2.0 all.2.1)

-- ---- its fields

not_both : (b : Bool) → b ≡ true → b ≡ false → ⊥
not_both b is other = true≢false (sym is ∙ other)

-- two sites, or an empty one
other_sites : (input : List ℕ) (head : RequestHead) (count : ℕ) → HasRequest input head count → is_of_one_site head ≡ false → NeverBegins input
other_sites input head count has other =
    never_of_head input head count has
    (λ request rest more same x. not_both (is_of_one_site request.0) x.one_site (subst (λ (h : RequestHead). is_of_one_site h ≡ false) same other))

-- no framing
no_framing : (input : List ℕ) (head : RequestHead) (count : ℕ) → HasRequest input head count → ((framing : Framing) → ¬ (Frames kinds.Request head.fields framing)) → NeverBegins input
no_framing input head count has none =
    never_of_head input head count has
    (λ request rest more same x. none x.framing (subst (λ (h : RequestHead). Frames kinds.Request h.fields x.framing) (sym same) x.frames))

unframed_told : (flow : Option Flow) (left : List ℕ) (head : RequestHead) (count : ℕ) (stop : Stop) (input : List ℕ) → HasRequest input head count
    → FramedTold head (Err stop) → RequestTold flow left (Err stop) input
unframed_told flow left head count BadHead input has told = other_sites input head count has told
unframed_told flow left head count BadBody input has told = no_framing input head count has told
unframed_told flow left head count Read input has told = absurd told
unframed_told flow left head count Early input has told = absurd told
unframed_told flow left head count TooLarge input has told = absurd told
unframed_told flow left head count NoMemory input has told = absurd told

pub fields_failed : (before after : Option Flow) (held rest left : List ℕ) (head : RequestHead) (stop : Stop) → Hears before after held (HeadFound head rest)
    → FramedTold head (Err stop) → Hears before after held (RequestTold after left (Err stop))
fields_failed before after held rest left head stop found told =
    (found.0, found.1, unframed_told after left head found.2.1 stop (held ++ found.0) found.2.2 told)

-- ---- a body

-- what is told behind the head, of all that came
abbrev pub Behind : RequestHead → (List ℕ → Type 0) → List ℕ → Type 0
Behind head says input = (input ≢ []) × (count : ℕ) × HasRequest input head count × says (drop count input)

behind : (first second third : Option Flow) (held rest : List ℕ) (head : RequestHead) (says : List ℕ → Type 0) → Hears first second held (HeadFound head rest)
    → Hears second third rest says → Hears first third held (Behind head says)
behind first second third held rest head says one two =
    let input : (held ++ one.0) ++ two.0 ≡ held ++ (one.0 ++ two.0) = append_assoc held one.0 two.0 in
    let found = one.2 in
    let rests : rest ++ two.0 ≡ drop found.1 ((held ++ one.0) ++ two.0) =
    ap (λ (l : List ℕ). l ++ two.0) found.3 ∙ sym (drop-append-le found.1 (held ++ one.0) two.0 (head_within (held ++ one.0) head found.1 found.2)) in
    let there : Behind head says ((held ++ one.0) ++ two.0) = (
      longer_some (held ++ one.0) two.0 found.0,
      found.1,
      longer_head requests (held ++ one.0) two.0 head found.1 found.2,
      subst says rests two.2,
    ) in
    (one.0 ++ two.0, Moves-trans first second third one.0 two.0 [] [] one.1 two.1, subst (Behind head says) input there)
  where
    longer_some : (front more : List ℕ) → front ≢ [] → front ++ more ≢ []
    longer_some [] more some is = some refl
    longer_some (byte ∷ front) more some is = cc

pub whole_request : (first second third : Option Flow) (held rest left : List ℕ) (head : RequestHead) (framing : Framing) (body : List ℕ)
    → Hears first second held (HeadFound head rest) → FramedTold head (Ok framing) → Hears second third rest (BodyTold framing body_limit third left (Ok body))
    → Hears first third held (RequestTold third left (Ok (Some (head, body))))
whole_request first second third held rest left head framing body found framed told =
    let all = behind first second third held rest head (BodyTold framing body_limit third left (Ok body)) found told in
    let has = all.2.3 in
    let request : BeginsRequest (held ++ all.0) (head, body) left = record {
      count = all.2.1;
      has = all.2.2;
      one_site = framed.0;
      framing = framing;
      frames = framed.1;
      begins = has.begins;
      within = has.within;
    } in
    (all.0, all.1, request)

body_told : (flow : Option Flow) (left : List ℕ) (head : RequestHead) (count : ℕ) (framing : Framing) (stop : Stop) (input : List ℕ) → input ≢ [] → HasRequest input head count
    → Frames kinds.Request head.fields framing → BodyTold framing body_limit flow left (Err stop) (drop count input) → RequestTold flow left (Err stop) input
body_told flow left head count framing Early input some has frames told = (some, no_body input head count framing has frames told.none, told.over)
body_told flow left head count framing BadBody input some has frames told = never_body input head count framing told.0 has frames told.1
body_told flow left head count framing TooLarge input some has frames told = never_body input head count framing told.0 has frames told.1
body_told flow left head count framing Read input some has frames told = tt
body_told flow left head count framing NoMemory input some has frames told = tt
body_told flow left head count framing BadHead input some has frames told = absurd told

pub body_failed : (first second third : Option Flow) (held rest left : List ℕ) (head : RequestHead) (framing : Framing) (stop : Stop)
    → Hears first second held (HeadFound head rest) → FramedTold head (Ok framing) → Hears second third rest (BodyTold framing body_limit third left (Err stop))
    → Hears first third held (RequestTold third left (Err stop))
body_failed first second third held rest left head framing stop found framed told =
    let all = behind first second third held rest head (BodyTold framing body_limit third left (Err stop)) found told in
    (all.0, all.1, body_told third left head all.2.1 framing stop (held ++ all.0) all.2.0 all.2.2 framed.1 all.2.3)
