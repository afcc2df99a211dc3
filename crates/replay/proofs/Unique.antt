-- Two ways through one session are one, as far as both go.
use Rattle.std.proofs.Common.{◌≡◌, ◌⊎◌, inl, inr, ℕ, Bool, List, [], ◌∷◌, ◌++◌, Some, None, refl, sym, ◌∙◌, ap, subst, append_assoc}
use Rattle.std.proofs.lemmas.List.{append-nil, append_cancel_left}
use Rattle.std.specs.Prelude.{find}
use Rattle.std.specs.List.{flat_map}
use Rattle.cache_law.specs.declared.call.Entry.{Entry}
use Rattle.replay.specs.declared.policy.Request.{Request}
use Rattle.replay.specs.declared.policy.Given.{Given}
use Rattle.replay.specs.declared.policy.Given.TheVariants.{Told, Came, Sent, Closed}
use Rattle.replay.specs.declared.policy.Want.{Want}
use Rattle.replay.specs.declared.policy.Want.TheVariants.{Ask, Exchange, Respond, Await, Done}
use Rattle.replay.specs.declared.event.Event.{Event}
use Rattle.replay.specs.declared.event.Event.TheVariants as events
use Rattle.replay.specs.declared.event.Aside.TheVariants as asides
use Rattle.replay.specs.Policy.{HasOneWant}
use Rattle.replay.proofs.Runs.{flat_map-append}
use Rattle.http_heads.specs.declared.exchange.BackendRequest.{BackendRequest}
use Rattle.http_heads.specs.declared.exchange.Exchange.{Exchange as What}
use Rattle.backend_link.specs.Exchanges.{asks_head}
use Rattle.replay.proofs.Heards.{heard_once}
use Rattle.cache_law.specs.History.{next_state}
use Rattle.replay.specs.Plan.{Plan}
use Rattle.replay.specs.Scene.{IsHeardAs, Scene, Round, Waiting, Parked, Move, hears, calls, fetches, sends, parks, wakes, ends, events_of, entries_of, AtRest, Hears, Next, Path, Runs, gave, with_running, without_first, is_free, without_free}

-- what makes a move: a line, a token that is closed, or what the round whose turn it is wants
data Cause : Type 0 where
  line : Cause
  closing : Cause
  wish : Want → Cause

cause_of : Move → Cause
cause_of (hears event) = line
cause_of (calls entry) = wish (Ask entry.call)
cause_of (fetches number backend request) = wish (Exchange number backend request)
cause_of (sends client response) = wish (Respond response)
cause_of (parks token) = wish (Await token)
cause_of wakes = closing
cause_of ends = wish Done

-- the round whose turn it is
record Moves (wants : Request → List Given → Want → Type 0) (scene : Scene) (want : Want) : Type 0 where
  round : Round
  runs : Runs wants scene round want

-- somebody's token is closed, and nobody runs
record CanWake (scene : Scene) : Type 0 where
  one : Parked
  nobody_runs : scene.running ≡ None
  free : find (is_free scene.state) scene.parked ≡ Some one

who_moves : (plan : Plan) (old new : Scene) (move : Move) → Next plan old move new → ((cause_of move ≡ line) × AtRest old) ⊎ (((cause_of move ≡ closing) × CanWake old) ⊎ ((want : Want) × (cause_of move ≡ wish want) × Moves plan.wants old want))
unfolding cause_of
who_moves plan old new (hears (events.Moment moment)) next = inl (refl, next.0)
who_moves plan old new (hears (events.Request request)) next = inl (refl, next.0)
who_moves plan old new (hears (events.Reply number heard)) next = inl (refl, next.1)
who_moves plan old new (hears (events.Aside (asides.Lurk count))) next = inl (refl, next.0)
who_moves plan old new (hears (events.Aside (asides.Probe backend good))) next = absurd next
who_moves plan old new (calls entry) next = inr (inr (Ask entry.call, refl, record { round = next.0; runs = next.1 }))
who_moves plan old new (fetches number backend request) next = inr (inr (Exchange number backend request, refl, record { round = next.0; runs = next.1 }))
who_moves plan old new (sends client response) next = inr (inr (Respond response, refl, record { round = next.0; runs = next.1 }))
who_moves plan old new (parks token) next = inr (inr (Await token, refl, record { round = next.0; runs = next.1 }))
who_moves plan old new wakes next = inr (inl (refl, record { one = next.0; nobody_runs = next.1; free = next.2 }))
who_moves plan old new ends next = inr (inr (Done, refl, record { round = next.0; runs = next.1 }))

-- what can't be at once
rest_wakes : (scene : Scene) → AtRest scene → CanWake scene → ⊥
rest_wakes scene rests wake = let none = rests.nobody_is_free in let some = wake.free in cc

rest_moves : (wants : Request → List Given → Want → Type 0) (scene : Scene) (want : Want) → AtRest scene → Moves wants scene want → ⊥
rest_moves wants scene want rests moves = let none = rests.nobody_runs in let turn = moves.runs.turn in cc

wake_moves : (wants : Request → List Given → Want → Type 0) (scene : Scene) (want : Want) → CanWake scene → Moves wants scene want → ⊥
wake_moves wants scene want wake moves = let none = wake.nobody_runs in let turn = moves.runs.turn in cc

module _ (plan : Plan) (one_want : HasOneWant plan.wants) where
  pub same_round : (scene : Scene) (a b : Round) (x y : Want) → Runs plan.wants scene a x → Runs plan.wants scene b y → (b ≡ a) × (y ≡ x)
  same_round scene a b x y p q =
      let turn : Some b ≡ Some a = sym q.turn ∙ p.turn in
      let same : b ≡ a = cc in
      (same, one_want a.request a.givens x y p.wanted (subst (λ (r : Round). plan.wants r.request r.givens y) same q.wanted))

  same_cause : (old a b : Scene) (m n : Move) → Next plan old m a → Next plan old n b → cause_of n ≡ cause_of m
  same_cause old a b m n p q =
      elim (who_moves plan old a m p) [
        | inl rests ↦
            elim (who_moves plan old b n q) [
              | inl too ↦ too.0 ∙ sym rests.0
              | inr (inl wake) ↦ absurd (rest_wakes old rests.1 wake.1)
              | inr (inr other) ↦ absurd (rest_moves plan.wants old other.0 rests.1 other.2)
            ]
        | inr (inl wake) ↦
            elim (who_moves plan old b n q) [
              | inl rests ↦ absurd (rest_wakes old rests.1 wake.1)
              | inr (inl too) ↦ too.0 ∙ sym wake.0
              | inr (inr other) ↦ absurd (wake_moves plan.wants old other.0 wake.1 other.2)
            ]
        | inr (inr one) ↦
            elim (who_moves plan old b n q) [
              | inl rests ↦ absurd (rest_moves plan.wants old one.0 rests.1 one.2)
              | inr (inl wake) ↦ absurd (wake_moves plan.wants old one.0 wake.1 one.2)
              | inr (inr other) ↦ other.1 ∙ (ap wish (same_round old one.2.round other.2.round one.0 other.0 one.2.runs other.2.runs).1 ∙ sym one.1)
            ]
      ]

  hears_one : (old a b : Scene) (event : Event) → Hears old event a → Hears old event b → b ≡ a
  hears_one old a b (events.Moment moment) p q = q.1 ∙ sym p.1
  hears_one old a b (events.Request request) p q = q.2 ∙ sym p.2
  hears_one old a b (events.Aside (asides.Lurk count)) p q = q.1 ∙ sym p.1
  hears_one old a b (events.Aside (asides.Probe backend good)) p q = absurd p
  hears_one old a b (events.Reply number heard) p q =
      let found : Some q.0 ≡ Some p.0 = sym q.2 ∙ p.2 in
      let same : q.0 ≡ p.0 = cc in
      let came : p.3 ≡ q.3 = heard_once p.0.to_head heard p.3 q.3 p.4 (subst (λ (one : Waiting). IsHeardAs one.to_head heard q.3) same q.4) in
      let new : Waiting → What → Scene = λ one exchange. record old { running = Some (gave one.round (Came (record { moment = old.moment; exchange = exchange }))); waiting = without_first number old.waiting } in
      q.5 ∙ (ap (λ (one : Waiting). new one q.3) same ∙ (ap (λ (exchange : What). new p.0 exchange) (sym came) ∙ sym p.5))

  -- One move is possible: which events are left, and what is entered, says which.
  module _ (Sure : List Entry → List Entry → Type 0)
      (on : (before : List Entry) (entry : Entry) (more : List Entry) → Sure before (entry ∷ more) → Sure (before ++ entry ∷ []) more)
      (one_entry : (before : List Entry) (entry other : Entry) (more others : List Entry) → Sure before (entry ∷ more) → Sure before (other ∷ others) → other.caller ≡ entry.caller → other.moment ≡ entry.moment → other.call ≡ entry.call → other ≡ entry) where
    same_move : (before : List Entry) (old a b : Scene) (m n : Move) (es fs : List Event) (xs ys : List Entry) → cause_of n ≡ cause_of m → Next plan old m a → Next plan old n b → events_of m ++ es ≡ events_of n ++ fs → Sure before (entries_of m ++ xs) → Sure before (entries_of n ++ ys) → (n ≡ m) × (b ≡ a)
    unfolding cause_of
    same_move before old a b (hears e) (hears f) es fs xs ys is p q split s t =
        let same : f ≡ e = cc in
        (ap hears same, hears_one old a b e p (subst (λ (x : Event). Hears old x b) same q))
    same_move before old a b (calls e) (calls f) es fs xs ys is p q split s t =
        let round = same_round old p.0 q.0 (Ask e.call) (Ask f.call) p.1 q.1 in
        let call : f.call ≡ e.call = cc in
        let who : f.caller ≡ e.caller = q.2 ∙ (ap (λ (r : Round). r.request.client) round.0 ∙ sym p.2) in
        let entry : f ≡ e = one_entry before e f xs ys s t who (q.3 ∙ sym p.3) call in
        (ap calls entry, q.4 ∙ (ap (λ (r : Round). record old { state = next_state plan.beginning.params old.state f; running = Some (gave r (Told f.moment f.reply)) }) round.0 ∙ (ap (λ (x : Entry). record old { state = next_state plan.beginning.params old.state x; running = Some (gave p.0 (Told x.moment x.reply)) }) entry ∙ sym p.4)))
    same_move before old a b (fetches number backend request) (fetches other name text) es fs xs ys is p q split s t =
        let round = same_round old p.0 q.0 _ _ p.1 q.1 in
        let n : other ≡ number = cc in
        let c : name ≡ backend = cc in
        let r : text ≡ request = cc in
        let waits : ℕ → Bool → Round → Scene = λ x h y. record old { running = None; waiting = old.waiting ++ record { number = x; to_head = h; round = y } ∷ [] } in
        (cc, q.2 ∙ (ap (waits other (asks_head text)) round.0 ∙ (ap (λ (x : ℕ). waits x (asks_head text) p.0) n ∙ (ap (λ (x : BackendRequest). waits number (asks_head x) p.0) r ∙ sym p.2))))
    same_move before old a b (sends client response) (sends other text) es fs xs ys is p q split s t =
        let round = same_round old p.0 q.0 _ _ p.1 q.1 in
        let c : other ≡ client = q.2 ∙ (ap (λ (x : Round). x.request.client) round.0 ∙ sym p.2) in
        let r : text ≡ response = cc in
        (cc, q.3 ∙ (ap (λ (x : Round). with_running old (gave x Sent)) round.0 ∙ sym p.3))
    same_move before old a b (parks token) (parks other) es fs xs ys is p q split s t =
        let round = same_round old p.0 q.0 _ _ p.1 q.1 in
        let n : other ≡ token = cc in
        (ap parks n, q.2 ∙ (ap (λ (x : Round). record old { running = None; parked = old.parked ++ record { token = other; round = x } ∷ [] }) round.0 ∙ (ap (λ (x : ℕ). record old { running = None; parked = old.parked ++ record { token = x; round = p.0 } ∷ [] }) n ∙ sym p.2)))
    same_move before old a b wakes wakes es fs xs ys is p q split s t =
        let found : Some q.0 ≡ Some p.0 = sym q.2 ∙ p.2 in
        let same : q.0 ≡ p.0 = cc in
        (refl, q.3 ∙ (ap (λ (one : Parked). record old { running = Some (gave one.round Closed); parked = without_free old.state old.parked }) same ∙ sym p.3))
    same_move before old a b ends ends es fs xs ys is p q split s t = (refl, q.2 ∙ sym p.2)
    same_move before old a b m n es fs xs ys is p q split s t = absurd (cc)

    cancel : (m : Move) (es fs : List Event) → events_of m ++ es ≡ events_of m ++ fs → es ≡ fs
    cancel m es fs e = append_cancel_left (events_of m) es fs e

    on_move : (before : List Entry) (m : Move) (xs : List Entry) → Sure before (entries_of m ++ xs) → Sure (before ++ entries_of m) xs
    on_move before (hears e) xs s = subst (λ (h : List Entry). Sure h xs) (sym (append-nil before)) s
    on_move before (calls e) xs s = on before e xs s
    on_move before (fetches n c r) xs s = subst (λ (h : List Entry). Sure h xs) (sym (append-nil before)) s
    on_move before (sends c r) xs s = subst (λ (h : List Entry). Sure h xs) (sym (append-nil before)) s
    on_move before (parks token) xs s = subst (λ (h : List Entry). Sure h xs) (sym (append-nil before)) s
    on_move before (wakes) xs s = subst (λ (h : List Entry). Sure h xs) (sym (append-nil before)) s
    on_move before ends xs s = subst (λ (h : List Entry). Sure h xs) (sym (append-nil before)) s

    -- Of two ways from one scene through the same events one goes on where the other ends.
    compared : (before : List Entry) (old a b : Scene) (ms ns : List Move) (es fs : List Event) → Path plan old ms a → Path plan old ns b → flat_map events_of ms ++ es ≡ flat_map events_of ns ++ fs → Sure before (flat_map entries_of ms) → Sure before (flat_map entries_of ns)
        → ((more : List Move) × (ns ≡ ms ++ more) × Path plan a more b) ⊎ ((more : List Move) × (ms ≡ ns ++ more) × Path plan b more a)
    compared before old a b [] ns es fs p q split s t = inl (ns, refl, subst (λ (x : Scene). Path plan x ns b) p q)
    compared before old a b (m ∷ ms) [] es fs p q split s t = inr (m ∷ ms, refl, subst (λ (x : Scene). Path plan x (m ∷ ms) a) q p)
    compared before old a b (m ∷ ms) (n ∷ ns) es fs p q split s t =
        let left : events_of m ++ (flat_map events_of ms ++ es) ≡ events_of n ++ (flat_map events_of ns ++ fs) = sym (append_assoc (events_of m) (flat_map events_of ms) es) ∙ (split ∙ append_assoc (events_of n) (flat_map events_of ns) fs) in
        let one = same_move before old p.0 q.0 m n _ _ _ _ (same_cause old p.0 q.0 m n p.1 q.1) p.1 q.1 left s t in
        let others = cancel m _ _ (left ∙ ap (λ (x : Move). events_of x ++ (flat_map events_of ns ++ fs)) one.0) in
        let t_on = on_move before m (flat_map entries_of ns) (subst (λ (x : Move). Sure before (entries_of x ++ flat_map entries_of ns)) one.0 t) in
        elim (compared (before ++ entries_of m) p.0 a b ms ns es fs p.2 (subst (λ (x : Scene). Path plan x ns b) one.1 q.2) others (on_move before m (flat_map entries_of ms) s) t_on) [
          | inl on_ ↦ inl (on_.0, ap (λ (x : Move). x ∷ ns) one.0 ∙ ap (λ (xs : List Move). m ∷ xs) on_.1, on_.2)
          | inr on_ ↦ inr (on_.0, ap (λ (xs : List Move). m ∷ xs) on_.1 ∙ ap (λ (x : Move). x ∷ (ns ++ on_.0)) (sym one.0), on_.2)
        ]

    sure_behind : (before : List Entry) (ms more : List Move) → Sure before (flat_map entries_of (ms ++ more)) → Sure (before ++ flat_map entries_of ms) (flat_map entries_of more)
    sure_behind before [] more s = subst (λ (h : List Entry). Sure h (flat_map entries_of more)) (sym (append-nil before)) s
    sure_behind before (m ∷ ms) more s =
        subst (λ (h : List Entry). Sure h (flat_map entries_of more)) (append_assoc before (entries_of m) (flat_map entries_of ms))
        (sure_behind (before ++ entries_of m) ms more (on_move before m (flat_map entries_of (ms ++ more)) s))

    -- No move leads on from a scene, where these events are left behind this history.
    abbrev pub IsStuck : Scene → List Event → List Entry → Type 0
    IsStuck scene left history = (move : Move) (new : Scene) (others : List Event) (more : List Entry) → Next plan scene move new → left ≡ events_of move ++ others → Sure history (entries_of move ++ more) → ⊥

    ends_there : (scene end : Scene) (left : List Event) (history : List Entry) (more : List Move) (others : List Event) → IsStuck scene left history → Path plan scene more end → left ≡ flat_map events_of more ++ others → Sure history (flat_map entries_of more) → (more ≡ []) × (end ≡ scene)
    ends_there scene end left history [] others stuck path split sure = (refl, sym path)
    ends_there scene end left history (m ∷ ms) others stuck path split sure =
        absurd (stuck m path.0 (flat_map events_of ms ++ others) (flat_map entries_of ms) path.1 (split ∙ append_assoc (events_of m) (flat_map events_of ms) others) sure)

    behind_front : (ms ns more : List Move) (es fs : List Event) → ns ≡ ms ++ more → flat_map events_of ms ++ es ≡ flat_map events_of ns ++ fs → es ≡ flat_map events_of more ++ fs
    behind_front ms ns more es fs is split =
        let reads : flat_map events_of ns ≡ flat_map events_of ms ++ flat_map events_of more = ap (λ (xs : List Move). flat_map events_of xs) is ∙ flat_map-append events_of ms more in
        append_cancel_left (flat_map events_of ms) es (flat_map events_of more ++ fs) (split ∙ (ap (λ (xs : List Event). xs ++ fs) reads ∙ append_assoc (flat_map events_of ms) (flat_map events_of more) fs))

    -- Two ways to where no move leads on are one.
    pub one_way : (old a b : Scene) (ms ns : List Move) (es fs : List Event) → Path plan old ms a → Path plan old ns b → flat_map events_of ms ++ es ≡ flat_map events_of ns ++ fs → Sure [] (flat_map entries_of ms) → Sure [] (flat_map entries_of ns) → IsStuck a es (flat_map entries_of ms) → IsStuck b fs (flat_map entries_of ns) → (ns ≡ ms) × (b ≡ a)
    one_way old a b ms ns es fs p q split s t stuck stopped =
        elim (compared [] old a b ms ns es fs p q split s t) [
          | inl on_ ↦
              let sure = sure_behind [] ms on_.0 (subst (λ (xs : List Move). Sure [] (flat_map entries_of xs)) on_.1 t) in
              let end = ends_there a b es (flat_map entries_of ms) on_.0 fs stuck on_.2 (behind_front ms ns on_.0 es fs on_.1 split) sure in
              (on_.1 ∙ (ap (λ (xs : List Move). ms ++ xs) end.0 ∙ append-nil ms), end.1)
          | inr on_ ↦
              let sure = sure_behind [] ns on_.0 (subst (λ (xs : List Move). Sure [] (flat_map entries_of xs)) on_.1 s) in
              let end = ends_there b a fs (flat_map entries_of ns) on_.0 es stopped on_.2 (behind_front ns ms on_.0 fs es on_.1 (sym split)) sure in
              (sym (on_.1 ∙ (ap (λ (xs : List Move). ns ++ xs) end.0 ∙ append-nil ns)), sym end.1)
        ]

    -- at rest, where no event is left, no move leads on
    pub stuck_at_rest : (scene : Scene) (left : List Event) (history : List Entry) → AtRest scene → left ≡ [] → IsStuck scene left history
    stuck_at_rest scene left history rests none (hears event) new others more next split sure = absurd (cc)
    stuck_at_rest scene left history rests none (calls entry) new others more next split sure = rest_moves plan.wants scene _ rests (record { round = next.0; runs = next.1 })
    stuck_at_rest scene left history rests none (fetches number backend request) new others more next split sure = rest_moves plan.wants scene _ rests (record { round = next.0; runs = next.1 })
    stuck_at_rest scene left history rests none (sends client response) new others more next split sure = rest_moves plan.wants scene _ rests (record { round = next.0; runs = next.1 })
    stuck_at_rest scene left history rests none (parks token) new others more next split sure = rest_moves plan.wants scene _ rests (record { round = next.0; runs = next.1 })
    stuck_at_rest scene left history rests none wakes new others more next split sure = rest_wakes scene rests (record { one = next.0; nobody_runs = next.1; free = next.2 })
    stuck_at_rest scene left history rests none ends new others more next split sure = rest_moves plan.wants scene _ rests (record { round = next.0; runs = next.1 })

    -- at rest no move but the hearing of the next event leads on
    pub only_hears : (scene new : Scene) (move : Move) → AtRest scene → Next plan scene move new → (event : Event) × (move ≡ hears event) × Hears scene event new
    only_hears scene new (hears event) rests next = (event, refl, next)
    only_hears scene new (calls entry) rests next = absurd (rest_moves plan.wants scene _ rests (record { round = next.0; runs = next.1 }))
    only_hears scene new (fetches number backend request) rests next = absurd (rest_moves plan.wants scene _ rests (record { round = next.0; runs = next.1 }))
    only_hears scene new (sends client response) rests next = absurd (rest_moves plan.wants scene _ rests (record { round = next.0; runs = next.1 }))
    only_hears scene new (parks token) rests next = absurd (rest_moves plan.wants scene _ rests (record { round = next.0; runs = next.1 }))
    only_hears scene new wakes rests next = absurd (rest_wakes scene rests (record { one = next.0; nobody_runs = next.1; free = next.2 }))
    only_hears scene new ends rests next = absurd (rest_moves plan.wants scene _ rests (record { round = next.0; runs = next.1 }))
