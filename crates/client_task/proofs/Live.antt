-- A round whose wants are answered goes to its end.
use Rattle.std.specs.Prelude.{⊤}
use Rattle.std.proofs.Common.{◌≡◌, ℕ, Bool, true, false, List, [], ◌∷◌, Option, Some, None, option_and_then, refl, sym, subst}
use Rattle.cache_law.specs.declared.ban.Ban.{Ban}
use Rattle.cache_law.specs.declared.call.Call.{Call}
use Rattle.cache_law.specs.declared.call.Call.TheVariants as call
use Rattle.cache_law.specs.declared.call.Query.{Query}
use Rattle.cache_law.specs.declared.call.Reply.{Reply}
use Rattle.cache_law.specs.declared.call.Reply.TheVariants as reply
use Rattle.cache_law.specs.declared.rounds.FetchOutcome.TheVariants.{Delivered, Failed, Ended}
use Rattle.cache_law.specs.declared.rounds.Given.{Given}
use Rattle.cache_law.specs.declared.rounds.Given.TheVariants as given
use Rattle.directors.specs.declared.target.Target.{Target}
use Rattle.vcl_context.specs.declared.context.Context.{Context}
use Rattle.vcl_context.specs.declared.turn.Command.{Command}
use Rattle.vcl_context.specs.declared.turn.Command.TheVariants as command
use Rattle.vcl_context.specs.declared.turn.Return.{Return}
use Rattle.vcl_context.specs.declared.turn.Return.TheVariants as word
use Rattle.vcl_runs.specs.Runs.{Ran}
use Rattle.client_graph.specs.declared.round.HeldFetch.{HeldFetch}
use Rattle.client_graph.specs.declared.round.Round.{Round}
use Rattle.client_graph.specs.declared.round.State.{State}
use Rattle.client_graph.specs.declared.round.State.TheVariants as state
use Rattle.client_graph.specs.declared.round.WaitPoint.{WaitPoint}
use Rattle.client_graph.specs.declared.round.WaitPoint.TheVariants as point
use Rattle.client_graph.specs.declared.round.KeyUse.TheVariants as key_use
use Rattle.client_graph.specs.declared.round.Next.{Next}
use Rattle.client_graph.specs.declared.round.Next.TheVariants.{Enter, Rest}
use Rattle.client_graph.specs.declared.round.ClientWant.{ClientWant}
use Rattle.client_graph.specs.declared.round.ClientWant.TheVariants.{Cache, Done}
use Rattle.client_graph.specs.Graph.{enter, leads, common, giving_up, round_again, round_again_if, late_restart, last_restart, may_restart}
use Rattle.client_graph.specs.Answers.{takes, after_lookup, after_purge, after_drop, after_draw, after_send}
use Rattle.client_graph.specs.Wants.{hint_at, asks_with}
use Rattle.client_task.specs.declared.place.Asked.{Asked}
use Rattle.client_task.specs.declared.place.Asked.TheVariants as asked
use Rattle.client_task.specs.Commands.{Asks, keys_of, answer_to}
use Rattle.client_task.specs.Laws.{IsLast, IsAnswer, AnswersIt}
use Rattle.client_task.specs.Rounds.{Node, Before, Inside, Between, Step, Runs, Moves, Evaluator, Settles, rests, enters, ends, stops, skips, goes_on, step_of, Reaches, Wants}
use Rattle.client_task.proofs.OneWant.{OneTurn, reaches-one}

-- what comes next isn't that nothing more is wanted
abbrev LiveNext : Next → Type 0
LiveNext (Rest point.Over r) = ⊥
LiveNext next = ⊤

abbrev LiveStep : Step → Type 0
LiveStep (Runs s ran r) = ⊤
LiveStep (Moves next) = LiveNext next

abbrev IsDone : ClientWant → Type 0
IsDone Done = ⊤
IsDone w = ⊥

restarted-live : (b : Bool) (c : Context) (r : Round) → LiveNext (round_again_if b c r)
restarted-live true c r = tt
restarted-live false c r = tt

common-live : (w : Return) (c : Context) (r : Round) → LiveNext (common w c r)
common-live word.Restart c r = restarted-live (may_restart r) c r
common-live w c r = tt

giving-live : (held : Option HeldFetch) (next : Next) → LiveNext next → LiveNext (giving_up held next)
giving-live None next h = h
giving-live (Some held) (Enter s c r) h = tt
giving-live (Some held) (Rest s r) h = h

late-live : (b : Bool) (c : Context) (r : Round) → LiveNext (late_restart b c r)
late-live true c r = giving-live r.background (round_again c (record r { background = None })) tt
late-live false c r = tt

last-live : (b : Bool) (c : Context) (r : Round) → LiveNext (last_restart b c r)
last-live true c r = giving-live r.background (round_again c (record r { background = None })) tt
last-live false c r = tt

leads-live : (s : State) (w : Return) (c : Context) (r : Round) → LiveNext (leads s w c r)
leads-live state.Recv word.Hash c r = tt
leads-live state.Recv word.Purge c r = tt
leads-live state.Recv word.Pass c r = tt
leads-live state.Recv w c r = common-live w c r
leads-live (state.Hash key_use.Lookup) word.Lookup c r = tt
leads-live (state.Hash key_use.Purge) word.Lookup c r = tt
leads-live (state.Hash key_use.Lookup) w c r = common-live w c r
leads-live (state.Hash key_use.Purge) w c r = common-live w c r
leads-live (state.Hit found) word.Deliver c r = tt
leads-live (state.Hit found) word.Pass c r = giving-live found.held (enter state.Pass c r) tt
leads-live (state.Hit found) w c r = giving-live found.held (common w c r) (common-live w c r)
leads-live (state.Miss held) word.Fetch c r = tt
leads-live (state.Miss held) word.Pass c r = tt
leads-live (state.Miss held) w c r = giving-live (Some held) (common w c r) (common-live w c r)
leads-live state.Purge w c r = common-live w c r
leads-live state.Pass word.Fetch c r = tt
leads-live state.Pass w c r = common-live w c r
leads-live (state.Deliver body) word.Deliver c r = tt
leads-live (state.Deliver body) word.Restart c r = late-live (may_restart r) c r
leads-live (state.Deliver body) w c r = common-live w c r
leads-live state.Synth word.Deliver c r = tt
leads-live state.Synth word.Restart c r = last-live (may_restart r) c r
leads-live state.Synth w c r = tt

looked-live : (query : Query) (c : Context) (m : ℕ) (x : Reply) (r : Round) → IsAnswer (call.Lookup query) x → LiveNext (after_lookup query c m x r)
looked-live query c m (reply.Hit view) r h = tt
looked-live query c m (reply.Grace view token) r h = tt
looked-live query c m (reply.Miss token stale) r h = tt
looked-live query c m (reply.HitMiss token) r h = tt
looked-live query c m reply.HitPass r h = tt
looked-live query c m (reply.Wait token) r h = tt
looked-live query c m x r h = absurd h

purged-live : (key : List (List ℕ)) (c : Context) (x : Reply) (r : Round) → IsAnswer (call.Purge key) x → LiveNext (after_purge c x r)
purged-live key c (reply.Purged count) r h = tt
purged-live key c x r h = absurd h

dropped-live : (token : ℕ) (s : State) (c : Context) (x : Reply) (r : Round) → IsAnswer (call.Drop token) x → LiveNext (after_drop s c x r)
dropped-live token s c reply.Dropped r h = tt
dropped-live token s c x r h = absurd h

drawn-live : (c : Context) (m : ℕ) (x : Reply) (r : Round) → IsAnswer call.Draw x → LiveNext (after_draw c m x r)
drawn-live c m (reply.Drawn number) r h = tt
drawn-live c m x r h = absurd h

sent-live : (c : Context) (held : Option HeldFetch) (r : Round) → LiveNext (after_send c held r)
sent-live c None r = tt
sent-live c (Some held) r = tt

-- an answer to what is wanted at a place leads on, but for the answer to the last call
takes-live : (hint : Option Target) (s : WaitPoint) (g : Given) (r : Round) → AnswersIt (asks_with hint r s) g → (IsLast (asks_with hint r s) → ⊥) → LiveNext (takes s g r)
takes-live hint (point.Look query c) (given.Reply told) r h n = looked-live query c told.moment told.reply r h
takes-live hint (point.Look query c) g r h n = absurd h
takes-live hint (point.Purge c) (given.Reply told) r h n = purged-live c.key c told.reply r h
takes-live hint (point.Purge c) g r h n = absurd h
takes-live hint (point.Drop token s c) (given.Reply told) r h n = dropped-live token s c told.reply r h
takes-live hint (point.Drop token s c) g r h n = absurd h
takes-live hint (point.Draw c) (given.Reply told) r h n = drawn-live c told.moment told.reply r h
takes-live hint (point.Draw c) g r h n = absurd h
takes-live hint (point.Fetch kind c) (given.Fetched (Delivered view m uncacheable)) r h n = tt
takes-live hint (point.Fetch kind c) (given.Fetched Failed) r h n = tt
takes-live hint (point.Fetch kind c) g r h n = absurd h
takes-live hint (point.Send c body) given.Sent r h n = sent-live c r.background r
takes-live hint (point.Send c body) g r h n = absurd h
takes-live hint (point.Fail c) given.Sent r h n = sent-live c r.background r
takes-live hint (point.Fail c) g r h n = absurd h
takes-live hint (point.Background held c) (given.Fetched Ended) r h n = tt
takes-live hint (point.Background held c) g r h n = absurd h
takes-live hint point.End g r h n = absurd (n tt)
takes-live hint point.Over g r h n = absurd (n tt)

-- a subroutine that is answered goes on
answered-ban : (ban : Ban) (s : State) (ran : Ran) (r : Round) (x : Reply) → IsAnswer (call.Ban ban) x → LiveStep (goes_on s ran r (answer_to asked.Ban x))
answered-ban ban s ran r reply.Banned h = tt
answered-ban ban s ran r x h = absurd h

answered-purge : (keys : List (List ℕ)) (soft : Bool) (s : State) (ran : Ran) (r : Round) (x : Reply)
    → IsAnswer (call.Xkey keys soft) x → LiveStep (goes_on s ran r (answer_to asked.Xkey x))
answered-purge keys soft s ran r (reply.Purged count) h = tt
answered-purge keys soft s ran r x h = absurd h

answered-live : (command : Command) (a : Asked) (call : Call) (s : State) (ran : Ran) (r : Round) (x : Reply)
    → Asks command a call → IsAnswer call x → LiveStep (goes_on s ran r (answer_to a x))
answered-live (command.Ban text) a call s ran r x is h =
    subst (λ (one : Asked). LiveStep (goes_on s ran r (answer_to one x))) (sym is.2)
    (answered-ban is.0 s ran r x (subst (λ (c : Call). IsAnswer c x) is.3 h))
answered-live (command.Xkey keys soft) a call s ran r x is h =
    subst (λ (one : Asked). LiveStep (goes_on s ran r (answer_to one x))) (sym is.0)
    (answered-purge (keys_of keys) soft s ran r x (subst (λ (c : Call). IsAnswer c x) is.1 h))

-- what is wanted at a node
abbrev WantsAt : Evaluator → Node → ClientWant → Type 0
WantsAt e (Between s r) w = w ≡ asks_with (option_and_then e.target (hint_at s)) r s
WantsAt e (Inside a s ran r) w = (command : Command) × (call : Call) × Asks command a call × (w ≡ Cache call)
WantsAt e (Before next) w = ⊥

wants-at : (e : Evaluator) {step : Step} {n : Node} {w : ClientWant} → Settles e step n w → WantsAt e n w
wants-at e (rests s r) = refl
wants-at e (enters p) = wants-at e p
wants-at e (ends word c t p) = wants-at e p
wants-at e (stops command asked call t is) = (command, call, is, refl)
wants-at e (skips command t mute p) = wants-at e p

step-live : (e : Evaluator) (n : Node) (w : ClientWant) (g : Given) → WantsAt e n w → AnswersIt w g → (IsLast w → ⊥) → LiveStep (step_of n g)
step-live e (Between s r) w g at h n =
    takes-live (option_and_then e.target (hint_at s)) s g r (subst (λ (v : ClientWant). AnswersIt v g) at h) (λ l. n (subst IsLast (sym at) l))
step-live e (Inside a s ran r) w (given.Reply told) at h n =
    answered-live at.0 a at.1 s ran r told.reply at.2 (subst (λ (v : ClientWant). AnswersIt v (given.Reply told)) at.3 h)
step-live e (Inside a s ran r) w g at h n = absurd (subst (λ (v : ClientWant). AnswersIt v g) at.3 h)
step-live e (Before next) w g at h n = absurd at

rest-live : (hint : Option Target) (s : WaitPoint) (r : Round) → LiveNext (Rest s r) → IsDone (asks_with hint r s) → ⊥
rest-live hint (point.Look query c) r h d = d
rest-live hint (point.Purge c) r h d = d
rest-live hint (point.Drop token s c) r h d = d
rest-live hint (point.Draw c) r h d = d
rest-live hint (point.Fetch kind c) r h d = d
rest-live hint (point.Send c body) r h d = d
rest-live hint (point.Fail c) r h d = d
rest-live hint (point.Background held c) r h d = d
rest-live hint point.End r h d = d
rest-live hint point.Over r h d = h

settles-live : (e : Evaluator) {step : Step} {n : Node} {w : ClientWant} → Settles e step n w → LiveStep step → IsDone w → ⊥
settles-live e (rests s r) h d = rest-live (option_and_then e.target (hint_at s)) s r h d
settles-live e (enters p) h d = settles-live e p tt d
settles-live e (ends {state = s} {round = r} word c t p) h d = settles-live e p (leads-live s word c r) d
settles-live e (stops command asked call t is) h d = d
settles-live e (skips command t mute p) h d = settles-live e p tt d

pub goes-on-to-end : (e : Evaluator) → OneTurn e → (opening : Next) (givens : List Given) (given : Given) (want later : ClientWant)
    → (IsLast want → ⊥) → AnswersIt want given → Wants e opening givens want → Wants e opening (given ∷ givens) later → later ≡ Done → ⊥
goes-on-to-end e o opening [] given want later n h p q same = absurd p
goes-on-to-end e o opening (g ∷ givens) given want later n h p q done =
    let here : Reaches e opening (g ∷ givens) p.1 = (p.0, want, p.2, p.3) in
    let same : q.0 ≡ p.1 = reaches-one e o opening (g ∷ givens) p.1 q.0 here q.2 in
    let live : LiveStep (step_of q.0 given) =
    subst (λ (m : Node). LiveStep (step_of m given)) (sym same) (step-live e p.1 want given (wants-at e p.3) h n) in
    settles-live e q.3 live (subst IsDone (sym done) tt)
