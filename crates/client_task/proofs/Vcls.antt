-- A round stays under the VCL that it began with.
use Rattle.std.proofs.Common.{◌≡◌, ℕ, Bool, true, false, List, [], ◌∷◌, Option, Some, None, option_and_then, refl, ◌∙◌, ap, subst}
use Rattle.directors.specs.declared.target.Target.{Target}
use Rattle.vcl_context.specs.declared.context.Context.{Context}
use Rattle.vcl_context.specs.declared.turn.Answer.{Answer}
use Rattle.vcl_context.specs.declared.turn.Return.{Return}
use Rattle.vcl_context.specs.declared.turn.Return.TheVariants as word
use Rattle.vcl_runs.specs.Runs.{Ran}
use Rattle.cache_law.specs.declared.call.Query.{Query}
use Rattle.cache_law.specs.declared.call.Reply.{Reply}
use Rattle.cache_law.specs.declared.call.Reply.TheVariants as reply
use Rattle.cache_law.specs.declared.rounds.Given.{Given}
use Rattle.cache_law.specs.declared.rounds.Given.TheVariants as given
use Rattle.cache_law.specs.declared.rounds.FetchOutcome.{FetchOutcome}
use Rattle.cache_law.specs.declared.rounds.FetchOutcome.TheVariants.{Delivered, Failed, Ended}
use Rattle.client_graph.specs.declared.round.Round.{Round}
use Rattle.client_graph.specs.declared.round.HeldFetch.{HeldFetch}
use Rattle.client_graph.specs.declared.round.KeyUse.TheVariants as key_use
use Rattle.client_graph.specs.declared.round.State.{State}
use Rattle.client_graph.specs.declared.round.State.TheVariants as state
use Rattle.client_graph.specs.declared.round.FetchKind.{FetchKind}
use Rattle.client_graph.specs.declared.round.FetchKind.TheVariants.{Store, Pass}
use Rattle.client_graph.specs.declared.round.WaitPoint.{WaitPoint}
use Rattle.client_graph.specs.declared.round.WaitPoint.TheVariants as point
use Rattle.client_graph.specs.declared.round.Next.{Next}
use Rattle.client_graph.specs.declared.round.Next.TheVariants.{Enter, Rest}
use Rattle.client_graph.specs.declared.round.ClientWant.{ClientWant}
use Rattle.client_graph.specs.Graph.{enter, leads, common, giving_up, round_again, round_again_if, late_restart, last_restart, may_restart}
use Rattle.client_graph.specs.Answers.{takes, after_lookup, after_purge, after_drop, after_draw, after_fetch, after_send, after_background}
use Rattle.client_graph.specs.Wants.{hint_at, asks_with}
use Rattle.client_task.specs.Commands.{answer_to}
use Rattle.client_task.specs.Laws.{round_of, IsUnder}
use Rattle.client_task.specs.Rounds.{Node, Before, Inside, Between, Step, Runs, Moves, Evaluator, Settles, rests, enters, ends, stops, skips, goes_on, step_of, Reaches, Wants}

abbrev pub vcl_of : Next → ℕ
vcl_of next = (round_of next).vcl

abbrev pub step_vcl : Step → ℕ
step_vcl (Runs s ran r) = r.vcl
step_vcl (Moves next) = vcl_of next

abbrev pub node_vcl : Node → ℕ
node_vcl (Before next) = vcl_of next
node_vcl (Inside asked s ran r) = r.vcl
node_vcl (Between s r) = r.vcl

restarted-vcl : (b : Bool) (c : Context) (r : Round) → vcl_of (round_again_if b c r) ≡ r.vcl
restarted-vcl true c r = refl
restarted-vcl false c r = refl

common-vcl : (w : Return) (c : Context) (r : Round) → vcl_of (common w c r) ≡ r.vcl
common-vcl word.Restart c r = restarted-vcl (may_restart r) c r
common-vcl w c r = refl

giving-vcl : (held : Option HeldFetch) (next : Next) → vcl_of (giving_up held next) ≡ vcl_of next
giving-vcl None next = refl
giving-vcl (Some held) (Enter s c r) = refl
giving-vcl (Some held) (Rest s r) = refl

late-vcl : (b : Bool) (c : Context) (r : Round) → vcl_of (late_restart b c r) ≡ r.vcl
late-vcl true c r = giving-vcl r.background (round_again c (record r { background = None }))
late-vcl false c r = refl

last-vcl : (b : Bool) (c : Context) (r : Round) → vcl_of (last_restart b c r) ≡ r.vcl
last-vcl true c r = giving-vcl r.background (round_again c (record r { background = None }))
last-vcl false c r = refl

leads-vcl : (s : State) (w : Return) (c : Context) (r : Round) → vcl_of (leads s w c r) ≡ r.vcl
leads-vcl state.Recv word.Hash c r = refl
leads-vcl state.Recv word.Purge c r = refl
leads-vcl state.Recv word.Pass c r = refl
leads-vcl state.Recv w c r = common-vcl w c r
leads-vcl (state.Hash key_use.Lookup) word.Lookup c r = refl
leads-vcl (state.Hash key_use.Purge) word.Lookup c r = refl
leads-vcl (state.Hash key_use.Lookup) w c r = common-vcl w c r
leads-vcl (state.Hash key_use.Purge) w c r = common-vcl w c r
leads-vcl (state.Hit found) word.Deliver c r = refl
leads-vcl (state.Hit found) word.Pass c r = giving-vcl found.held (enter state.Pass c r)
leads-vcl (state.Hit found) w c r = giving-vcl found.held (common w c r) ∙ common-vcl w c r
leads-vcl (state.Miss held) word.Fetch c r = refl
leads-vcl (state.Miss held) word.Pass c r = refl
leads-vcl (state.Miss held) w c r = giving-vcl (Some held) (common w c r) ∙ common-vcl w c r
leads-vcl state.Purge w c r = common-vcl w c r
leads-vcl state.Pass word.Fetch c r = refl
leads-vcl state.Pass w c r = common-vcl w c r
leads-vcl (state.Deliver body) word.Deliver c r = refl
leads-vcl (state.Deliver body) word.Restart c r = late-vcl (may_restart r) c r
leads-vcl (state.Deliver body) w c r = common-vcl w c r
leads-vcl state.Synth word.Deliver c r = refl
leads-vcl state.Synth word.Restart c r = last-vcl (may_restart r) c r
leads-vcl state.Synth w c r = refl

looked-vcl : (query : Query) (c : Context) (m : ℕ) (x : Reply) (r : Round) → vcl_of (after_lookup query c m x r) ≡ r.vcl
looked-vcl query c m (reply.Hit view) r = refl
looked-vcl query c m (reply.Grace view token) r = refl
looked-vcl query c m (reply.Miss token stale) r = refl
looked-vcl query c m (reply.HitMiss token) r = refl
looked-vcl query c m reply.HitPass r = refl
looked-vcl query c m (reply.Wait token) r = refl
looked-vcl query c m x r = refl

purged-vcl : (c : Context) (x : Reply) (r : Round) → vcl_of (after_purge c x r) ≡ r.vcl
purged-vcl c (reply.Purged count) r = refl
purged-vcl c x r = refl

dropped-vcl : (s : State) (c : Context) (x : Reply) (r : Round) → vcl_of (after_drop s c x r) ≡ r.vcl
dropped-vcl s c reply.Dropped r = refl
dropped-vcl s c x r = refl

drawn-vcl : (c : Context) (m : ℕ) (x : Reply) (r : Round) → vcl_of (after_draw c m x r) ≡ r.vcl
drawn-vcl c m (reply.Drawn number) r = refl
drawn-vcl c m x r = refl

fetched-vcl : (kind : FetchKind) (c : Context) (o : FetchOutcome) (r : Round) → vcl_of (after_fetch kind c o r) ≡ r.vcl
fetched-vcl kind c (Delivered view m uncacheable) r = refl
fetched-vcl kind c Failed r = refl
fetched-vcl kind c Ended r = refl

sent-vcl : (c : Context) (held : Option HeldFetch) (r : Round) → vcl_of (after_send c held r) ≡ r.vcl
sent-vcl c None r = refl
sent-vcl c (Some held) r = refl

behind-vcl : (o : FetchOutcome) (r : Round) → vcl_of (after_background o r) ≡ r.vcl
behind-vcl (Delivered view m uncacheable) r = refl
behind-vcl Failed r = refl
behind-vcl Ended r = refl

takes-vcl : (s : WaitPoint) (g : Given) (r : Round) → vcl_of (takes s g r) ≡ r.vcl
takes-vcl (point.Look query c) (given.Reply told) r = looked-vcl query c told.moment told.reply r
takes-vcl (point.Purge c) (given.Reply told) r = purged-vcl c told.reply r
takes-vcl (point.Drop token s c) (given.Reply told) r = dropped-vcl s c told.reply r
takes-vcl (point.Draw c) (given.Reply told) r = drawn-vcl c told.moment told.reply r
takes-vcl (point.Fetch kind c) (given.Fetched outcome) r = fetched-vcl kind c outcome r
takes-vcl (point.Send c body) given.Sent r = sent-vcl c r.background r
takes-vcl (point.Fail c) given.Sent r = sent-vcl c r.background r
takes-vcl (point.Background held c) (given.Fetched outcome) r = behind-vcl outcome r
takes-vcl s g r = refl

goes-vcl : (s : State) (ran : Ran) (r : Round) (a : Option Answer) → step_vcl (goes_on s ran r a) ≡ r.vcl
goes-vcl s ran r None = refl
goes-vcl s ran r (Some a) = refl

step-vcl : (n : Node) (g : Given) → step_vcl (step_of n g) ≡ node_vcl n
step-vcl (Before next) g = refl
step-vcl (Inside asked s ran r) (given.Reply told) = goes-vcl s ran r (answer_to asked told.reply)
step-vcl (Inside asked s ran r) g = refl
step-vcl (Between s r) g = takes-vcl s g r

settles-vcl : (e : Evaluator) {step : Step} {n : Node} {w : ClientWant} → Settles e step n w → node_vcl n ≡ step_vcl step
settles-vcl e (rests s r) = refl
settles-vcl e (enters p) = settles-vcl e p
settles-vcl e (ends {state = s} {round = r} word c t p) = settles-vcl e p ∙ leads-vcl s word c r
settles-vcl e (stops command asked call t is) = refl
settles-vcl e (skips command t mute p) = settles-vcl e p

-- what is asked for is under the round's VCL
asked-under : (hint : Option Target) (s : WaitPoint) (r : Round) → IsUnder r.vcl (asks_with hint r s)
asked-under hint (point.Fetch (Store held) c) r = refl
asked-under hint (point.Fetch (Pass number m) c) r = refl
asked-under hint (point.Background held c) r = refl
asked-under hint s r = tt

settles-under : (e : Evaluator) {step : Step} {n : Node} {w : ClientWant} → Settles e step n w → IsUnder (step_vcl step) w
settles-under e (rests s r) = asked-under (option_and_then e.target (hint_at s)) s r
settles-under e (enters p) = settles-under e p
settles-under e {w = w} (ends {state = s} {round = r} word c t p) = subst (λ (v : ℕ). IsUnder v w) (leads-vcl s word c r) (settles-under e p)
settles-under e (stops command asked call t is) = tt
settles-under e (skips command t mute p) = settles-under e p

reaches-vcl : (e : Evaluator) (opening : Next) (givens : List Given) (n : Node) → Reaches e opening givens n → node_vcl n ≡ vcl_of opening
reaches-vcl e opening [] n p = ap node_vcl p
reaches-vcl e opening (g ∷ givens) n p = settles-vcl e p.3 ∙ step-vcl p.0 g ∙ reaches-vcl e opening givens p.0 p.2

pub wants-under : (e : Evaluator) (opening : Next) (givens : List Given) (w : ClientWant) → Wants e opening givens w → IsUnder (vcl_of opening) w
wants-under e opening [] w p = absurd p
wants-under e opening (g ∷ givens) w p =
    let same : step_vcl (step_of p.0 g) ≡ vcl_of opening = step-vcl p.0 g ∙ reaches-vcl e opening givens p.0 p.2 in
    subst (λ (v : ℕ). IsUnder v w) same (settles-under e p.3)
