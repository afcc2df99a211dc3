-- A round has a fetch to make behind its response only once an object was delivered.
use Rattle.std.specs.Prelude.{⊤}
use Rattle.std.proofs.Common.{◌≡◌, ℕ, Bool, true, false, List, [], ◌∷◌, Option, Some, None, refl, sym, subst}
use Rattle.vcl_context.specs.declared.context.Context.{Context}
use Rattle.vcl_context.specs.declared.turn.Answer.{Answer}
use Rattle.vcl_context.specs.declared.turn.Return.{Return}
use Rattle.vcl_context.specs.declared.turn.Return.TheVariants as word
use Rattle.vcl_runs.specs.Runs.{Ran}
use Rattle.cache_law.specs.declared.call.Query.{Query}
use Rattle.cache_law.specs.declared.call.Reply.{Reply}
use Rattle.cache_law.specs.declared.call.Reply.TheVariants as reply
use Rattle.cache_law.specs.declared.rounds.Given.{Given}
use Rattle.cache_law.specs.declared.rounds.Given.TheVariants as given
use Rattle.cache_law.specs.declared.rounds.FetchOutcome.{FetchOutcome}
use Rattle.cache_law.specs.declared.rounds.FetchOutcome.TheVariants.{Delivered, Failed, Ended}
use Rattle.client_graph.specs.declared.round.Round.{Round}
use Rattle.client_graph.specs.declared.round.HeldFetch.{HeldFetch}
use Rattle.client_graph.specs.declared.round.KeyUse.TheVariants as key_use
use Rattle.client_graph.specs.declared.round.State.{State}
use Rattle.client_graph.specs.declared.round.State.TheVariants as state
use Rattle.client_graph.specs.declared.round.FetchKind.{FetchKind}
use Rattle.client_graph.specs.declared.round.WaitPoint.{WaitPoint}
use Rattle.client_graph.specs.declared.round.WaitPoint.TheVariants as point
use Rattle.client_graph.specs.declared.round.Next.{Next}
use Rattle.client_graph.specs.declared.round.Next.TheVariants.{Enter, Rest}
use Rattle.client_graph.specs.declared.round.ClientWant.{ClientWant}
use Rattle.client_graph.specs.Graph.{enter, leads, common, giving_up, round_again, round_again_if, late_restart, last_restart, may_restart}
use Rattle.client_graph.specs.Answers.{takes, after_lookup, after_purge, after_drop, after_draw, after_fetch, after_send, after_background}
use Rattle.client_task.specs.Commands.{answer_to}
use Rattle.client_task.specs.Rounds.{Node, Before, Inside, Between, Step, Runs, Moves, Evaluator, Settles, rests, enters, ends, stops, skips, goes_on, step_of, Reaches}

abbrev pub TidyIn : State → Round → Type 0
TidyIn (state.Deliver body) r = ⊤
TidyIn state.Synth r = ⊤
TidyIn s r = r.background ≡ None

abbrev pub TidyPoint : WaitPoint → Round → Type 0
TidyPoint (point.Look query c) r = r.background ≡ None
TidyPoint (point.Purge c) r = r.background ≡ None
TidyPoint (point.Drop token s c) r = TidyIn s r
TidyPoint (point.Draw c) r = r.background ≡ None
TidyPoint point r = ⊤

abbrev pub TidyNext : Next → Type 0
TidyNext (Enter s c r) = TidyIn s r
TidyNext (Rest point r) = TidyPoint point r

abbrev pub TidyStep : Step → Type 0
TidyStep (Runs s ran r) = TidyIn s r
TidyStep (Moves next) = TidyNext next

abbrev pub TidyNode : Node → Type 0
TidyNode (Before next) = TidyNext next
TidyNode (Inside asked s ran r) = TidyIn s r
TidyNode (Between point r) = TidyPoint point r

restarted-tidy : (b : Bool) (c : Context) (r : Round) → r.background ≡ None → TidyNext (round_again_if b c r)
restarted-tidy true c r h = h
restarted-tidy false c r h = tt

common-tidy : (w : Return) (c : Context) (r : Round) → r.background ≡ None → TidyNext (common w c r)
common-tidy word.Restart c r h = restarted-tidy (may_restart r) c r h
common-tidy w c r h = tt

giving-tidy : (held : Option HeldFetch) (next : Next) → TidyNext next → TidyNext (giving_up held next)
giving-tidy None next h = h
giving-tidy (Some held) (Enter s c r) h = h
giving-tidy (Some held) (Rest point r) h = h

late-tidy : (b : Bool) (c : Context) (r : Round) → TidyNext (late_restart b c r)
late-tidy true c r = giving-tidy r.background (round_again c (record r { background = None })) refl
late-tidy false c r = tt

last-tidy : (b : Bool) (c : Context) (r : Round) → TidyNext (last_restart b c r)
last-tidy true c r = giving-tidy r.background (round_again c (record r { background = None })) refl
last-tidy false c r = tt

leads-tidy : (s : State) (w : Return) (c : Context) (r : Round) → TidyIn s r → TidyNext (leads s w c r)
leads-tidy state.Recv word.Hash c r h = h
leads-tidy state.Recv word.Purge c r h = h
leads-tidy state.Recv word.Pass c r h = h
leads-tidy state.Recv w c r h = common-tidy w c r h
leads-tidy (state.Hash key_use.Lookup) word.Lookup c r h = h
leads-tidy (state.Hash key_use.Purge) word.Lookup c r h = h
leads-tidy (state.Hash key_use.Lookup) w c r h = common-tidy w c r h
leads-tidy (state.Hash key_use.Purge) w c r h = common-tidy w c r h
leads-tidy (state.Hit found) word.Deliver c r h = tt
leads-tidy (state.Hit found) word.Pass c r h = giving-tidy found.held (enter state.Pass c r) h
leads-tidy (state.Hit found) w c r h = giving-tidy found.held (common w c r) (common-tidy w c r h)
leads-tidy (state.Miss held) word.Fetch c r h = tt
leads-tidy (state.Miss held) word.Pass c r h = h
leads-tidy (state.Miss held) w c r h = giving-tidy (Some held) (common w c r) (common-tidy w c r h)
leads-tidy state.Purge w c r h = common-tidy w c r h
leads-tidy state.Pass word.Fetch c r h = h
leads-tidy state.Pass w c r h = common-tidy w c r h
leads-tidy (state.Deliver body) word.Deliver c r h = tt
leads-tidy (state.Deliver body) word.Restart c r h = late-tidy (may_restart r) c r
leads-tidy (state.Deliver body) w c r h = tt
leads-tidy state.Synth word.Deliver c r h = tt
leads-tidy state.Synth word.Restart c r h = last-tidy (may_restart r) c r
leads-tidy state.Synth w c r h = tt

looked-tidy : (query : Query) (c : Context) (m : ℕ) (x : Reply) (r : Round) → r.background ≡ None → TidyNext (after_lookup query c m x r)
looked-tidy query c m (reply.Hit view) r h = h
looked-tidy query c m (reply.Grace view token) r h = h
looked-tidy query c m (reply.Miss token stale) r h = h
looked-tidy query c m (reply.HitMiss token) r h = h
looked-tidy query c m reply.HitPass r h = h
looked-tidy query c m (reply.Wait token) r h = h
looked-tidy query c m x r h = tt

purged-tidy : (c : Context) (x : Reply) (r : Round) → r.background ≡ None → TidyNext (after_purge c x r)
purged-tidy c (reply.Purged count) r h = h
purged-tidy c x r h = tt

dropped-tidy : (s : State) (c : Context) (x : Reply) (r : Round) → TidyIn s r → TidyNext (after_drop s c x r)
dropped-tidy s c reply.Dropped r h = h
dropped-tidy s c x r h = tt

drawn-tidy : (c : Context) (m : ℕ) (x : Reply) (r : Round) → TidyNext (after_draw c m x r)
drawn-tidy c m (reply.Drawn number) r = tt
drawn-tidy c m x r = tt

fetched-tidy : (kind : FetchKind) (c : Context) (o : FetchOutcome) (r : Round) → TidyNext (after_fetch kind c o r)
fetched-tidy kind c (Delivered view m uncacheable) r = tt
fetched-tidy kind c Failed r = tt
fetched-tidy kind c Ended r = tt

sent-tidy : (c : Context) (held : Option HeldFetch) (r : Round) → TidyNext (after_send c held r)
sent-tidy c None r = tt
sent-tidy c (Some held) r = tt

behind-tidy : (o : FetchOutcome) (r : Round) → TidyNext (after_background o r)
behind-tidy (Delivered view m uncacheable) r = tt
behind-tidy Failed r = tt
behind-tidy Ended r = tt

takes-tidy : (s : WaitPoint) (g : Given) (r : Round) → TidyPoint s r → TidyNext (takes s g r)
takes-tidy (point.Look query c) (given.Reply told) r h = looked-tidy query c told.moment told.reply r h
takes-tidy (point.Purge c) (given.Reply told) r h = purged-tidy c told.reply r h
takes-tidy (point.Drop token s c) (given.Reply told) r h = dropped-tidy s c told.reply r h
takes-tidy (point.Draw c) (given.Reply told) r h = drawn-tidy c told.moment told.reply r
takes-tidy (point.Fetch kind c) (given.Fetched outcome) r h = fetched-tidy kind c outcome r
takes-tidy (point.Send c body) given.Sent r h = sent-tidy c r.background r
takes-tidy (point.Fail c) given.Sent r h = sent-tidy c r.background r
takes-tidy (point.Background held c) (given.Fetched outcome) r h = behind-tidy outcome r
takes-tidy s g r h = tt

goes-tidy : (s : State) (ran : Ran) (r : Round) (a : Option Answer) → TidyIn s r → TidyStep (goes_on s ran r a)
goes-tidy s ran r None h = tt
goes-tidy s ran r (Some a) h = h

step-tidy : (n : Node) (g : Given) → TidyNode n → TidyStep (step_of n g)
step-tidy (Before next) g h = h
step-tidy (Inside asked s ran r) (given.Reply told) h = goes-tidy s ran r (answer_to asked told.reply) h
step-tidy (Inside asked s ran r) g h = tt
step-tidy (Between s r) g h = takes-tidy s g r h

settles-tidy : (e : Evaluator) {step : Step} {n : Node} {w : ClientWant} → Settles e step n w → TidyStep step → TidyNode n
settles-tidy e (rests s r) h = h
settles-tidy e (enters p) h = settles-tidy e p h
settles-tidy e (ends {state = s} {round = r} word c t p) h = settles-tidy e p (leads-tidy s word c r h)
settles-tidy e (stops command asked call t is) h = h
settles-tidy e (skips command t mute p) h = settles-tidy e p h

pub reaches-tidy : (e : Evaluator) (opening : Next) (givens : List Given) (n : Node) → TidyNext opening → Reaches e opening givens n → TidyNode n
reaches-tidy e opening [] n h p = subst TidyNode (sym p) h
reaches-tidy e opening (g ∷ givens) n h p = settles-tidy e p.3 (step-tidy p.0 g (reaches-tidy e opening givens p.0 h p.2))
