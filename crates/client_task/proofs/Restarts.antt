-- A round is restarted at most four times.
use Rattle.std.proofs.Common.{◌≡◌, ℕ, ◌+◌, ◌≤◌, ◌<◌, Bool, true, false, List, [], ◌∷◌, Option, Some, None, refl, sym, subst, arith}
use Rattle.std.proofs.lemmas.Bool.{ltb-true}
use Rattle.client_task.specs.Laws.{round_at, round_of}
use Rattle.vcl_context.specs.declared.context.Context.{Context}
use Rattle.vcl_context.specs.declared.turn.Answer.{Answer}
use Rattle.vcl_context.specs.declared.turn.Return.{Return}
use Rattle.vcl_context.specs.declared.turn.Return.TheVariants as word
use Rattle.vcl_runs.specs.Runs.{Ran}
use Rattle.cache_law.specs.declared.call.Query.{Query}
use Rattle.cache_law.specs.declared.call.Reply.{Reply}
use Rattle.cache_law.specs.declared.call.Reply.TheVariants as reply
use Rattle.cache_law.specs.declared.rounds.Given.{Given}
use Rattle.cache_law.specs.declared.rounds.Given.TheVariants as given
use Rattle.cache_law.specs.declared.rounds.FetchOutcome.{FetchOutcome}
use Rattle.cache_law.specs.declared.rounds.FetchOutcome.TheVariants.{Delivered, Failed, Ended}
use Rattle.client_graph.specs.declared.round.Round.{Round}
use Rattle.client_graph.specs.declared.round.HeldFetch.{HeldFetch}
use Rattle.client_graph.specs.declared.round.KeyUse.TheVariants as key_use
use Rattle.client_graph.specs.declared.round.State.{State}
use Rattle.client_graph.specs.declared.round.State.TheVariants as state
use Rattle.client_graph.specs.declared.round.FetchKind.{FetchKind}
use Rattle.client_graph.specs.declared.round.WaitPoint.{WaitPoint}
use Rattle.client_graph.specs.declared.round.WaitPoint.TheVariants as point
use Rattle.client_graph.specs.declared.round.Next.{Next}
use Rattle.client_graph.specs.declared.round.Next.TheVariants.{Enter, Rest}
use Rattle.client_graph.specs.declared.round.ClientWant.{ClientWant}
use Rattle.client_graph.specs.Graph.{enter, leads, common, giving_up, round_again, round_again_if, late_restart, last_restart, may_restart}
use Rattle.client_graph.specs.Answers.{takes, after_lookup, after_purge, after_drop, after_draw, after_fetch, after_send, after_background}
use Rattle.client_task.specs.Commands.{answer_to}
use Rattle.client_task.specs.Rounds.{Node, Before, Inside, Between, Step, Runs, Moves, Evaluator, Settles, rests, enters, ends, stops, skips, goes_on, step_of, Reaches}

abbrev pub IsFew : Round → Type 0
IsFew r = r.restarts ≤ 4

abbrev pub FewNext : Next → Type 0
FewNext next = IsFew (round_of next)

abbrev FewStep : Step → Type 0
FewStep (Runs s ran r) = IsFew r
FewStep (Moves next) = FewNext next

abbrev pub FewNode : Node → Type 0
FewNode (Before next) = FewNext next
FewNode (Inside asked s ran r) = IsFew r
FewNode (Between point r) = IsFew r

one-more : (r : Round) → may_restart r ≡ true → r.restarts + 1 ≤ 4
one-more r e = let few : r.restarts < 4 = ltb-true r.restarts 4 e in omega (arith, few)

restarted-few : (b : Bool) (c : Context) (r : Round) → may_restart r ≡ b → IsFew r → FewNext (round_again_if b c r)
restarted-few true c r e h = one-more r e
restarted-few false c r e h = h

common-few : (w : Return) (c : Context) (r : Round) → IsFew r → FewNext (common w c r)
common-few word.Restart c r h = restarted-few (may_restart r) c r refl h
common-few w c r h = h

giving-few : (held : Option HeldFetch) (next : Next) → FewNext next → FewNext (giving_up held next)
giving-few None next h = h
giving-few (Some held) (Enter s c r) h = h
giving-few (Some held) (Rest point r) h = h

late-few : (b : Bool) (c : Context) (r : Round) → may_restart r ≡ b → IsFew r → FewNext (late_restart b c r)
late-few true c r e h = giving-few r.background (round_again c (record r { background = None })) (one-more r e)
late-few false c r e h = h

last-few : (b : Bool) (c : Context) (r : Round) → may_restart r ≡ b → IsFew r → FewNext (last_restart b c r)
last-few true c r e h = giving-few r.background (round_again c (record r { background = None })) (one-more r e)
last-few false c r e h = h

leads-few : (s : State) (w : Return) (c : Context) (r : Round) → IsFew r → FewNext (leads s w c r)
leads-few state.Recv word.Hash c r h = h
leads-few state.Recv word.Purge c r h = h
leads-few state.Recv word.Pass c r h = h
leads-few state.Recv w c r h = common-few w c r h
leads-few (state.Hash key_use.Lookup) word.Lookup c r h = h
leads-few (state.Hash key_use.Purge) word.Lookup c r h = h
leads-few (state.Hash key_use.Lookup) w c r h = common-few w c r h
leads-few (state.Hash key_use.Purge) w c r h = common-few w c r h
leads-few (state.Hit found) word.Deliver c r h = h
leads-few (state.Hit found) word.Pass c r h = giving-few found.held (enter state.Pass c r) h
leads-few (state.Hit found) w c r h = giving-few found.held (common w c r) (common-few w c r h)
leads-few (state.Miss held) word.Fetch c r h = h
leads-few (state.Miss held) word.Pass c r h = h
leads-few (state.Miss held) w c r h = giving-few (Some held) (common w c r) (common-few w c r h)
leads-few state.Purge w c r h = common-few w c r h
leads-few state.Pass word.Fetch c r h = h
leads-few state.Pass w c r h = common-few w c r h
leads-few (state.Deliver body) word.Deliver c r h = h
leads-few (state.Deliver body) word.Restart c r h = late-few (may_restart r) c r refl h
leads-few (state.Deliver body) w c r h = common-few w c r h
leads-few state.Synth word.Deliver c r h = h
leads-few state.Synth word.Restart c r h = last-few (may_restart r) c r refl h
leads-few state.Synth w c r h = h

looked-few : (query : Query) (c : Context) (m : ℕ) (x : Reply) (r : Round) → IsFew r → FewNext (after_lookup query c m x r)
looked-few query c m (reply.Hit view) r h = h
looked-few query c m (reply.Grace view token) r h = h
looked-few query c m (reply.Miss token stale) r h = h
looked-few query c m (reply.HitMiss token) r h = h
looked-few query c m reply.HitPass r h = h
looked-few query c m (reply.Wait token) r h = h
looked-few query c m x r h = h

purged-few : (c : Context) (x : Reply) (r : Round) → IsFew r → FewNext (after_purge c x r)
purged-few c (reply.Purged count) r h = h
purged-few c x r h = h

dropped-few : (s : State) (c : Context) (x : Reply) (r : Round) → IsFew r → FewNext (after_drop s c x r)
dropped-few s c reply.Dropped r h = h
dropped-few s c x r h = h

drawn-few : (c : Context) (m : ℕ) (x : Reply) (r : Round) → IsFew r → FewNext (after_draw c m x r)
drawn-few c m (reply.Drawn number) r h = h
drawn-few c m x r h = h

fetched-few : (kind : FetchKind) (c : Context) (o : FetchOutcome) (r : Round) → IsFew r → FewNext (after_fetch kind c o r)
fetched-few kind c (Delivered view m uncacheable) r h = h
fetched-few kind c Failed r h = h
fetched-few kind c Ended r h = h

sent-few : (c : Context) (held : Option HeldFetch) (r : Round) → IsFew r → FewNext (after_send c held r)
sent-few c None r h = h
sent-few c (Some held) r h = h

behind-few : (o : FetchOutcome) (r : Round) → IsFew r → FewNext (after_background o r)
behind-few (Delivered view m uncacheable) r h = h
behind-few Failed r h = h
behind-few Ended r h = h

takes-few : (s : WaitPoint) (g : Given) (r : Round) → IsFew r → FewNext (takes s g r)
takes-few (point.Look query c) (given.Reply told) r h = looked-few query c told.moment told.reply r h
takes-few (point.Purge c) (given.Reply told) r h = purged-few c told.reply r h
takes-few (point.Drop token s c) (given.Reply told) r h = dropped-few s c told.reply r h
takes-few (point.Draw c) (given.Reply told) r h = drawn-few c told.moment told.reply r h
takes-few (point.Fetch kind c) (given.Fetched outcome) r h = fetched-few kind c outcome r h
takes-few (point.Send c body) given.Sent r h = sent-few c r.background r h
takes-few (point.Fail c) given.Sent r h = sent-few c r.background r h
takes-few (point.Background held c) (given.Fetched outcome) r h = behind-few outcome r h
takes-few s g r h = h

goes-few : (s : State) (ran : Ran) (r : Round) (a : Option Answer) → IsFew r → FewStep (goes_on s ran r a)
goes-few s ran r None h = h
goes-few s ran r (Some a) h = h

step-few : (n : Node) (g : Given) → FewNode n → FewStep (step_of n g)
step-few (Before next) g h = h
step-few (Inside asked s ran r) (given.Reply told) h = goes-few s ran r (answer_to asked told.reply) h
step-few (Inside asked s ran r) g h = h
step-few (Between s r) g h = takes-few s g r h

settles-few : (e : Evaluator) {step : Step} {n : Node} {w : ClientWant} → Settles e step n w → FewStep step → FewNode n
settles-few e (rests s r) h = h
settles-few e (enters p) h = settles-few e p h
settles-few e (ends {state = s} {round = r} word c t p) h = settles-few e p (leads-few s word c r h)
settles-few e (stops command asked call t is) h = h
settles-few e (skips command t mute p) h = settles-few e p h

pub reaches-few : (e : Evaluator) (opening : Next) (givens : List Given) (n : Node) → FewNext opening → Reaches e opening givens n → FewNode n
reaches-few e opening [] n h p = subst FewNode (sym p) h
reaches-few e opening (g ∷ givens) n h p = settles-few e p.3 (step-few p.0 g (reaches-few e opening givens p.0 h p.2))

pub few-at : (n : Node) → FewNode n → (round_at n).restarts ≤ 4
few-at (Before next) h = h
few-at (Inside asked s ran r) h = h
few-at (Between point r) h = h
