-- What a client may want: its own calls alone, a fetch behind another only once something else was given, one behind the response
-- only once that was sent, and no second response.
use Rattle.std.specs.Prelude.{⊤}
use Rattle.std.proofs.Common.{◌≡◌, ◌≢◌, ℕ, Bool, true, false, List, [], ◌∷◌, Option, Some, None, option_and_then, refl, sym, ◌∙◌, ap, subst}
use Rattle.cache_law.specs.declared.cache.Told.{Told}
use Rattle.cache_law.specs.declared.call.Call.{Call}
use Rattle.cache_law.specs.declared.call.Call.TheVariants as call
use Rattle.cache_law.specs.declared.call.Query.{Query}
use Rattle.cache_law.specs.declared.call.Reply.{Reply}
use Rattle.cache_law.specs.declared.call.Reply.TheVariants as reply
use Rattle.cache_law.specs.declared.rounds.FetchOutcome.{FetchOutcome}
use Rattle.cache_law.specs.declared.rounds.FetchOutcome.TheVariants.{Delivered, Failed, Ended}
use Rattle.cache_law.specs.declared.rounds.Given.{Given}
use Rattle.cache_law.specs.declared.rounds.Given.TheVariants as given
use Rattle.cache_law.specs.declared.rounds.Request.{Request}
use Rattle.directors.specs.declared.target.Target.{Target}
use Rattle.vcl_context.specs.declared.context.Context.{Context}
use Rattle.vcl_context.specs.declared.turn.Answer.{Answer}
use Rattle.vcl_context.specs.declared.turn.Command.{Command}
use Rattle.vcl_context.specs.declared.turn.Command.TheVariants as command
use Rattle.vcl_context.specs.declared.turn.Return.{Return}
use Rattle.vcl_context.specs.declared.turn.Return.TheVariants as word
use Rattle.vcl_runs.specs.Runs.{Ran}
use Rattle.client_graph.specs.declared.round.FetchKind.TheVariants.{Store, Pass}
use Rattle.client_graph.specs.declared.round.HeldFetch.{HeldFetch}
use Rattle.client_graph.specs.declared.round.Round.{Round}
use Rattle.client_graph.specs.declared.round.State.{State}
use Rattle.client_graph.specs.declared.round.State.TheVariants as state
use Rattle.client_graph.specs.declared.round.WaitPoint.{WaitPoint}
use Rattle.client_graph.specs.declared.round.WaitPoint.TheVariants as point
use Rattle.client_graph.specs.declared.round.KeyUse.TheVariants as key_use
use Rattle.client_graph.specs.declared.round.Next.{Next}
use Rattle.client_graph.specs.declared.round.Next.TheVariants.{Enter, Rest}
use Rattle.client_graph.specs.declared.round.ClientWant.{ClientWant}
use Rattle.client_graph.specs.declared.round.ClientWant.TheVariants as want
use Rattle.client_graph.specs.Graph.{enter, leads, common, giving_up, round_again, round_again_if, late_restart, last_restart, may_restart}
use Rattle.client_graph.specs.Answers.{takes, after_lookup, after_purge, after_drop, after_draw, after_send}
use Rattle.client_graph.specs.Opening.{opening}
use Rattle.client_graph.specs.Wants.{hint_at, asks_with}
use Rattle.client_task.specs.declared.place.Asked.{Asked}
use Rattle.client_task.specs.Commands.{Asks, answer_to}
use Rattle.client_task.specs.Rounds.{Node, Before, Inside, Between, Step, Runs, Moves, Evaluator, Settles, rests, enters, ends, stops, skips, goes_on, step_of, Reaches, Wants}
use Rattle.client_task.proofs.OneWant.{OneTurn, settles-one, reaches-one}

-- ---- its own calls

abbrev pub IsOwnCall : Call → Type 0
IsOwnCall call.Begin = ⊥
IsOwnCall (call.Pick vcl target word) = ⊥
IsOwnCall (call.Insert token object stale) = ⊥
IsOwnCall c = ⊤

-- and a fetch is asked for as what it is
abbrev pub IsOwn : ClientWant → Type 0
IsOwn (want.Cache c) = IsOwnCall c
IsOwn (want.Fetch order) = order.background ≡ false
IsOwn (want.Background order) = order.background ≡ true
IsOwn w = ⊤

asks-own : (hint : Option Target) (r : Round) (s : WaitPoint) → IsOwn (asks_with hint r s)
asks-own hint r (point.Fetch (Store held) c) = refl
asks-own hint r (point.Fetch (Pass number moment) c) = refl
asks-own hint r (point.Background held c) = refl
asks-own hint r s = tt

asked-own : (command : Command) (asked : Asked) (c : Call) → Asks command asked c → IsOwnCall c
asked-own (command.Ban text) asked c is = subst IsOwnCall (sym is.3) tt
asked-own (command.Xkey keys soft) asked c is = subst IsOwnCall (sym is.1) tt

settles-own : (e : Evaluator) {step : Step} {n : Node} {w : ClientWant} → Settles e step n w → IsOwn w
settles-own e (rests s r) = asks-own (option_and_then e.target (hint_at s)) r s
settles-own e (enters p) = settles-own e p
settles-own e (ends word c t p) = settles-own e p
settles-own e (stops command asked c t is) = asked-own command asked c is
settles-own e (skips command t mute p) = settles-own e p

pub wants-own : (e : Evaluator) (start : Next) (givens : List Given) (w : ClientWant) → Wants e start givens w → IsOwn w
wants-own e start [] w p = absurd p
wants-own e start (g ∷ givens) w p = settles-own e p.3

-- ---- what may come next: where a fetch may, F holds, and where the end may without a call for it, O does; one behind the response
-- may not

abbrev OkState : Type 0 → State → Type 0
OkState F (state.Miss held) = F
OkState F s = ⊤

abbrev OkPoint : Type 0 → Type 0 → WaitPoint → Type 0
OkPoint F O (point.Fetch kind c) = F
OkPoint F O (point.Background held c) = ⊥
OkPoint F O point.Over = O
OkPoint F O s = ⊤

abbrev OkNext : Type 0 → Type 0 → Next → Type 0
OkNext F O (Enter s c r) = OkState F s
OkNext F O (Rest s r) = OkPoint F O s

abbrev OkStep : Type 0 → Type 0 → Step → Type 0
OkStep F O (Runs s ran r) = OkState F s
OkStep F O (Moves next) = OkNext F O next

abbrev pub OkWant : Type 0 → Type 0 → ClientWant → Type 0
OkWant F O (want.Fetch order) = F
OkWant F O (want.Background order) = ⊥
OkWant F O want.Done = O
OkWant F O w = ⊤

ok-any : (s : State) → OkState ⊤ s
ok-any (state.Miss held) = tt
ok-any s = tt

restarted-ok : (F O : Type 0) (b : Bool) (c : Context) (r : Round) → OkNext F O (round_again_if b c r)
restarted-ok F O true c r = tt
restarted-ok F O false c r = tt

common-ok : (F O : Type 0) (w : Return) (c : Context) (r : Round) → OkNext F O (common w c r)
common-ok F O word.Restart c r = restarted-ok F O (may_restart r) c r
common-ok F O w c r = tt

giving-ok : (F O : Type 0) (held : Option HeldFetch) (next : Next) → OkNext F O next → OkNext F O (giving_up held next)
giving-ok F O None next h = h
giving-ok F O (Some held) (Enter s c r) h = tt
giving-ok F O (Some held) (Rest s r) h = h

late-ok : (F O : Type 0) (b : Bool) (c : Context) (r : Round) → OkNext F O (late_restart b c r)
late-ok F O true c r = giving-ok F O r.background (round_again c (record r { background = None })) tt
late-ok F O false c r = tt

last-ok : (F O : Type 0) (b : Bool) (c : Context) (r : Round) → OkNext F O (last_restart b c r)
last-ok F O true c r = giving-ok F O r.background (round_again c (record r { background = None })) tt
last-ok F O false c r = tt

leads-ok : (F O : Type 0) (s : State) (w : Return) (c : Context) (r : Round) → OkState F s → OkNext F O (leads s w c r)
leads-ok F O state.Recv word.Hash c r h = tt
leads-ok F O state.Recv word.Purge c r h = tt
leads-ok F O state.Recv word.Pass c r h = tt
leads-ok F O state.Recv w c r h = common-ok F O w c r
leads-ok F O (state.Hash key_use.Lookup) word.Lookup c r h = tt
leads-ok F O (state.Hash key_use.Purge) word.Lookup c r h = tt
leads-ok F O (state.Hash key_use.Lookup) w c r h = common-ok F O w c r
leads-ok F O (state.Hash key_use.Purge) w c r h = common-ok F O w c r
leads-ok F O (state.Hit found) word.Deliver c r h = tt
leads-ok F O (state.Hit found) word.Pass c r h = giving-ok F O found.held (enter state.Pass c r) tt
leads-ok F O (state.Hit found) w c r h = giving-ok F O found.held (common w c r) (common-ok F O w c r)
leads-ok F O (state.Miss held) word.Fetch c r h = h
leads-ok F O (state.Miss held) word.Pass c r h = tt
leads-ok F O (state.Miss held) w c r h = giving-ok F O (Some held) (common w c r) (common-ok F O w c r)
leads-ok F O state.Purge w c r h = common-ok F O w c r
leads-ok F O state.Pass word.Fetch c r h = tt
leads-ok F O state.Pass w c r h = common-ok F O w c r
leads-ok F O (state.Deliver body) word.Deliver c r h = tt
leads-ok F O (state.Deliver body) word.Restart c r h = late-ok F O (may_restart r) c r
leads-ok F O (state.Deliver body) w c r h = common-ok F O w c r
leads-ok F O state.Synth word.Deliver c r h = tt
leads-ok F O state.Synth word.Restart c r h = last-ok F O (may_restart r) c r
leads-ok F O state.Synth w c r h = tt

asks-ok : (F O : Type 0) (hint : Option Target) (r : Round) (s : WaitPoint) → OkPoint F O s → OkWant F O (asks_with hint r s)
asks-ok F O hint r (point.Fetch kind c) h = h
asks-ok F O hint r (point.Background held c) h = h
asks-ok F O hint r point.Over h = h
asks-ok F O hint r s h = tt

settles-ok : (F O : Type 0) (e : Evaluator) {step : Step} {n : Node} {w : ClientWant} → Settles e step n w → OkStep F O step → OkWant F O w
settles-ok F O e (rests s r) h = asks-ok F O (option_and_then e.target (hint_at s)) r s h
settles-ok F O e (enters p) h = settles-ok F O e p h
settles-ok F O e (ends {state = s} {round = r} word c t p) h = settles-ok F O e p (leads-ok F O s word c r h)
settles-ok F O e (stops command asked c t is) h = tt
settles-ok F O e (skips command t mute p) h = settles-ok F O e p h

-- at first it wants neither a fetch nor nothing
pub first-ok : (e : Evaluator) (number vcl : ℕ) (request : Request) (peer : List ℕ) (g : Given) (w : ClientWant)
    → Wants e (opening number vcl request peer) (g ∷ []) w → OkWant ⊥ ⊥ w
first-ok e number vcl request peer g w p =
    settles-ok ⊥ ⊥ e p.3 (subst (λ (n : Node). OkStep ⊥ ⊥ (step_of n g)) (sym p.2) tt)

-- behind a start nothing stands before it
abbrev IsBefore : Node → Type 0
IsBefore (Before next) = ⊤
IsBefore n = ⊥

never-before : (e : Evaluator) {step : Step} {n : Node} {w : ClientWant} → Settles e step n w → IsBefore n → ⊥
never-before e (rests s r) h = h
never-before e (enters p) h = never-before e p h
never-before e (ends word c t p) h = never-before e p h
never-before e (stops command asked c t is) h = h
never-before e (skips command t mute p) h = never-before e p h

-- a fetch's outcome leads to no other fetch at once
outcome-ok : (s : WaitPoint) (o : FetchOutcome) (r : Round) → OkNext ⊥ ⊤ (takes s (given.Fetched o) r)
outcome-ok (point.Fetch kind c) (Delivered view m uncacheable) r = tt
outcome-ok (point.Fetch kind c) Failed r = tt
outcome-ok (point.Fetch kind c) Ended r = tt
outcome-ok (point.Background held c) Ended r = tt
outcome-ok (point.Background held c) o r = tt
outcome-ok s o r = tt

back-ok : (n : Node) (o : FetchOutcome) → (IsBefore n → ⊥) → OkStep ⊥ ⊤ (step_of n (given.Fetched o))
back-ok (Before next) o h = absurd (h tt)
back-ok (Inside asked s ran r) o h = tt
back-ok (Between s r) o h = outcome-ok s o r

pub no-fetch-behind : (e : Evaluator) (start : Next) (givens : List Given) (g : Given) (o : FetchOutcome) (w : ClientWant)
    → Wants e start (given.Fetched o ∷ g ∷ givens) w → OkWant ⊥ ⊤ w
no-fetch-behind e start givens g o w p = settles-ok ⊥ ⊤ e p.3 (back-ok p.0 o (never-before e p.2.3))

-- ---- one behind the response

looked-ok : (query : Query) (c : Context) (m : ℕ) (x : Reply) (r : Round) → OkNext ⊤ ⊤ (after_lookup query c m x r)
looked-ok query c m (reply.Hit view) r = tt
looked-ok query c m (reply.Grace view token) r = tt
looked-ok query c m (reply.Miss token stale) r = tt
looked-ok query c m (reply.HitMiss token) r = tt
looked-ok query c m reply.HitPass r = tt
looked-ok query c m (reply.Wait token) r = tt
looked-ok query c m x r = tt

purged-ok : (c : Context) (x : Reply) (r : Round) → OkNext ⊤ ⊤ (after_purge c x r)
purged-ok c (reply.Purged count) r = tt
purged-ok c x r = tt

dropped-ok : (s : State) (c : Context) (x : Reply) (r : Round) → OkNext ⊤ ⊤ (after_drop s c x r)
dropped-ok s c reply.Dropped r = ok-any s
dropped-ok s c x r = tt

drawn-ok : (c : Context) (m : ℕ) (x : Reply) (r : Round) → OkNext ⊤ ⊤ (after_draw c m x r)
drawn-ok c m (reply.Drawn number) r = tt
drawn-ok c m x r = tt

-- where nothing was sent, none comes
abbrev pub IsSent : Given → Type 0
IsSent given.Sent = ⊤
IsSent g = ⊥

takes-ok : (s : WaitPoint) (g : Given) (r : Round) → (IsSent g → ⊥) → OkNext ⊤ ⊤ (takes s g r)
takes-ok (point.Look query c) (given.Reply told) r n = looked-ok query c told.moment told.reply r
takes-ok (point.Purge c) (given.Reply told) r n = purged-ok c told.reply r
takes-ok (point.Drop token s c) (given.Reply told) r n = dropped-ok s c told.reply r
takes-ok (point.Draw c) (given.Reply told) r n = drawn-ok c told.moment told.reply r
takes-ok (point.Fetch kind c) (given.Fetched (Delivered view m uncacheable)) r n = tt
takes-ok (point.Fetch kind c) (given.Fetched Failed) r n = tt
takes-ok (point.Fetch kind c) (given.Fetched Ended) r n = tt
takes-ok (point.Background held c) (given.Fetched Ended) r n = tt
takes-ok (point.Background held c) (given.Fetched o) r n = tt
takes-ok s given.Sent r n = absurd (n tt)
takes-ok s g r n = tt

goes-ok : (s : State) (ran : Ran) (r : Round) (answer : Option Answer) → OkStep ⊤ ⊤ (goes_on s ran r answer)
goes-ok s ran r (Some answer) = ok-any s
goes-ok s ran r None = tt

step-ok : (n : Node) (g : Given) → (IsSent g → ⊥) → (IsBefore n → ⊥) → OkStep ⊤ ⊤ (step_of n g)
step-ok (Before next) g n h = absurd (h tt)
step-ok (Inside asked s ran r) (given.Reply told) n h = goes-ok s ran r (answer_to asked told.reply)
step-ok (Inside asked s ran r) g n h = tt
step-ok (Between s r) g n h = takes-ok s g r n

unsent : (g : Given) → (g ≢ given.Sent) → IsSent g → ⊥
unsent given.Sent n h = n refl
unsent g n h = h

pub background-behind : (e : Evaluator) (start : Next) (givens : List Given) (x g : Given) (w : ClientWant)
    → Wants e start (g ∷ x ∷ givens) w → (g ≢ given.Sent) → OkWant ⊤ ⊤ w
background-behind e start givens x g w p n = settles-ok ⊤ ⊤ e p.3 (step-ok p.0 g (unsent g n) (never-before e p.2.3))

-- ---- once it was sent

abbrev LatePoint : WaitPoint → Type 0
LatePoint (point.Background held c) = ⊤
LatePoint point.End = ⊤
LatePoint point.Over = ⊤
LatePoint s = ⊥

abbrev LateNext : Next → Type 0
LateNext (Rest s r) = LatePoint s
LateNext (Enter s c r) = ⊥

abbrev LateStep : Step → Type 0
LateStep (Moves next) = LateNext next
LateStep (Runs s ran r) = ⊥

abbrev LateNode : Node → Type 0
LateNode (Between s r) = LatePoint s
LateNode n = ⊥

-- it has no response to send
abbrev pub IsLate : ClientWant → Type 0
IsLate (want.Background order) = ⊤
IsLate (want.Cache call.End) = ⊤
IsLate want.Done = ⊤
IsLate w = ⊥

late-asks : (hint : Option Target) (r : Round) (s : WaitPoint) → LatePoint s → IsLate (asks_with hint r s)
late-asks hint r (point.Background held c) h = tt
late-asks hint r point.End h = tt
late-asks hint r point.Over h = tt
late-asks hint r s h = absurd h

late-settles : (e : Evaluator) {step : Step} {n : Node} {w : ClientWant} → Settles e step n w → LateStep step → LateNode n × IsLate w
late-settles e (rests s r) h = (h, late-asks (option_and_then e.target (hint_at s)) r s h)
late-settles e (enters p) h = absurd h
late-settles e (ends word c t p) h = absurd h
late-settles e (stops command asked c t is) h = absurd h
late-settles e (skips command t mute p) h = absurd h

late-takes : (s : WaitPoint) (g : Given) (r : Round) → LatePoint s → LateNext (takes s g r)
late-takes (point.Background held c) (given.Fetched Ended) r h = tt
late-takes (point.Background held c) (given.Fetched Failed) r h = tt
late-takes (point.Background held c) (given.Fetched (Delivered view m uncacheable)) r h = tt
late-takes (point.Background held c) g r h = tt
late-takes point.End given.Start r h = tt
late-takes point.End (given.Reply told) r h = tt
late-takes point.End (given.Exchange got) r h = tt
late-takes point.End (given.Fetched outcome) r h = tt
late-takes point.End given.Sent r h = tt
late-takes point.Over given.Start r h = tt
late-takes point.Over (given.Reply told) r h = tt
late-takes point.Over (given.Exchange got) r h = tt
late-takes point.Over (given.Fetched outcome) r h = tt
late-takes point.Over given.Sent r h = tt
late-takes s g r h = absurd h

late-step : (n : Node) (g : Given) → LateNode n → LateStep (step_of n g)
late-step (Between s r) g h = late-takes s g r h
late-step (Before next) g h = absurd h
late-step (Inside asked s ran r) g h = absurd h

sent-late : (c : Context) (held : Option HeldFetch) (r : Round) → LateNext (after_send c held r)
sent-late c None r = tt
sent-late c (Some held) r = tt

sent-takes : (s : WaitPoint) (r : Round) → LateNext (takes s given.Sent r)
sent-takes (point.Send c body) r = sent-late c r.background r
sent-takes (point.Fail c) r = sent-late c r.background r
sent-takes s r = tt

sent-step : (n : Node) → (IsBefore n → ⊥) → LateStep (step_of n given.Sent)
sent-step (Before next) h = absurd (h tt)
sent-step (Inside asked s ran r) h = tt
sent-step (Between s r) h = sent-takes s r

-- the first given is the start
abbrev IsStart : Given → Type 0
IsStart given.Start = ⊤
IsStart g = ⊥

abbrev pub FromStart : List Given → Type 0
FromStart [] = ⊥
FromStart (g ∷ []) = IsStart g
FromStart (g ∷ h ∷ givens) = FromStart (h ∷ givens)

-- the response was sent
abbrev pub WasSent : List Given → Type 0
WasSent [] = ⊥
WasSent (given.Sent ∷ givens) = ⊤
WasSent (g ∷ givens) = WasSent givens

late-reaches : (e : Evaluator) (start : Next) (givens : List Given) (n : Node) → FromStart givens → WasSent givens → Reaches e start givens n → LateNode n
late-reaches e start [] n f s p = absurd s
late-reaches e start (given.Sent ∷ []) n f s p = absurd f
late-reaches e start (g ∷ []) n f s p = absurd s
late-reaches e start (given.Sent ∷ h ∷ givens) n f s p = (late-settles e p.3 (sent-step p.0 (never-before e p.2.3))).0
late-reaches e start (g ∷ h ∷ givens) n f s p = (late-settles e p.3 (late-step p.0 g (late-reaches e start (h ∷ givens) p.0 f s p.2))).0

pub late-wants : (e : Evaluator) (start : Next) (givens : List Given) (w : ClientWant) → FromStart givens → WasSent givens → Wants e start givens w → IsLate w
late-wants e start [] w f s p = absurd s
late-wants e start (given.Sent ∷ []) w f s p = absurd f
late-wants e start (g ∷ []) w f s p = absurd s
late-wants e start (given.Sent ∷ h ∷ givens) w f s p = (late-settles e p.3 (sent-step p.0 (never-before e p.2.3))).1
late-wants e start (g ∷ h ∷ givens) w f s p = (late-settles e p.3 (late-step p.0 g (late-reaches e start (h ∷ givens) p.0 f s p.2))).1

-- ---- a lookup that is told to wait is made again

lookup-same : {x y : Query} → want.Cache (call.Lookup x) ≡ want.Cache (call.Lookup y) → x ≡ y
lookup-same h = cc

abbrev IsLookup : ClientWant → Type 0
IsLookup (want.Cache (call.Lookup query)) = ⊤
IsLookup w = ⊥

abbrev LooksAt : Node → Query → Type 0
LooksAt (Between (point.Look query c) r) other = query ≡ other
LooksAt n other = ⊥

asks-looks : (hint : Option Target) (s : WaitPoint) (r : Round) (query : Query) → asks_with hint r s ≡ want.Cache (call.Lookup query) → LooksAt (Between s r) query
asks-looks hint (point.Look other c) r query h = lookup-same h
asks-looks hint (point.Purge c) r query h = subst IsLookup (sym h) tt
asks-looks hint (point.Drop token s c) r query h = subst IsLookup (sym h) tt
asks-looks hint (point.Draw c) r query h = subst IsLookup (sym h) tt
asks-looks hint (point.Fetch kind c) r query h = subst IsLookup (sym h) tt
asks-looks hint (point.Send c body) r query h = subst IsLookup (sym h) tt
asks-looks hint (point.Fail c) r query h = subst IsLookup (sym h) tt
asks-looks hint (point.Background held c) r query h = subst IsLookup (sym h) tt
asks-looks hint point.End r query h = subst IsLookup (sym h) tt
asks-looks hint point.Over r query h = subst IsLookup (sym h) tt

asked-not-lookup : (command : Command) (asked : Asked) (c : Call) → Asks command asked c → IsLookup (want.Cache c) → ⊥
asked-not-lookup (command.Ban text) asked c is h = subst (λ (x : Call). IsLookup (want.Cache x)) is.3 h
asked-not-lookup (command.Xkey keys soft) asked c is h = subst (λ (x : Call). IsLookup (want.Cache x)) is.1 h

settles-looks : (e : Evaluator) {step : Step} {n : Node} {w : ClientWant} (query : Query) → Settles e step n w → w ≡ want.Cache (call.Lookup query) → LooksAt n query
settles-looks e query (rests s r) h = asks-looks (option_and_then e.target (hint_at s)) s r query h
settles-looks e query (enters p) h = settles-looks e query p h
settles-looks e query (ends word c t p) h = settles-looks e query p h
settles-looks e query (stops command asked c t is) h = absurd (asked-not-lookup command asked c is (subst IsLookup (sym h) tt))
settles-looks e query (skips command t mute p) h = settles-looks e query p h

looked-again : (e : Evaluator) → OneTurn e → (n m : Node) (told : Told) (token : ℕ) (query : Query) (later : ClientWant)
    → LooksAt n query → told.reply ≡ reply.Wait token → Settles e (step_of n (given.Reply told)) m later → later ≡ want.Cache (call.Lookup query)
looked-again e o (Between (point.Look other c) r) m told token query later at wait p =
    let goes : after_lookup other c told.moment told.reply r ≡ Rest (point.Look other c) r = ap (λ (x : Reply). after_lookup other c told.moment x r) wait in
    (settles-one e o (rests (point.Look other c) r) (subst (λ (next : Next). Settles e (Moves next) m later) goes p)).1
    ∙ ap (λ (q : Query). want.Cache (call.Lookup q)) at
looked-again e o n m told token query later at wait p = absurd at

pub looks-again : (e : Evaluator) → OneTurn e → (start : Next) (givens : List Given) (told : Told) (token : ℕ) (query : Query) (later : ClientWant)
    → told.reply ≡ reply.Wait token → Wants e start givens (want.Cache (call.Lookup query)) → Wants e start (given.Reply told ∷ givens) later → later ≡ want.Cache (call.Lookup query)
looks-again e o start [] told token query later wait p q = absurd p
looks-again e o start (g ∷ givens) told token query later wait p q =
    let here : Reaches e start (g ∷ givens) p.1 = (p.0, want.Cache (call.Lookup query), p.2, p.3) in
    let same : q.0 ≡ p.1 = reaches-one e o start (g ∷ givens) p.1 q.0 here q.2 in
    looked-again e o p.1 q.1 told token query later (settles-looks e query p.3 refl) wait
    (subst (λ (n : Node). Settles e (step_of n (given.Reply told)) q.1 later) same q.3)
