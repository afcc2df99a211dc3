-- A round holds one open fetch at most, and none where it looks a key up or ends.
use Rattle.std.specs.Prelude.{⊤}
use Rattle.std.proofs.Common.{◌≡◌, ℕ, Bool, true, false, List, [], ◌∷◌, Option, Some, None, option_map, option_and_then, refl, sym, ◌∙◌, ap, subst}
use Rattle.directors.specs.declared.target.Target.{Target}
use Rattle.vcl_context.specs.declared.turn.Command.{Command}
use Rattle.vcl_context.specs.declared.turn.Command.TheVariants.{Ban, Xkey}
use Rattle.cache_law.specs.declared.call.Call.{Call}
use Rattle.client_graph.specs.declared.round.FetchKind.TheVariants.{Store, Pass}
use Rattle.client_graph.specs.FoundObject.{confirmable}
use Rattle.client_graph.specs.Wants.{hint_at, asks_with}
use Rattle.client_task.specs.Commands.{Asks}
use Rattle.client_task.specs.Rounds.{Wants}
use Rattle.client_task.specs.Tokens.{token_told, token_given, held_token, CallsWith, WantsWith}
use Rattle.client_task.specs.declared.place.Asked.{Asked}
use Rattle.client_task.specs.declared.place.Asked.TheVariants as asked
use Rattle.vcl_context.specs.declared.context.Context.{Context}
use Rattle.vcl_context.specs.declared.turn.Return.{Return}
use Rattle.vcl_context.specs.declared.turn.Return.TheVariants as word
use Rattle.vcl_runs.specs.Runs.{Ran}
use Rattle.cache_law.specs.declared.call.Query.{Query}
use Rattle.cache_law.specs.declared.call.Reply.{Reply}
use Rattle.cache_law.specs.declared.call.Reply.TheVariants as reply
use Rattle.cache_law.specs.declared.rounds.Given.{Given}
use Rattle.cache_law.specs.declared.rounds.Given.TheVariants as given
use Rattle.cache_law.specs.declared.rounds.FetchOutcome.{FetchOutcome}
use Rattle.cache_law.specs.declared.rounds.FetchOutcome.TheVariants.{Delivered, Failed, Ended}
use Rattle.client_graph.specs.declared.round.Round.{Round}
use Rattle.client_graph.specs.declared.round.HeldFetch.{HeldFetch}
use Rattle.client_graph.specs.declared.round.KeyUse.TheVariants as key_use
use Rattle.client_graph.specs.declared.round.State.{State}
use Rattle.client_graph.specs.declared.round.State.TheVariants as state
use Rattle.client_graph.specs.declared.round.FetchKind.{FetchKind}
use Rattle.client_graph.specs.declared.round.WaitPoint.{WaitPoint}
use Rattle.client_graph.specs.declared.round.WaitPoint.TheVariants as point
use Rattle.client_graph.specs.declared.round.Next.{Next}
use Rattle.client_graph.specs.declared.round.Next.TheVariants.{Enter, Rest}
use Rattle.client_graph.specs.declared.round.ClientWant.{ClientWant}
use Rattle.client_graph.specs.Graph.{enter, leads, common, giving_up, round_again, round_again_if, late_restart, last_restart, may_restart}
use Rattle.client_graph.specs.Answers.{held_fetch, takes, after_lookup, after_purge, after_drop, after_draw, after_fetch, after_send, after_background}
use Rattle.client_task.specs.Commands.{answer_to}
use Rattle.client_task.specs.Rounds.{Node, Before, Inside, Between, Step, Runs, Moves, Evaluator, Settles, rests, enters, ends, stops, skips, goes_on, step_of, Reaches}

abbrev pub token_of : Option HeldFetch → Option ℕ
token_of held = option_map (λ (h : HeldFetch). h.token) held

-- what a round holds at a place
abbrev pub HoldsIn : State → Round → Option ℕ → Type 0
HoldsIn (state.Hit found) r t = (t ≡ token_of found.held) × (r.background ≡ None)
HoldsIn (state.Miss held) r t = (t ≡ Some held.token) × (r.background ≡ None)
HoldsIn (state.Deliver body) r t = t ≡ token_of r.background
HoldsIn state.Synth r t = t ≡ token_of r.background
HoldsIn s r t = (t ≡ None) × (r.background ≡ None)

abbrev pub HoldsAt : WaitPoint → Round → Option ℕ → Type 0
HoldsAt (point.Look query c) r t = (t ≡ None) × (r.background ≡ None)
HoldsAt (point.Purge c) r t = (t ≡ None) × (r.background ≡ None)
HoldsAt (point.Drop token s c) r t = (t ≡ Some token) × HoldsIn s r None
HoldsAt (point.Draw c) r t = (t ≡ None) × (r.background ≡ None)
HoldsAt (point.Fetch (Store held) c) r t = (t ≡ Some held.token) × (r.background ≡ None)
HoldsAt (point.Fetch (Pass number m) c) r t = (t ≡ None) × (r.background ≡ None)
HoldsAt (point.Send c body) r t = t ≡ token_of r.background
HoldsAt (point.Fail c) r t = t ≡ token_of r.background
HoldsAt (point.Background held c) r t = (t ≡ Some held.token) × (r.background ≡ None)
HoldsAt point.End r t = t ≡ None
HoldsAt point.Over r t = ⊤

abbrev pub HoldsNext : Next → Option ℕ → Type 0
HoldsNext (Enter s c r) t = HoldsIn s r t
HoldsNext (Rest point r) t = HoldsAt point r t

abbrev HoldsStep : Step → Option ℕ → Type 0
HoldsStep (Runs s ran r) t = HoldsIn s r t
HoldsStep (Moves next) t = HoldsNext next t

abbrev HoldsNode : Node → Option ℕ → Type 0
HoldsNode (Before next) t = HoldsNext next t
HoldsNode (Inside asked s ran r) t = HoldsIn s r t
HoldsNode (Between point r) t = HoldsAt point r t

-- nothing is held, and no fetch is to be made behind the response
abbrev HoldsNone : Round → Option ℕ → Type 0
HoldsNone r t = (t ≡ None) × (r.background ≡ None)

none-behind : (r : Round) (t : Option ℕ) → HoldsNone r t → t ≡ token_of r.background
none-behind r t h = h.0 ∙ sym (ap token_of h.1)

-- ---- where a word leads

restarted-holds : (b : Bool) (c : Context) (r : Round) (t : Option ℕ) → HoldsNone r t → HoldsNext (round_again_if b c r) t
restarted-holds true c r t h = h
restarted-holds false c r t h = none-behind r t h

common-holds : (w : Return) (c : Context) (r : Round) (t : Option ℕ) → HoldsNone r t → HoldsNext (common w c r) t
common-holds word.Restart c r t h = restarted-holds (may_restart r) c r t h
common-holds w c r t h = none-behind r t h

-- a subroutine is to run next
abbrev IsEntered : Next → Type 0
IsEntered (Enter s c r) = ⊤
IsEntered (Rest point r) = ⊥

restarted-enters : (b : Bool) (c : Context) (r : Round) → IsEntered (round_again_if b c r)
restarted-enters true c r = tt
restarted-enters false c r = tt

common-enters : (w : Return) (c : Context) (r : Round) → IsEntered (common w c r)
common-enters word.Restart c r = restarted-enters (may_restart r) c r
common-enters w c r = tt

-- what is held is given up before that
giving-holds : (held : Option HeldFetch) (next : Next) (t : Option ℕ) → t ≡ token_of held → IsEntered next → HoldsNext next None → HoldsNext (giving_up held next) t
giving-holds None next t e i h = subst (λ (x : Option ℕ). HoldsNext next x) (sym e) h
giving-holds (Some held) (Enter s c r) t e i h = (e, h)
giving-holds (Some held) (Rest point r) t e i h = absurd i

giving-common : (held : Option HeldFetch) (w : Return) (c : Context) (r : Round) (t : Option ℕ) → t ≡ token_of held → r.background ≡ None → HoldsNext (giving_up held (common w c r)) t
giving-common held w c r t e b = giving-holds held (common w c r) t e (common-enters w c r) (common-holds w c r None (refl, b))

again-late : (c : Context) (r : Round) (t : Option ℕ) → t ≡ token_of r.background → HoldsNext (giving_up r.background (round_again c (record r { background = None }))) t
again-late c r t e = giving-holds r.background (round_again c (record r { background = None })) t e tt (refl, refl)

late-holds : (b : Bool) (c : Context) (r : Round) (t : Option ℕ) → t ≡ token_of r.background → HoldsNext (late_restart b c r) t
late-holds true c r t e = again-late c r t e
late-holds false c r t e = e

last-holds : (b : Bool) (c : Context) (r : Round) (t : Option ℕ) → t ≡ token_of r.background → HoldsNext (last_restart b c r) t
last-holds true c r t e = again-late c r t e
last-holds false c r t e = e

leads-holds : (s : State) (w : Return) (c : Context) (r : Round) (t : Option ℕ) → HoldsIn s r t → HoldsNext (leads s w c r) t
leads-holds state.Recv word.Hash c r t h = h
leads-holds state.Recv word.Purge c r t h = h
leads-holds state.Recv word.Pass c r t h = h
leads-holds state.Recv w c r t h = common-holds w c r t h
leads-holds (state.Hash key_use.Lookup) word.Lookup c r t h = h
leads-holds (state.Hash key_use.Purge) word.Lookup c r t h = h
leads-holds (state.Hash key_use.Lookup) w c r t h = common-holds w c r t h
leads-holds (state.Hash key_use.Purge) w c r t h = common-holds w c r t h
leads-holds (state.Hit found) word.Deliver c r t h = h.0
leads-holds (state.Hit found) word.Pass c r t h = giving-holds found.held (enter state.Pass c r) t h.0 tt (refl, h.1)
leads-holds (state.Hit found) w c r t h = giving-common found.held w c r t h.0 h.1
leads-holds (state.Miss held) word.Fetch c r t h = h
leads-holds (state.Miss held) word.Pass c r t h = (h.0, (refl, h.1))
leads-holds (state.Miss held) w c r t h = giving-common (Some held) w c r t h.0 h.1
leads-holds state.Purge w c r t h = common-holds w c r t h
leads-holds state.Pass word.Fetch c r t h = h
leads-holds state.Pass w c r t h = common-holds w c r t h
leads-holds (state.Deliver body) word.Deliver c r t h = h
leads-holds (state.Deliver body) word.Restart c r t h = late-holds (may_restart r) c r t h
leads-holds (state.Deliver body) w c r t h = h
leads-holds state.Synth word.Deliver c r t h = h
leads-holds state.Synth word.Restart c r t h = last-holds (may_restart r) c r t h
leads-holds state.Synth w c r t h = h

-- ---- where an answer leads

grace-token : (token : Option ℕ) (of : ℕ → HeldFetch) → ((n : ℕ) → (of n).token ≡ n) → token ≡ token_of (option_map of token)
grace-token None of is = refl
grace-token (Some n) of is = ap Some (sym (is n))

looked-holds : (query : Query) (c : Context) (m : ℕ) (x : Reply) (r : Round) (t : Option ℕ) → HoldsNone r t → HoldsNext (after_lookup query c m x r) (token_told x t)
looked-holds query c m (reply.Hit view) r t h = h
looked-holds query c m (reply.Grace view token) r t h = (grace-token token (λ number. held_fetch number query m (confirmable view)) (λ n. refl), h.1)
looked-holds query c m (reply.Miss token stale) r t h = (refl, h.1)
looked-holds query c m (reply.HitMiss token) r t h = (refl, h.1)
looked-holds query c m reply.HitPass r t h = h
looked-holds query c m (reply.Wait token) r t h = h
looked-holds query c m x r t h = tt

purged-holds : (c : Context) (x : Reply) (r : Round) (t : Option ℕ) → HoldsNone r t → HoldsNext (after_purge c x r) (token_told x t)
purged-holds c (reply.Purged count) r t h = h
purged-holds c x r t h = tt

dropped-holds : (s : State) (c : Context) (x : Reply) (r : Round) (t : Option ℕ) → HoldsIn s r None → HoldsNext (after_drop s c x r) (token_told x t)
dropped-holds s c reply.Dropped r t h = h
dropped-holds s c x r t h = tt

drawn-holds : (c : Context) (m : ℕ) (x : Reply) (r : Round) (t : Option ℕ) → HoldsNone r t → HoldsNext (after_draw c m x r) (token_told x t)
drawn-holds c m (reply.Drawn number) r t h = h
drawn-holds c m x r t h = tt

fetched-holds : (kind : FetchKind) (c : Context) (o : FetchOutcome) (r : Round) → r.background ≡ None → HoldsNext (after_fetch kind c o r) None
fetched-holds kind c (Delivered view m uncacheable) r b = none-behind r None (refl, b)
fetched-holds kind c Failed r b = none-behind r None (refl, b)
fetched-holds kind c Ended r b = tt

no-background : (kind : FetchKind) (c : Context) (r : Round) (t : Option ℕ) → HoldsAt (point.Fetch kind c) r t → r.background ≡ None
no-background (Store held) c r t h = h.1
no-background (Pass number m) c r t h = h.1

sent-holds : (c : Context) (held : Option HeldFetch) (r : Round) (t : Option ℕ) → t ≡ token_of held → HoldsNext (after_send c held r) t
sent-holds c None r t h = h
sent-holds c (Some held) r t h = (h, refl)

behind-holds : (o : FetchOutcome) (r : Round) → HoldsNext (after_background o r) None
behind-holds (Delivered view m uncacheable) r = tt
behind-holds Failed r = tt
behind-holds Ended r = refl

takes-holds : (s : WaitPoint) (g : Given) (r : Round) (t : Option ℕ) → HoldsAt s r t → HoldsNext (takes s g r) (token_given g t)
takes-holds (point.Look query c) (given.Reply told) r t h = looked-holds query c told.moment told.reply r t h
takes-holds (point.Purge c) (given.Reply told) r t h = purged-holds c told.reply r t h
takes-holds (point.Drop token s c) (given.Reply told) r t h = dropped-holds s c told.reply r t h.1
takes-holds (point.Draw c) (given.Reply told) r t h = drawn-holds c told.moment told.reply r t h
takes-holds (point.Fetch kind c) (given.Fetched outcome) r t h = fetched-holds kind c outcome r (no-background kind c r t h)
takes-holds (point.Send c body) given.Sent r t h = sent-holds c r.background r t h
takes-holds (point.Fail c) given.Sent r t h = sent-holds c r.background r t h
takes-holds (point.Background held c) (given.Fetched outcome) r t h = behind-holds outcome r
takes-holds s g r t h = tt

answered-holds : (what : Asked) (x : Reply) (s : State) (ran : Ran) (r : Round) (t : Option ℕ) → HoldsIn s r t → HoldsStep (goes_on s ran r (answer_to what x)) (token_told x t)
answered-holds asked.Ban reply.Banned s ran r t h = h
answered-holds asked.Xkey (reply.Purged count) s ran r t h = h
answered-holds what x s ran r t h = tt

-- ---- a whole round

-- it was begun: what it is given now is an answer
abbrev IsBegun : Node → Type 0
IsBegun (Before next) = ⊥
IsBegun (Inside asked s ran r) = ⊤
IsBegun (Between point r) = ⊤

step-holds : (n : Node) (g : Given) (t : Option ℕ) → IsBegun n → HoldsNode n t → HoldsStep (step_of n g) (token_given g t)
step-holds (Before next) g t b h = absurd b
step-holds (Inside what s ran r) (given.Reply told) t b h = answered-holds what told.reply s ran r t h
step-holds (Inside what s ran r) g t b h = tt
step-holds (Between s r) g t b h = takes-holds s g r t h

settles-holds : (e : Evaluator) {step : Step} {n : Node} {w : ClientWant} (t : Option ℕ) → Settles e step n w → HoldsStep step t → HoldsNode n t
settles-holds e t (rests s r) h = h
settles-holds e t (enters p) h = settles-holds e t p h
settles-holds e t (ends {state = s} {round = r} word c turn p) h = settles-holds e t p (leads-holds s word c r t h)
settles-holds e t (stops command asked call turn is) h = h
settles-holds e t (skips command turn mute p) h = settles-holds e t p h

settles-begun : (e : Evaluator) {step : Step} {n : Node} {w : ClientWant} → Settles e step n w → IsBegun n
settles-begun e (rests s r) = tt
settles-begun e (enters p) = settles-begun e p
settles-begun e (ends word c turn p) = settles-begun e p
settles-begun e (stops command asked call turn is) = tt
settles-begun e (skips command turn mute p) = settles-begun e p

asked-holds : (hint : Option Target) (s : WaitPoint) (r : Round) (t : Option ℕ) → HoldsAt s r t → WantsWith (asks_with hint r s) t
asked-holds hint (point.Look query c) r t h = h.0
asked-holds hint (point.Purge c) r t h = tt
asked-holds hint (point.Drop token s c) r t h = h.0
asked-holds hint (point.Draw c) r t h = h.0
asked-holds hint (point.Fetch (Store held) c) r t h = h.0
asked-holds hint (point.Fetch (Pass number m) c) r t h = h.0
asked-holds hint (point.Send c body) r t h = tt
asked-holds hint (point.Fail c) r t h = tt
asked-holds hint (point.Background held c) r t h = h.0
asked-holds hint point.End r t h = h
asked-holds hint point.Over r t h = tt

command-holds : (command : Command) (what : Asked) (request : Call) (t : Option ℕ) → Asks command what request → CallsWith request t
command-holds (Ban text) what request t is = subst (λ (c : Call). CallsWith c t) (sym is.3) tt
command-holds (Xkey keys soft) what request t is = subst (λ (c : Call). CallsWith c t) (sym is.1) tt

settles-with : (e : Evaluator) {step : Step} {n : Node} {w : ClientWant} (t : Option ℕ) → Settles e step n w → HoldsStep step t → WantsWith w t
settles-with e t (rests s r) h = asked-holds (option_and_then e.target (hint_at s)) s r t h
settles-with e t (enters p) h = settles-with e t p h
settles-with e t (ends {state = s} {round = r} word c turn p) h = settles-with e t p (leads-holds s word c r t h)
settles-with e t (stops command what call turn is) h = command-holds command what call t is
settles-with e t (skips command turn mute p) h = settles-with e t p h

-- where the round stands next, once it has begun
went-holds : (e : Evaluator) (opening : Next) → HoldsNext opening None → (givens : List Given) (newest : Given) (n : Node) → Reaches e opening (newest ∷ givens) n → HoldsNode n (held_token (newest ∷ givens)) × IsBegun n
went-holds e opening h [] newest n p =
    let begins : HoldsStep (step_of p.0 newest) None = subst (λ (x : Node). HoldsStep (step_of x newest) None) (sym p.2) h in
    (settles-holds e None p.3 begins, settles-begun e p.3)
went-holds e opening h (given ∷ givens) newest n p =
    let before = went-holds e opening h givens given p.0 p.2 in
    (settles-holds e (token_given newest (held_token (given ∷ givens))) p.3 (step-holds p.0 newest (held_token (given ∷ givens)) before.1 before.0), settles-begun e p.3)

newest-with : (e : Evaluator) (opening : Next) → HoldsNext opening None → (givens : List Given) (newest : Given) (w : ClientWant) → Wants e opening (newest ∷ givens) w → WantsWith w (held_token (newest ∷ givens))
newest-with e opening h [] newest w p =
    settles-with e None p.3 (subst (λ (x : Node). HoldsStep (step_of x newest) None) (sym p.2) h)
newest-with e opening h (given ∷ givens) newest w p =
    let before = went-holds e opening h givens given p.0 p.2 in
    settles-with e (token_given newest (held_token (given ∷ givens))) p.3 (step-holds p.0 newest (held_token (given ∷ givens)) before.1 before.0)

pub wants-with : (e : Evaluator) (opening : Next) (givens : List Given) (w : ClientWant) → HoldsNext opening None → Wants e opening givens w → WantsWith w (held_token givens)
wants-with e opening [] w h p = absurd p
wants-with e opening (newest ∷ givens) w h p = newest-with e opening h givens newest w p
