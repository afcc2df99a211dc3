-- How what settles a later step settles an earlier one.
use Rattle.std.proofs.Common.{◌≡◌, ℕ, ◌<◌, Option, Some, None, MatchOption, option_and_then, Result, Ok, Err, IfOk, refl, sym, subst}
use Rattle.cache_law.specs.declared.call.Call.{Call}
use Rattle.directors.specs.declared.target.Target.{Target}
use Rattle.vcl_context.specs.declared.context.Context.{Context}
use Rattle.vcl_context.specs.declared.turn.Answer.{Answer}
use Rattle.vcl_context.specs.declared.turn.Answer.TheVariants.{Done}
use Rattle.vcl_context.specs.declared.turn.Return.{Return}
use Rattle.vcl_context.specs.declared.turn.Command.{Command}
use Rattle.vcl_context.specs.declared.turn.Command.TheVariants as command
use Rattle.vcl_context.specs.declared.turn.Turn.{Turn}
use Rattle.vcl_context.specs.declared.turn.Turn.TheVariants as turn
use Rattle.vcl_runs.specs.Runs.{Ran, Awaits, LeavesLess, begun, answered}
use Rattle.client_graph.specs.declared.round.Round.{Round}
use Rattle.client_graph.specs.declared.round.State.{State}
use Rattle.client_graph.specs.declared.round.WaitPoint.{WaitPoint}
use Rattle.client_graph.specs.declared.round.Next.{Next}
use Rattle.client_graph.specs.declared.round.Next.TheVariants.{Enter, Rest}
use Rattle.client_graph.specs.declared.round.ClientWant.{ClientWant}
use Rattle.client_graph.specs.declared.round.ClientWant.TheVariants.{Cache}
use Rattle.client_graph.specs.Graph.{subroutine_of, leads}
use Rattle.client_graph.specs.Wants.{hint_at, asks_with}
use Rattle.client_task.specs.declared.place.Asked.{Asked}
use Rattle.client_task.specs.declared.place.Place.TheVariants as place
use Rattle.client_task.specs.declared.settling.Settled.{Settled}
use Rattle.client_task.specs.declared.settling.RunStep.{RunStep}
use Rattle.client_task.specs.declared.settling.RunStep.TheVariants.{Stops, Leads}
use Rattle.client_task.specs.Commands.{Asks, AsksNothing}
use Rattle.client_task.specs.Rounds.{Node, Inside, Between, Step, Runs, Moves, Evaluator, Settles, rests, enters, ends, stops, skips}
use Rattle.client_task.specs.Standing.{IsReady, SettlesAt, Went, Lowers, weight_of}

-- what settles the one settles the other
abbrev pub Leads-to : Evaluator → Step → Step → Type 0
Leads-to e one other = (node : Node) (want : ClientWant) → Settles e other node want → Settles e one node want

pub settled-from : {M : Type 0} (e : Evaluator) (stands : M → Ran → Type 0) (fits : M → Answer → Type 0) (one other : Step) (settled : Settled M)
    → Leads-to e one other → SettlesAt e stands fits other settled → SettlesAt e stands fits one settled
settled-from e stands fits one other settled k h = (h.0, h.1, k h.0 settled.want h.2)

pub went-from : {M : Type 0} (e : Evaluator) (stands : M → Ran → Type 0) (fits : M → Answer → Type 0) (one other : Step) (run_step : RunStep M)
    → Leads-to e one other → Went e stands fits other run_step → Went e stands fits one run_step
went-from e stands fits one other (Stops settled) k h = settled-from e stands fits one other settled k h
went-from e stands fits one other (Leads next) k h = λ node want x. k node want (h node want x)

pub entering : (e : Evaluator) (state : State) (context : Context) (round : Round)
    → Leads-to e (Moves (Enter state context round)) (Runs state (begun (subroutine_of state) context) round)
entering e state context round = λ node want x. enters x

pub rested : {M : Type 0} (e : Evaluator) (stands : M → Ran → Type 0) (fits : M → Answer → Type 0) (point : WaitPoint) (round : Round) (hint : Option Target) (want : ClientWant)
    → hint ≡ option_and_then e.target (hint_at point) → want ≡ asks_with hint round point
    → SettlesAt e stands fits (Moves (Rest point round)) (record { place = place.Between point round; want = want })
rested e stands fits point round hint want h w =
    (Between point round, (refl, refl), rw (w, h) (rests point round))

-- a run that asked is ready to be answered, and one that asked for nothing goes on
pub ready : (fits : Answer → Type 0) (command : Command) (asked : Asked) (call : Call) → Asks command asked call → Awaits fits (turn.Need command) → IsReady fits asked
ready fits (command.Ban text) asked call is f = subst (λ (a : Asked). IsReady fits a) (sym is.2) f
ready fits (command.Xkey keys soft) asked call is f = subst (λ (a : Asked). IsReady fits a) (sym is.0) f

pub may-skip : (fits : Answer → Type 0) (command : Command) → AsksNothing command → Awaits fits (turn.Need command) → fits Done
may-skip fits (command.Ban text) mute f = f
may-skip fits (command.Xkey keys soft) mute f = absurd mute

pub fits-skip : (fits : Answer → Type 0) (heard : Turn) (command : Command) → heard ≡ turn.Need command → Awaits fits heard → AsksNothing command → fits Done
fits-skip fits heard command same f mute = may-skip fits command mute (subst (λ (t : Turn). Awaits fits t) same f)

mute-less : (before after : ℕ) (command : Command) → AsksNothing command → LeavesLess before after (turn.Need command) → after < before
mute-less before after (command.Ban text) mute h = h
mute-less before after (command.Xkey keys soft) mute h = absurd mute

pub less-skip : (before after : ℕ) (heard : Turn) (command : Command) → heard ≡ turn.Need command → AsksNothing command → LeavesLess before after heard → after < before
less-skip before after heard command same mute h = mute-less before after command mute (subst (λ (t : Turn). LeavesLess before after t) same h)

pub stopping : {M : Type 0} (e : Evaluator) (stands : M → Ran → Type 0) (fits : M → Answer → Type 0) (state : State) (run : M) (ran : Ran) (round : Round)
    (heard : Turn) (command : Command) (asked : Asked) (call : Call)
    → heard ≡ turn.Need command → stands run ran → Awaits (fits run) heard → e.turns ran heard → Asks command asked call
    → SettlesAt e stands fits (Runs state ran round) (record { place = place.Inside asked state run round; want = Cache call })
stopping e stands fits state run ran round heard command asked call same s f t is =
    let awaits : Awaits (fits run) (turn.Need command) = subst (λ (u : Turn). Awaits (fits run) u) same f in
    let turned : e.turns ran (turn.Need command) = subst (λ (u : Turn). e.turns ran u) same t in
    (Inside asked state ran round, (refl, refl, refl, s, ready (fits run) command asked call is awaits), stops command asked call turned is)

pub skipping : (e : Evaluator) (state : State) (ran : Ran) (round : Round) (heard : Turn) (command : Command)
    → heard ≡ turn.Need command → e.turns ran heard → AsksNothing command
    → Leads-to e (Runs state ran round) (Runs state (answered Done ran) round)
skipping e state ran round heard command same t mute = λ node want x. skips command (subst (λ (u : Turn). e.turns ran u) same t) mute x

pub ending : (e : Evaluator) (state : State) (ran : Ran) (round : Round) (heard : Turn) (word : Return) (context : Context) (next : Next)
    → heard ≡ turn.End word context → e.turns ran heard → next ≡ leads state word context round
    → Leads-to e (Runs state ran round) (Moves next)
ending e state ran round heard word context next same t h = λ node want x.
    ends word context (subst (λ (u : Turn). e.turns ran u) same t) (subst (λ (n : Next). Settles e (Moves n) node want) h x)

-- where a run stopped, or what it leads to
pub went-stop : {M : Type 0} (e : Evaluator) (stands : M → Ran → Type 0) (fits : M → Answer → Type 0) (step : Step) (run_step : RunStep M) (settled : Settled M)
    → run_step ≡ Stops settled → SettlesAt e stands fits step settled → Went e stands fits step run_step
went-stop {M} e stands fits step run_step settled same h = subst (λ (g : RunStep M). Went e stands fits step g) (sym same) h

pub lowers-stop : {M : Type 0} (n : ℕ) (run_step : RunStep M) (settled : Settled M) → run_step ≡ Stops settled → Lowers n run_step
lowers-stop {M} n run_step settled same = subst (λ (g : RunStep M). Lowers n g) (sym same) tt

pub went-asked : {M : Type 0} (e : Evaluator) (stands : M → Ran → Type 0) (fits : M → Answer → Type 0) (step : Step) (state : State) (run : M) (ran : Ran) (round : Round)
    (heard : Turn) (command : Command) (asked : Asked) (call : Call) (run_step : RunStep M)
    → run_step ≡ Stops (record { place = place.Inside asked state run round; want = Cache call })
    → Leads-to e step (Runs state ran round)
    → heard ≡ turn.Need command → stands run ran → Awaits (fits run) heard → e.turns ran heard → Asks command asked call
    → Went e stands fits step run_step
went-asked e stands fits step state run ran round heard command asked call run_step same k need s f t is =
    went-stop e stands fits step run_step (record { place = place.Inside asked state run round; want = Cache call }) same
    (settled-from e stands fits step (Runs state ran round) (record { place = place.Inside asked state run round; want = Cache call }) k
    (stopping e stands fits state run ran round heard command asked call need s f t is))

pub stopped : {M : Type 0} (e : Evaluator) (stands : M → Ran → Type 0) (fits : M → Answer → Type 0) (step : Step) (run_step : RunStep M) (settled : Settled M)
    → run_step ≡ Stops settled → Went e stands fits step run_step → SettlesAt e stands fits step settled
stopped {M} e stands fits step run_step settled same h = subst (λ (g : RunStep M). Went e stands fits step g) same h

pub led : {M : Type 0} (e : Evaluator) (stands : M → Ran → Type 0) (fits : M → Answer → Type 0) (step : Step) (run_step : RunStep M) (next : Next)
    → run_step ≡ Leads next → Went e stands fits step run_step → Leads-to e step (Moves next)
led {M} e stands fits step run_step next same h = subst (λ (g : RunStep M). Went e stands fits step g) same h

pub led-lower : {M : Type 0} (n : ℕ) (run_step : RunStep M) (next : Next) → run_step ≡ Leads next → Lowers n run_step → weight_of next < n
led-lower {M} n run_step next same h = subst (λ (g : RunStep M). Lowers n g) same h

-- one way behind another
pub behind : (e : Evaluator) (first now : Step) (later : Next) → Leads-to e first now → Leads-to e now (Moves later) → Leads-to e first (Moves later)
behind e first now later p q = λ node want x. p node want (q node want x)

pub at-next : (e : Evaluator) (first : Step) (now other : Next) → now ≡ other → Leads-to e first (Moves now) → Leads-to e first (Moves other)
at-next e first now other same h = subst (λ (n : Next). Leads-to e first (Moves n)) same h

-- what is known of what was found
pub found-none : {X : Type 0} (A : Type 0) (B : X → Type 0) (found : Option X) → found ≡ None → MatchOption found A B → A
found-none {X} A B found same h = subst (λ (o : Option X). MatchOption o A B) same h

pub found-some : {X : Type 0} (A : Type 0) (B : X → Type 0) (found : Option X) (x : X) → found ≡ Some x → MatchOption found A B → B x
found-some {X} A B found x same h = subst (λ (o : Option X). MatchOption o A B) same h

-- a call's result, given what each result has
pub if_ok : {A E : Type 0} (P Q : A → Type 0) (result : Result A E) → ((x : A) → P x → Q x) → IfOk result P → IfOk result Q
if_ok P Q (Ok x) f h = f x h
if_ok P Q (Err error) f h = tt
