-- Behind a round's end nothing is wanted.
use Rattle.std.specs.Prelude.{⊤}
use Rattle.std.proofs.Common.{◌≡◌, List, [], ◌∷◌, Option, option_and_then, refl, subst}
use Rattle.cache_law.specs.declared.call.Call.{Call}
use Rattle.cache_law.specs.declared.rounds.Given.{Given}
use Rattle.cache_law.specs.declared.rounds.Given.TheVariants as given
use Rattle.directors.specs.declared.target.Target.{Target}
use Rattle.vcl_context.specs.declared.turn.Command.{Command}
use Rattle.vcl_context.specs.declared.turn.Command.TheVariants as command
use Rattle.client_graph.specs.declared.round.Round.{Round}
use Rattle.client_graph.specs.declared.round.WaitPoint.{WaitPoint}
use Rattle.client_graph.specs.declared.round.WaitPoint.TheVariants as point
use Rattle.client_graph.specs.declared.round.Next.{Next}
use Rattle.client_graph.specs.declared.round.ClientWant.{ClientWant}
use Rattle.client_graph.specs.declared.round.ClientWant.TheVariants.{Cache, Done}
use Rattle.client_graph.specs.Answers.{takes, over}
use Rattle.client_graph.specs.Wants.{hint_at, asks_with}
use Rattle.client_task.specs.declared.place.Asked.{Asked}
use Rattle.client_task.specs.Commands.{Asks}
use Rattle.client_task.specs.Laws.{IsLast}
use Rattle.client_task.specs.Rounds.{Node, Before, Inside, Between, Step, Moves, Evaluator, Settles, rests, enters, ends, stops, skips, step_of, Reaches, Wants}
use Rattle.client_task.proofs.OneWant.{OneTurn, settles-one, reaches-one}

abbrev IsEndingPoint : WaitPoint → Type 0
IsEndingPoint point.End = ⊤
IsEndingPoint point.Over = ⊤
IsEndingPoint s = ⊥

abbrev IsEnding : Node → Type 0
IsEnding (Between s r) = IsEndingPoint s
IsEnding n = ⊥

last-point : (hint : Option Target) (s : WaitPoint) (r : Round) → IsLast (asks_with hint r s) → IsEndingPoint s
last-point hint (point.Look query c) r h = h
last-point hint (point.Purge c) r h = h
last-point hint (point.Drop token s c) r h = h
last-point hint (point.Draw c) r h = h
last-point hint (point.Fetch kind c) r h = h
last-point hint (point.Send c body) r h = h
last-point hint (point.Fail c) r h = h
last-point hint (point.Background held c) r h = h
last-point hint point.End r h = tt
last-point hint point.Over r h = tt

asked-not-last : (command : Command) (asked : Asked) (call : Call) → Asks command asked call → IsLast (Cache call) → ⊥
asked-not-last (command.Ban text) asked call is h = subst (λ (c : Call). IsLast (Cache c)) is.3 h
asked-not-last (command.Xkey keys soft) asked call is h = subst (λ (c : Call). IsLast (Cache c)) is.1 h

last-node : (e : Evaluator) {step : Step} {n : Node} {w : ClientWant} → Settles e step n w → IsLast w → IsEnding n
last-node e (rests s r) h = last-point (option_and_then e.target (hint_at s)) s r h
last-node e (enters p) h = last-node e p h
last-node e (ends word c t p) h = last-node e p h
last-node e (stops command asked call t is) h = absurd (asked-not-last command asked call is h)
last-node e (skips command t mute p) h = last-node e p h

takes-over : (s : WaitPoint) (g : Given) (r : Round) → IsEndingPoint s → takes s g r ≡ over r
takes-over point.End given.Start r h = refl
takes-over point.End (given.Reply told) r h = refl
takes-over point.End (given.Exchange got) r h = refl
takes-over point.End (given.Fetched outcome) r h = refl
takes-over point.End given.Sent r h = refl
takes-over point.Over given.Start r h = refl
takes-over point.Over (given.Reply told) r h = refl
takes-over point.Over (given.Exchange got) r h = refl
takes-over point.Over (given.Fetched outcome) r h = refl
takes-over point.Over given.Sent r h = refl
takes-over s g r h = absurd h

over-wants : (e : Evaluator) → OneTurn e → (n m : Node) (g : Given) (w : ClientWant) → IsEnding n → Settles e (step_of n g) m w → w ≡ Done
over-wants e o (Between s r) m g w h p =
    (settles-one e o (rests point.Over r) (subst (λ (next : Next). Settles e (Moves next) m w) (takes-over s g r h) p)).1
over-wants e o (Before next) m g w h p = absurd h
over-wants e o (Inside asked s ran r) m g w h p = absurd h

pub nothing-behind : (e : Evaluator) → OneTurn e → (opening : Next) (givens : List Given) (given : Given) (want later : ClientWant)
    → IsLast want → Wants e opening givens want → Wants e opening (given ∷ givens) later → later ≡ Done
nothing-behind e o opening [] given want later h p q = absurd p
nothing-behind e o opening (g ∷ givens) given want later h p q =
    let here : Reaches e opening (g ∷ givens) p.1 = (p.0, want, p.2, p.3) in
    let same : q.0 ≡ p.1 = reaches-one e o opening (g ∷ givens) p.1 q.0 here q.2 in
    over-wants e o p.1 q.1 given later (last-node e p.3 h) (subst (λ (n : Node). Settles e (step_of n given) q.1 later) same q.3)
