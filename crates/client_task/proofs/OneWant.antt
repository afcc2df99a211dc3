-- After the same givens a round stands at one place and wants one thing.
use Rattle.std.specs.Prelude.{⊤}
use Rattle.std.proofs.Common.{◌≡◌, ℕ, List, [], ◌∷◌, refl, sym, ◌∙◌, ap, subst}
use Rattle.ban_expr.proofs.Ones.{one_reading, refusal_reads}
use Rattle.ban_expr.specs.Reading.{Reads, IsRefusal}
use Rattle.cache_law.specs.declared.ban.Ban.{Ban}
use Rattle.cache_law.specs.declared.ban.Condition.{Condition}
use Rattle.cache_law.specs.declared.rounds.Given.{Given}
use Rattle.vcl_context.specs.declared.context.Context.{Context}
use Rattle.vcl_context.specs.declared.turn.Return.{Return}
use Rattle.vcl_context.specs.declared.turn.Command.{Command}
use Rattle.vcl_context.specs.declared.turn.Command.TheVariants as command
use Rattle.vcl_context.specs.declared.turn.Turn.{Turn}
use Rattle.vcl_context.specs.declared.turn.Turn.TheVariants as turn
use Rattle.vcl_runs.specs.Runs.{Ran}
use Rattle.client_graph.specs.declared.round.Round.{Round}
use Rattle.client_graph.specs.declared.round.State.{State}
use Rattle.client_graph.specs.declared.round.Next.{Next}
use Rattle.client_graph.specs.declared.round.ClientWant.{ClientWant}
use Rattle.client_graph.specs.declared.round.ClientWant.TheVariants.{Cache}
use Rattle.cache_law.specs.declared.call.Call.{Call}
use Rattle.cache_law.specs.declared.call.Call.TheVariants as call
use Rattle.client_graph.specs.Graph.{leads}
use Rattle.client_task.specs.declared.place.Asked.{Asked}
use Rattle.client_task.specs.Commands.{IsBan, IsNoBan, Asks, AsksNothing}
use Rattle.client_task.specs.Rounds.{Node, Inside, Step, Moves, Evaluator, Settles, rests, enters, ends, stops, skips, step_of, Reaches, Wants}

abbrev pub OneTurn : Evaluator → Type 0
OneTurn e = (ran : Ran) (one other : Turn) → e.turns ran one → e.turns ran other → other ≡ one

abbrev ban_with : List (List ℕ) → List Condition → Ban
ban_with words conditions = record { words = words; conditions = conditions }

-- a text says one ban
one-ban : (text : List ℕ) (a b : Ban) → IsBan text a → IsBan text b → b ≡ a
one-ban text a b p q =
    let words : b.words ≡ a.words = q.words ∙ sym p.words in
    let read : Reads a.words b.conditions = subst (λ (w : List (List ℕ)). Reads w b.conditions) words q.conditions in
    let conditions : b.conditions ≡ a.conditions = one_reading a.words b.conditions a.conditions read p.conditions in
    ap (λ (x : List (List ℕ)). ban_with x b.conditions) words ∙ ap (ban_with a.words) conditions

-- and one that says a ban isn't one that says none
ban-is-one : (text : List ℕ) (a : Ban) → IsBan text a → IsNoBan text → ⊥
ban-is-one text a p h =
    let refused : IsRefusal a.words h.0 = subst (λ (w : List (List ℕ)). IsRefusal w h.0) (sym p.words) h.2 in
    h.1 (refusal_reads a.words h.0 a.conditions refused p.conditions)

-- a command asks for one call, or for none
asks-one : (command : Command) (asked other : Asked) (call later : Call) → Asks command asked call → Asks command other later → (other ≡ asked) × (later ≡ call)
asks-one (command.Ban text) one other first later p q =
    (q.2 ∙ sym p.2, q.3 ∙ ap (λ (b : Ban). call.Ban b) (one-ban text p.0 q.0 p.1 q.1) ∙ sym p.3)
asks-one (command.Xkey keys soft) one other first later p q = (q.0 ∙ sym p.0, q.1 ∙ sym p.1)

asks-something : (command : Command) (asked : Asked) (call : Call) → Asks command asked call → AsksNothing command → ⊥
asks-something (command.Ban text) asked call p q = ban-is-one text p.0 p.1 q
asks-something (command.Xkey keys soft) asked call p q = q

-- what lies behind a turn
abbrev BehindEnd : Evaluator → State → Round → Node → ClientWant → Turn → Type 0
BehindEnd e s r n w (turn.End word context) = Settles e (Moves (leads s word context r)) n w
BehindEnd e s r n w (turn.Need command) = ⊥

abbrev IsNeed : Turn → Type 0
IsNeed (turn.Need command) = ⊤
IsNeed (turn.End word context) = ⊥

abbrev AskedBy : Asked → Call → Turn → Type 0
AskedBy asked call (turn.Need command) = Asks command asked call
AskedBy asked call (turn.End word context) = ⊥

abbrev SaysNothing : Turn → Type 0
SaysNothing (turn.Need command) = AsksNothing command
SaysNothing (turn.End word context) = ⊥

not-both : (e : Evaluator) → OneTurn e → (ran : Ran) (command : Command) (word : Return) (context : Context)
    → e.turns ran (turn.End word context) → e.turns ran (turn.Need command) → ⊥
not-both e o ran command word context p q = subst IsNeed (o ran (turn.End word context) (turn.Need command) p q) tt

pub settles-one : (e : Evaluator) → OneTurn e → {step : Step} {n m : Node} {w v : ClientWant} → Settles e step n w → Settles e step m v → (m ≡ n) × (v ≡ w)
settles-one e o (rests point round) (rests other later) = (refl, refl)
settles-one e o (enters p) (enters q) = settles-one e o p q
settles-one e o {m = m} {v = v} (ends {state = s} {ran = ran} {round = r} word context t p) (ends other later u q) =
    settles-one e o p (subst (BehindEnd e s r m v) (o ran (turn.End word context) (turn.End other later) t u) q)
settles-one e o (ends {ran = ran} word context t p) (stops command asked call u is) = absurd (not-both e o ran command word context t u)
settles-one e o (ends {ran = ran} word context t p) (skips command u mute q) = absurd (not-both e o ran command word context t u)
settles-one e o (stops {ran = ran} command asked call t is) (ends word context u q) = absurd (not-both e o ran command word context u t)
settles-one e o (stops {state = s} {ran = ran} {round = r} command asked call t is) (stops other besides later u others) =
    let said : Asks command besides later = subst (AskedBy besides later) (o ran (turn.Need command) (turn.Need other) t u) others in
    let same = asks-one command asked besides call later is said in
    (ap (λ (a : Asked). Inside a s ran r) same.0, ap (λ (c : Call). Cache c) same.1)
settles-one e o (stops {ran = ran} command asked call t is) (skips other u mute q) =
    absurd (asks-something command asked call is (subst SaysNothing (o ran (turn.Need command) (turn.Need other) t u) mute))
settles-one e o (skips {ran = ran} command t mute p) (ends word context u q) = absurd (not-both e o ran command word context u t)
settles-one e o (skips {ran = ran} command t mute p) (stops other besides later u others) =
    absurd (asks-something other besides later others (subst SaysNothing (o ran (turn.Need other) (turn.Need command) u t) mute))
settles-one e o (skips command t mute p) (skips other u none q) = settles-one e o p q

pub reaches-one : (e : Evaluator) → OneTurn e → (opening : Next) (givens : List Given) (n m : Node) → Reaches e opening givens n → Reaches e opening givens m → m ≡ n
reaches-one e o opening [] n m p q = q ∙ sym p
reaches-one e o opening (given ∷ givens) n m p q =
    let same : q.0 ≡ p.0 = reaches-one e o opening givens p.0 q.0 p.2 q.2 in
    (settles-one e o p.3 (subst (λ (x : Node). Settles e (step_of x given) m q.1) same q.3)).0

pub wants-one : (e : Evaluator) → OneTurn e → (opening : Next) (givens : List Given) (w v : ClientWant) → Wants e opening givens w → Wants e opening givens v → v ≡ w
wants-one e o opening [] w v p q = absurd p
wants-one e o opening (given ∷ givens) w v p q =
    let same : q.0 ≡ p.0 = reaches-one e o opening givens p.0 q.0 p.2 q.2 in
    (settles-one e o p.3 (subst (λ (x : Node). Settles e (step_of x given) q.1 v) same q.3)).1
