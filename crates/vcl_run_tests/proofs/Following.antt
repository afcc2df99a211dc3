-- The answer to a turn suits the machine behind it.
use Rattle.std.proofs.Common.{pos, Option, Some, None, IfSome, Result, Ok, Err, IfOk, sym, subst}
use Rattle.vcl_context.specs.declared.turn.Answer.{Answer}
use Rattle.vcl_context.specs.declared.turn.Command.TheVariants as command
use Rattle.vcl_context.specs.declared.turn.Turn.{Turn}
use Rattle.vcl_context.specs.declared.turn.Turn.TheVariants as turn
use Rattle.vcl_eval.specs.declared.machine.Machine.{Machine}
use Rattle.vcl_eval.specs.Turns.{Suits, SuitsBehind}
use Rattle.vcl_run_tests.specs.Following.{FollowsTurned}

next-suits : {E : Type 0} (r : Result Turn E) (m : Machine) (a : Answer) → IfOk r (λ t. SuitsBehind t m) → FollowsTurned r (Some a) → Suits a m
next-suits (Ok (turn.Need (command.Ban text))) m a h e = subst (λ (x : Answer). Suits x m) (sym e) h
next-suits (Ok (turn.Need (command.Xkey keys soft))) m a h e = subst (λ (x : Answer). Suits x m) (sym e) (h (pos 7))
next-suits (Ok (turn.End word c)) m a h e = absurd e
next-suits (Err z) m a h e = absurd e

-- what is known behind a turn that there is
pub known-next : {E F : Type 0} (P : Type 0) (r : Result Turn E) (q : Result (Option Answer) F) → IfOk r (λ t. P) → IfOk q (FollowsTurned r) → IfOk q (λ next. P)
known-next P (Ok t) (Ok next) h k = h
known-next P (Ok t) (Err z) h k = tt
known-next P (Err e) (Ok next) h k = absurd k
known-next P (Err e) (Err z) h k = tt

pub next-suit : {E F : Type 0} (r : Result Turn E) (q : Result (Option Answer) F) (m : Machine) → IfOk r (λ t. SuitsBehind t m) → IfOk q (FollowsTurned r) → IfOk q (λ next. IfSome next (λ a. Suits a m))
next-suit r (Ok (Some a)) m h k = next-suits r m a h k
next-suit r (Ok None) m h k = tt
next-suit r (Err z) m h k = tt
