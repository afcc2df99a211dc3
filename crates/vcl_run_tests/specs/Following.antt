-- What a turn is answered by: a ban as done, each purge with the count 7, and an end by nothing more.
use Rattle.std.specs.Prelude.{◌≡◌, pos, Option, Some, None, Result, Ok, Err}
use Rattle.vcl_context.specs.declared.turn.Answer.{Answer}
use Rattle.vcl_context.specs.declared.turn.Answer.TheVariants as answer
use Rattle.vcl_context.specs.declared.turn.Command.TheVariants as command
use Rattle.vcl_context.specs.declared.turn.Turn.{Turn}
use Rattle.vcl_context.specs.declared.turn.Turn.TheVariants as turn

abbrev pub Follows : Turn → Option Answer → Type 0
Follows (turn.Need (command.Ban text)) (Some a) = a ≡ answer.Done
Follows (turn.Need (command.Xkey keys soft)) (Some a) = a ≡ answer.Number (pos 7)
Follows (turn.End word c) (Some a) = ⊥
Follows t None = Unit {0}

abbrev pub FollowsTurned : {E : Type 0} → Result Turn E → Option Answer → Type 0
FollowsTurned (Ok t) next = Follows t next
FollowsTurned (Err e) next = ⊥
