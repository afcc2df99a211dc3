-- What a part of a run comes to, with the answers that the run is given.
use Rattle.std.specs.Prelude.{ℤ, pos, List, [], ◌∷◌, Option, Some, None}
use Rattle.vcl_context.specs.declared.turn.Answer.{Answer}
use Rattle.vcl_context.specs.declared.turn.Answer.TheVariants.{Number}
use Rattle.vcl_context.specs.declared.turn.Command.{Command}
use Rattle.vcl_context.specs.declared.turn.Return.{Return}
use Rattle.vcl_context.specs.declared.turn.Return.TheVariants.{Fail}

-- It goes on with what it gives, and with what is kept; or the run ends with a word; or it wants a command done, of which there
-- is no answer yet; or it is stuck where no sound text comes.
pub data Out (S A : Type 0) : Type 0 where
  On : A → S → Out S A
  Ends : Return → S → Out S A
  Asks : Command → Out S A
  Stuck : Out S A

-- one part and then another
abbrev pub and_then : {S A B : Type 0} → Out S A → (A → S → Out S B) → Out S B
and_then (On a s) next = next a s
and_then (Ends word s) next = Ends word s
and_then (Asks command) next = Asks command
and_then Stuck next = Stuck

-- it isn't stuck
abbrev pub IsSure : {S A : Type 0} → Out S A → Type 0
IsSure (On a s) = Unit {0}
IsSure (Ends word s) = Unit {0}
IsSure (Asks command) = Unit {0}
IsSure Stuck = ⊥

abbrev pub fail : {S A : Type 0} → S → Out S A
fail s = Ends Fail s

-- what there is; where there is nothing, the run ends
abbrev pub known_on : {S A : Type 0} → Option A → S → Out S A
known_on (Some a) s = On a s
known_on None s = fail s

-- what is made of values: nothing where no sound text comes, and `Some None` where a range or a limit is passed, which ends the run
abbrev pub made_on : {S A : Type 0} → Option (Option A) → S → Out S A
made_on (Some a) s = known_on a s
made_on None s = Stuck

-- the next answer of a command
abbrev pub ask : Command → List Answer → Out (List Answer) Answer
ask command [] = Asks command
ask command (first ∷ more) = On first more

abbrev pub number_of : Answer → ℤ
number_of (Number n) = n
number_of _ = pos 0
