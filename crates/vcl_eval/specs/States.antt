-- What a run of statements is at: the values of variables, how many statements were run, and the answers that are still to come.
use Rattle.std.specs.Prelude.{ℕ, ◌+◌, nat_lt, List, Option, Some, None, if◌then◌else◌}
use Rattle.vcl_values.specs.declared.value.Value.{Value}
use Rattle.vcl_context.specs.declared.context.Context.{Context}
use Rattle.vcl_context.specs.declared.turn.Answer.{Answer}
use Rattle.vcl_context.specs.declared.turn.Command.TheVariants.{Ban}
use Rattle.vcl_context.specs.declared.turn.Return.{Return}
use Rattle.vcl_operands.specs.Outs.{Out, On, Ends, Asks, Stuck, and_then, fail, known_on, ask}
use Rattle.vcl_operands.specs.Values.{as_text}

pub record State : Type 0 where
  pub context : Context
  pub statements : ℕ
  pub answers : List Answer

abbrev pub state : Context → ℕ → List Answer → State
state context statements answers = record { context = context; statements = statements; answers = answers }

-- what a statement does
abbrev pub Doing : Type 0
Doing = State → Out State (Unit {0})

-- what an expression comes to, in a state
abbrev pub in_state : {A : Type 0} → State → Out (List Answer) A → Out State A
in_state s (On a answers) = On a (record s { answers = answers })
in_state s (Ends word answers) = Ends word (record s { answers = answers })
in_state s (Asks command) = Asks command
in_state s Stuck = Stuck

abbrev pub nothing : Doing
nothing s = On tt s

-- the context that is due, or the end where it is refused
abbrev pub set_on : Option Context → Doing
set_on (Some c) s = On tt (record s { context = c })
set_on None s = fail s

-- the same where there is a context or a refusal in a sound text alone
abbrev pub set_due : Option (Option Context) → Doing
set_due (Some due) s = set_on due s
set_due None s = Stuck

-- the most statements of a run: each is counted before it runs, and the next one ends the run
abbrev pub most_statements : ℕ
most_statements = 100000

abbrev pub counted : Doing → Doing
counted next s = if nat_lt s.statements most_statements then next (record s { statements = s.statements + 1 }) else fail s

-- the end with a word
abbrev pub ends_on : Option Return → Doing
ends_on (Some word) s = Ends word s
ends_on None s = fail s

abbrev pub ends_due : Option (Option Return) → Doing
ends_due (Some word) s = ends_on word s
ends_due None s = Stuck

-- any text is asked to be banned; whoever answers knows whether it is a ban
abbrev pub banned : Value → Doing
banned v s = and_then (known_on (as_text v) s) (λ text s. and_then (in_state s (ask (Ban text) s.answers)) (λ answer. nothing))
