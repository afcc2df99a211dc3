-- The console in a session: what a line of it leads to, and how it is answered.
use Rattle.std.specs.Prelude.{◌≡◌, ◌⊎◌, ℕ, List, Option, Some, None, if◌then◌else◌}
use Rattle.vmod_host.specs.declared.signature.Stored.{Stored}
use Rattle.cache_law.specs.declared.call.Reply.{Reply}
use Rattle.cli_console.specs.declared.command.Command.TheVariants as command
use Rattle.cli_console.specs.declared.message.Message.{Message}
use Rattle.cli_console.specs.declared.message.Message.TheVariants as message
use Rattle.cli_console.specs.Answers.{is_console, message_to, name_in}
use Rattle.cli_console.specs.Lines.{IsCommand, IsWrong, IsNotLoaded}
use Rattle.cli_console.specs.Messages.{answer_text, said}
use Rattle.replay.specs.declared.console.Instruction.{Instruction}
use Rattle.replay.specs.declared.console.Instruction.TheVariants as instruction
use Rattle.replay.specs.declared.policy.Given.{Given}
use Rattle.replay.specs.declared.policy.Given.TheVariants.{Start, Told, Came, Sent, Closed}
use Rattle.replay.specs.declared.policy.Want.{Want}
use Rattle.replay.specs.declared.policy.Want.TheVariants.{Ask, Respond, Done}

-- why a line makes no call: it says nothing, or it is to load a file, and a session has no files
abbrev pub IsInVain : List Stored → List ℕ → Message → Type 0
IsInVain stored line m =
    IsWrong stored line m
    ⊎ ((name : List ℕ) × (file : List ℕ) × IsCommand stored line (command.Load name file) × IsNotLoaded stored file None m)

-- the answer to a line that makes no call and isn't `ping`
abbrev pub IsAnswerTo : List Stored → List ℕ → List ℕ → Type 0
IsAnswerTo stored line text =
    IsCommand stored line (command.Quit text) ⊎ ((m : Message) × IsInVain stored line m × (text ≡ answer_text (said m)))

-- what a line leads to
abbrev pub LeadsTo : List Stored → List ℕ → Instruction → Type 0
LeadsTo stored line (instruction.Answer text) = IsAnswerTo stored line text
LeadsTo stored line instruction.Ping = IsCommand stored line command.Ping
LeadsTo stored line (instruction.Call call) = IsCommand stored line (command.Cache call)

-- what is said to the console is its response; a reply that says nothing to it doesn't come
abbrev pub said_want : Option Message → Want
said_want (Some m) = Respond (answer_text (said m))
said_want None = Done

-- what the console wants once its line has led to this; a line leads to no call but the console's own
abbrev pub start_want : Instruction → ℕ → Want
start_want (instruction.Answer text) moment = Respond text
start_want instruction.Ping moment = said_want (Some (message.Pong moment))
start_want (instruction.Call call) moment = if is_console call then Ask call else Done

-- and what after the reply to its call
abbrev pub reply_want : Instruction → Reply → Want
reply_want (instruction.Answer text) reply = Done
reply_want instruction.Ping reply = Done
reply_want (instruction.Call call) reply = said_want (message_to (name_in call) reply)

-- A line is answered once, after its call if it makes one. It waits for nothing.
abbrev pub console_want : Instruction → Given → Want
console_want line (Start moment) = start_want line moment
console_want line (Told moment reply) = reply_want line reply
console_want line Sent = Done
console_want line (Came got) = Done
console_want line Closed = Done
