-- Answers of lines that make no call.
use Rattle.std.specs.Prelude.{◌≡◌, ⊤}
use Rattle.cli_console.specs.declared.message.Message.{Message}
use Rattle.cli_console.specs.declared.refusal.CliAnswer.{CliAnswer}
use Rattle.cli_console.specs.declared.refusal.CliAnswer.TheVariants.{Refused, NoMemory}
use Rattle.cli_console.specs.Messages.{answer_text, said}

-- the answer says this, unless memory is wanting
abbrev pub Tells : Message → CliAnswer → Type 0
Tells message (Refused text) = text ≡ answer_text (said message)
Tells message NoMemory = ⊤

-- the answer says something for which there is a reason, unless memory is wanting
abbrev pub TellsWhy : (Message → Type 0) → CliAnswer → Type 0
TellsWhy Why (Refused text) = (message : Message) × Why message × (text ≡ answer_text (said message))
TellsWhy Why NoMemory = ⊤
