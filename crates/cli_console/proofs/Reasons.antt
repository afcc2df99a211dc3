-- What an answer tells, and why.
use Rattle.cli_console.specs.declared.message.Message.{Message}
use Rattle.cli_console.specs.declared.refusal.CliAnswer.{CliAnswer}
use Rattle.cli_console.specs.declared.refusal.CliAnswer.TheVariants.{Refused, NoMemory}
use Rattle.cli_console.specs.Refusals.{Tells, TellsWhy}

pub tells_why : (Why : Message → Type 0) (message : Message) (answer : CliAnswer) → Why message → Tells message answer → TellsWhy Why answer
tells_why Why message (Refused text) why tells = (message, why, tells)
tells_why Why message NoMemory why tells = tt
