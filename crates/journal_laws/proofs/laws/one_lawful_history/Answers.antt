use Rattle.journal_laws.proofs.Legal.{history_same}
use Rattle.journal_laws.proofs.laws.one_lawful_history.Goals as goal

pub returns : goal.returns
returns c = λ params state some others sound f g h k e. history_same params state some others sound f g h k e
