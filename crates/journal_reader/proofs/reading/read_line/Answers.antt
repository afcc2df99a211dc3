use Rattle.journal_reader.proofs.Only.{only_line}
use Rattle.journal_reader.proofs.reading.read_line.Goals as goal

pub returns-clause-only : goal.returns-clause-only
returns-clause-only c = λ one l. only_line _ _ one c.read_words.ensures l
