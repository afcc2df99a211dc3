use Rattle.journal_reader.proofs.Unique.{line_same}
use Rattle.journal_reader.proofs.laws.one_text.Goals as goal

pub returns : goal.returns
returns c = λ text some other h k. line_same text some other h k
