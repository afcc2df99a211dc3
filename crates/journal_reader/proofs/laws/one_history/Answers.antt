use Rattle.journal_reader.proofs.Feeds.{lines_same}
use Rattle.journal_reader.proofs.laws.one_history.Goals as goal

pub returns : goal.returns
returns c = λ some others h k e. lines_same some others h k e
