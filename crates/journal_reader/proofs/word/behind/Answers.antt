use Rattle.journal_reader.proofs.Firsts.{behind_two}
use Rattle.journal_reader.proofs.word.behind.Goals as goal

pub returns-in-Some : goal.returns-in-Some
returns-in-Some c = behind_two _ _ _ _ c.in-Some.ensures c.behind_front-in-Some.ensures
