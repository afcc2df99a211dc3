use Rattle.journal_reader.proofs.Firsts.{below_text}
use Rattle.journal_reader.proofs.word.below.Goals as goal

pub returns : goal.returns
returns c = below_text _ _ _ _ c.in_ok-digits.ensures c.in_ok-number.ensures c.below_zero.ensures
