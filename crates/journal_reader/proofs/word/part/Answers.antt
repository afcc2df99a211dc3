use Rattle.std.proofs.Common.{sym}
use Rattle.journal_reader.proofs.Firsts.{part_slices}
use Rattle.journal_reader.proofs.word.part.Goals as goal

pub returns : goal.returns
returns c = part_slices _ _ (sym c.in_ok-place.ensures)
