use Rattle.journal_writer.proofs.Segments.{journal_is}
use Rattle.journal_writer.proofs.laws.journal_is_its_segments.Goals as goal

pub returns : goal.returns
returns c = journal_is
