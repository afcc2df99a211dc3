use Rattle.std.proofs.Common.{rules}
use Rattle.journal_reader.proofs.reading.bare_line.Goals as goal

pub returns-in-Ok : goal.returns-in-Ok
returns-in-Ok c = (c.line.new.cursor, search rules)
