use Rattle.session_text.proofs.Words.{alone_keyword}
use Rattle.session_text.proofs.reading.read_alone.Goals as goal

pub returns-in_default : goal.returns-in_default
returns-in_default c = alone_keyword c.args.keyword c.in_default.not-End
