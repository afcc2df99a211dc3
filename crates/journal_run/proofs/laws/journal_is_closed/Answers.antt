use Rattle.journal_run.proofs.Texts.{whole_text}
use Rattle.journal_run.proofs.laws.journal_is_closed.Goals as goal

pub returns : goal.returns
returns c = λ params boot segments last. whole_text params boot segments last (c.journal_is_its_segments.ensures params boot)
