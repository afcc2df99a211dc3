use Rattle.journal_text.proofs.Behind.{joined}
use Rattle.journal_text.proofs.replies.put_is_set.Goals as goal

pub returns : goal.returns
returns c = joined c.truth.result _ _ _ _ _ c.truth.ensures c.in_ok-key.ensures
