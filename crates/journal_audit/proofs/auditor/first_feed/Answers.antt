use Rattle.journal_audit.proofs.Pieces.{feed_found}
use Rattle.journal_audit.proofs.auditor.first_feed.Goals as goal

pub returns : goal.returns
returns c = feed_found c.args.bytes.now c.feed_place.result c.feed_place.ensures
