use Rattle.journal_audit.proofs.Pieces.{fed_line}
use Rattle.journal_audit.proofs.auditor.Auditor.feed.Goals as goal

pub lines-preserved : goal.lines-preserved
lines-preserved g c =
    fed_line g.F.Follower.stands c.args.self c.in_ok-hold.field-0 c.in_ok-auditor.auditor c.lines.auditor c.args.piece.now c.lines.rest.now _ _ c.lines.invariant c.in-Some.ensures c.in_ok-hold.ensures c.in_ok-auditor.ensures
