use Rattle.std.proofs.Common.{sym}
use Rattle.journal_audit.proofs.Finishing.{closed, closed_place, none_held, open_place, some_held, unclosed, unended}
use Rattle.journal_audit.proofs.course.Course.finding.Goals as goal

pub returns-then-not-is_empty : goal.returns-then-not-is_empty
returns-then-not-is_empty g c = λ bytes going. unended g.F.Follower.stands c.args.self.now c.args.held.now bytes (some_held c.args.held.now c.if-not-is_empty.ensures) going

pub returns-then-not-is_closed : goal.returns-then-not-is_closed
returns-then-not-is_closed g c = λ bytes going.
    unclosed g.F.Follower.stands c.args.self.now c.args.held.now bytes (none_held c.args.held.now c.if-not-is_empty.ensures)
    (λ place at. open_place g.F.Follower.stands c.args.self.now.phase place (sym c.if-not-is_closed.ensures) at) going

pub returns : goal.returns
returns g c = λ bytes going.
    closed g.F.Follower.stands c.args.self.now c.args.held.now bytes (none_held c.args.held.now c.if-not-is_empty.ensures)
    (λ place at. closed_place g.F.Follower.stands c.args.self.now.phase place (sym c.if-not-is_closed.ensures) at) going
