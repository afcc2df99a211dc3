use Rattle.std.proofs.Common.{◌+◌, ℕ, ap, refl, subst}
use Rattle.audit_laws.specs.Steps.{Before, placed}
use Rattle.journal_audit.specs.Following.{EndsLine}
use Rattle.journal_audit.proofs.GoneOn.{one_on}
use Rattle.journal_audit.proofs.course.Course.go_on.Goals as goal

pub returns-in-Ok-2 : goal.returns-in-Ok-2
returns-in-Ok-2 g c = λ steps on.
    one_on g.F.Follower.stands c.args.self _ steps c.args.text.now c.in-Ok.line on c.in-Ok.ensures.line c.if-text-room.false
    (subst (EndsLine g.F.Follower.stands (placed Before steps) c.in-Ok.line) c.in-Ok-2.is (c.in_ok-phase.ensures (placed Before steps) on.there))
    refl refl (ap (λ (n : ℕ). c.args.self.entries + n) c.entry_count.ensures) (ap (λ (n : ℕ). c.args.self.cuts + n) c.cut_count.ensures)
