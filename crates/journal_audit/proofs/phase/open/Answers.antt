use Rattle.std.proofs.Common.{sym, subst}
use Rattle.journal_text.specs.declared.line.Line.{Line}
use Rattle.journal_audit.specs.declared.phase.Phase.TheVariants as phases
use Rattle.journal_audit.specs.Following.{HasStepped}
use Rattle.journal_audit.proofs.Lining.{first_line}
use Rattle.journal_audit.proofs.phase.open.Goals as goal

pub returns-in-First : goal.returns-in-First
returns-in-First g c = λ place at.
    subst (λ (one : Line). HasStepped g.F.Follower.stands place one (phases.Within c.in_ok-start-in-First.field-0)) (sym c.in-First.is)
    (first_line g.F.Follower.stands c.in-First.first c.in_ok-start-in-First.field-0 place at c.in_ok-start-in-First.ensures)
