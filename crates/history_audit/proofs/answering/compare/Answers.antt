use Rattle.std.proofs.Common.{subst}
use Rattle.std.specs.Prelude.{Option}
use Rattle.journal_audit.specs.declared.fault.Fault.{Fault}
use Rattle.history_audit.specs.Alongside.{Compares}
use Rattle.history_audit.proofs.Judged.{other_told, same_told}
use Rattle.history_audit.proofs.answering.compare.Goals as goal

pub returns-in-Some : goal.returns-in-Some
returns-in-Some c =
    other_told c.args.following c.args.said c.in-Some.fault c.in_ok-advanced.advanced.following c.in_ok-advanced.advanced.told c.requires.order c.requires.waited c.requires.other c.requires.kept c.in_ok-advanced.ensures
    (subst (λ (o : Option Fault). Compares c.in_ok-advanced.advanced.told c.args.said.reply o) c.in-Some.is c.in_ok-fault.ensures)

pub returns-in-None : goal.returns-in-None
returns-in-None c =
    same_told c.args.following c.args.said c.in_ok-advanced.advanced.following c.in_ok-advanced.advanced.told c.in_ok-advanced.ensures
    (subst (λ (o : Option Fault). Compares c.in_ok-advanced.advanced.told c.args.said.reply o) c.in-None.is c.in_ok-fault.ensures)
