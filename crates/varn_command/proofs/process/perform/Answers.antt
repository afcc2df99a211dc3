-- The run that is made is of the process's words, and its outcome's number is the process's.
use Rattle.std.proofs.Common.{rules, sym}
use Rattle.varn_command.proofs.Asking.{less_claimed}
use Rattle.varn_command.proofs.process.perform.Goals as goal

pub returns : goal.returns
returns g c = λ helpless. (
  c.run-outcome.result,
  rw (sym c.as_slice-4.ensures.value) (less_claimed _ _ _ _
      (record {
        replays = λ came h. (_, _, _, _, h.0);
        loads = λ load came h. tt;
        serves = λ order came h. (h.3, h.4);
        audits = λ came h. (_, _, _, _, h.0);
        nothing = λ h. tt;
      })
      c.run-outcome.ensures),
  search rules,
)
