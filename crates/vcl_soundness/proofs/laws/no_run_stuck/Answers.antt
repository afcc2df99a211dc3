use Rattle.vcl_soundness.proofs.Whole.{run-told}
use Rattle.vcl_soundness.proofs.laws.no_run_stuck.Goals as goal

pub returns : goal.returns
returns c = λ text joined stored j sound meant root traffic context answers. run-told text joined stored j sound meant root traffic context answers
