use Rattle.vcl_soundness.proofs.Whole.{run-told}
use Rattle.vcl_soundness.proofs.laws.program_never_stuck.Goals as goal

pub returns : goal.returns
returns c = λ text joined meant root traffic context answers.
    let program = c.args.program.now.program in
    run-told text program.tree program.stored joined program.sound meant root traffic context answers
