use Rattle.vcl_runner.proofs.Nexts.{begun-stands}
use Rattle.vcl_runner.proofs.run.RunRunner.start.Goals as goal

pub returns-clause-stands : goal.returns-clause-stands
returns-clause-stands g c =
    begun-stands c.args.program.now.compiled.code c.args.program.now.compiled.program.tree.items c.args.program.now.compiled.program.stored c.args.program.now.functions.stored c.args.subroutine c.args.context
    c.in_ok-machine.machine (c.numbers_run.ensures c.args.subroutine c.args.context) c.args.program.now.same (c.in_ok-machine.ensures.at c.args.program.now.functions.stored)
    (λ answers. c.args.program.now.sure c.args.subroutine c.requires c.args.context answers)
