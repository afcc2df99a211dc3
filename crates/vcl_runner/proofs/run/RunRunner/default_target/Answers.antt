use Rattle.vcl_runner.proofs.run.RunRunner.default_target.Goals as goal

pub returns : goal.returns
returns g c = rw (c.args.program.now.compiled.numbered) at c.default_target.ensures
