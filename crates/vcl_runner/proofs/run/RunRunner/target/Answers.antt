use Rattle.vcl_runner.proofs.run.RunRunner.target.Goals as goal

pub returns : goal.returns
returns g c = rw (c.args.program.now.compiled.numbered, c.bytes.ensures) at c.target_named.ensures
