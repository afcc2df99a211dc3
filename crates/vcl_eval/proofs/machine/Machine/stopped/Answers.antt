use Rattle.vcl_eval.proofs.Turns.{ban-lessens}
use Rattle.vcl_eval.proofs.machine.Machine.stopped.Goals as goal

pub returns-in-Ban-clause-less : goal.returns-in-Ban-clause-less
returns-in-Ban-clause-less c = λ code most h. ban-lessens code most c.args.stop c.in-Ban.text c.args.self.now.waiting c.ask.new.self c.in-Ban.is h c.ask.ensures
