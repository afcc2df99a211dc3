-- Who was hired may begin, and works, while the job is done by the first pass.
use Rattle.turnstile.specs.Handles.{known}
use Rattle.std.proofs.Common.{ap, sym, ◌∙◌}
use Rattle.shared_cache.specs.Sharing.{CallerKnows}
use Rattle.crew.proofs.Besides.{only_saw}
use Rattle.crew.proofs.running.employ.Goals as goal

pub returns-clause-have_worked : goal.returns-clause-have_worked
returns-clause-have_worked g c = record {
  before = known c.args.root;
  first = c.requires.first;
  hired = known c.hire.new.root;
  olds = c.hire.new.workers.items;
  hires = c.hire.ensures.hired;
  knows = only_saw g.J.Job.places g.J.Job.Did c.args.job c.work_all.result.done (known c.hire.new.root) (known c.work_all.result.pass) c.work_all.ensures.becomes;
  worked = c.work_all.ensures.worked;
}

pub returns-clause-becomes : goal.returns-clause-becomes
returns-clause-becomes g c = record {
  hired = known c.hire.new.root;
  split = c.hire.ensures.hired.knows ∙ ap (λ (k : CallerKnows). record (known c.args.root) { upto = (known c.hire.new.root).upto; made = k.made }) (sym c.hire.ensures.hired.knows);
  becomes = c.work_all.ensures.becomes;
}
