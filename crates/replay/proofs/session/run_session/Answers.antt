use Rattle.replay.proofs.Sweeping.{swept_by}
use Rattle.replay.proofs.session.run_session.Goals as goal

pub returns-in-Ok-clause-swept : goal.returns-in-Ok-clause-swept
returns-in-Ok-clause-swept g c = swept_by _ c.args.session c.in-Ok.script _ c.in-Ok.ensures c.play_session.result.refusal c.play_session.ensures.swept
