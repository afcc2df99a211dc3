use Rattle.cache_frame.proofs.Refusals.{refusal_room}
use Rattle.cache_frame.proofs.framed.answer_within.Goals as goal

pub returns-in-Some-clause-left : goal.returns-in-Some-clause-left
returns-in-Some-clause-left g c = refusal_room _ _ _ c.args.desk.now c.refuse.new.desk c.args.moment c.args.caller c.args.call.now _ c.in-Some.ensures.refused
