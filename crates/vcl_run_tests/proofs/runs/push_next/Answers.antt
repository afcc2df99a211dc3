use Rattle.vcl_run_tests.proofs.Following.{next-suit, known-next}
use Rattle.vcl_run_tests.proofs.runs.push_next.Goals as goal

pub returns-clause-suits : goal.returns-clause-suits
returns-clause-suits g c = next-suit c.resume-turned.result c.push_turned-next.result c.resume-turned.new.self c.resume-turned.ensures.suits c.push_turned-next.ensures

pub returns-clause-sure : goal.returns-clause-sure
returns-clause-sure g c = known-next _ c.resume-turned.result c.push_turned-next.result c.resume-turned.ensures.sure c.push_turned-next.ensures
