-- Where nothing hindered the run, its status is one of two.
use Rattle.std.proofs.Common.{inr, ap}
use Rattle.varn_serve.specs.declared.ending.Served.{Served}
use Rattle.varn_serve.proofs.Ends.{is_complete}
use Rattle.varn_serve.proofs.functions.serve_with_std.Goals as goal

pub returns-in-Ok-clause-complete : goal.returns-in-Ok-clause-complete
returns-in-Ok-clause-complete g c = is_complete _ _ _ c.args.order.now c.in-Ok.served c.in-Ok.ensures.ends c.in-Ok.ensures.full

pub returns-in-Err-clause-complete : goal.returns-in-Err-clause-complete
returns-in-Err-clause-complete g c = λ read listen write accepted fits. inr (ap (λ (s : Served g.row.N.Denot). s.status) c.stopped.ensures)
