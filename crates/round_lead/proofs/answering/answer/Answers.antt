-- Each want, as it is done.
use Rattle.std.proofs.lemmas.Result.{IfOk-weaker, IfErr-weaker}
use Rattle.round_lead.proofs.Giving.{idle_fails, send_gives, send_fails}
use Rattle.round_lead.proofs.answering.answer.Goals as goal

pub returns-in-Cache-clause-given : goal.returns-in-Cache-clause-given
returns-in-Cache-clause-given g c = rw c.in-Cache.is (IfOk-weaker c.answer_call.result _ _ (λ given gives. gives (g.L.Link.flow c.args.link.now) (g.P.Programs.backends c.args.program.now)) c.answer_call.ensures.given)

pub returns-in-Cache-clause-cut : goal.returns-in-Cache-clause-cut
returns-in-Cache-clause-cut g c = rw c.in-Cache.is (IfErr-weaker c.answer_call.result _ _ (λ cut fails. fails (g.L.Link.flow c.args.link.now) (g.P.Programs.backends c.args.program.now)) c.answer_call.ensures.cut)

pub returns-in-Exchange-clause-given : goal.returns-in-Exchange-clause-given
returns-in-Exchange-clause-given g c = rw c.in-Exchange.is (IfOk-weaker c.answer_exchange.result _ _ (λ given gives. gives (g.L.Link.flow c.args.link.now) _) c.answer_exchange.ensures.given)

pub returns-in-Exchange-clause-cut : goal.returns-in-Exchange-clause-cut
returns-in-Exchange-clause-cut g c = rw c.in-Exchange.is (IfErr-weaker c.answer_exchange.result _ _ (λ cut fails. fails (g.L.Link.flow c.args.link.now) _) c.answer_exchange.ensures.cut)

pub returns-in-Ok-clause-given : goal.returns-in-Ok-clause-given
returns-in-Ok-clause-given g c = rw c.in-Send.is (send_gives _ _ _ _ _ _ _ _ c.args.progress.now c.send_on.new.progress c.in-Send.delivery c.in-Ok.ensures.sent)

pub returns-in-Send-clause-cut : goal.returns-in-Send-clause-cut
returns-in-Send-clause-cut g c = rw c.in-Send.is (send_fails _ _ _ _ _ _ _ _ c.args.progress.now c.send_on.new.progress c.in-Send.delivery c.in-Err.cut c.in-Err.ensures.cut)

pub returns-clause-cut : goal.returns-clause-cut
returns-clause-cut g c = idle_fails _ _ _ _
