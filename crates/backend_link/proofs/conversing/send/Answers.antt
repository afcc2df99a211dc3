-- What the two parts told.
use Rattle.std.proofs.Common.{sym, ◌∙◌}
use Rattle.backend_link.proofs.ConversedFacts.{ok_holds, err_holds}
use Rattle.backend_link.proofs.conversing.send.Goals as goal

pub returns-clause-whole : goal.returns-clause-whole
returns-clause-whole g c is = ok_holds c.write_parts.result (sym c.is_ok.ensures.value ∙ is) c.write_parts.ensures.whole

pub returns-clause-part : goal.returns-clause-part
returns-clause-part g c is = err_holds c.write_parts.result (sym c.is_ok.ensures.value ∙ is) c.write_parts.ensures.part

pub returns-clause-failed : goal.returns-clause-failed
returns-clause-failed g c is = err_holds c.write_parts.result (sym c.is_ok.ensures.value ∙ is) c.write_parts.ensures.cause.failed
