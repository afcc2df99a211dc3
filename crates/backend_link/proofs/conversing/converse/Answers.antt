-- What was sent and what came.
use Rattle.std.proofs.Common.{◌++◌, List, ℕ, lit<, sym, ◌∙◌, ap}
use Rattle.backend_link.proofs.ConversedFacts.{quiet, cut_short, conversed, only_read_fails, no_lower_fault}
use Rattle.backend_link.proofs.SaidFacts.{said}
use Rattle.backend_link.proofs.conversing.converse.Goals as goal

pub returns-in-Err-clause-told : goal.returns-in-Err-clause-told
returns-in-Err-clause-told g c = quiet c.args.request.now (g.L.Link.flow c.args.link.now)

pub returns-then-not-send-clause-told : goal.returns-then-not-send-clause-told
returns-then-not-send-clause-told g c =
    let body = c.args.request.now.body in
    cut_short c.args.request.now (g.L.Link.flow c.args.link.now) (g.L.Link.flow c.send.new.link) (c.in-Ok.text ++ body) (ap (λ (l : List ℕ). l ++ body) c.in-Ok.ensures.text)
    (c.send.ensures.part c.if-not-send.true)

pub returns-clause-told : goal.returns-clause-told
returns-clause-told g c =
    let body = c.args.request.now.body in
    conversed c.args.request.now (g.L.Link.flow c.args.link.now) (g.L.Link.flow c.send.new.link) (g.L.Link.flow c.receive.new.link) (c.in-Ok.text ++ body) c.receive.result
    c.answered.result c.answered.ensures (ap (λ (l : List ℕ). l ++ body) c.in-Ok.ensures.text) (c.send.ensures.whole c.if-not-send.false)
    c.receive.ensures.told

pub returns-clause-writes : goal.returns-clause-writes
returns-clause-writes g c is = absurd (no_lower_fault c.receive.result 2 (lit< tt) (sym c.answered.ensures ∙ is))

pub returns-clause-reads : goal.returns-clause-reads
returns-clause-reads g c is = rw (← c.send.ensures.other) (c.receive.ensures.failed (only_read_fails c.receive.result (sym c.answered.ensures ∙ is)))

pub returns-clause-dials : goal.returns-clause-dials
returns-clause-dials g c is = no_lower_fault c.receive.result 1 (lit< tt) (sym c.answered.ensures ∙ is)

pub returns-clause-complete : goal.returns-clause-complete
returns-clause-complete g c = λ writes reads memory.
    said c.args.request.now (g.L.Link.flow c.args.link.now) (g.L.Link.flow c.receive.new.link) c.answered.result (returns-clause-told g c)
    (λ is. writes (returns-clause-writes g c is)) (λ is. reads (returns-clause-reads g c is)) memory
