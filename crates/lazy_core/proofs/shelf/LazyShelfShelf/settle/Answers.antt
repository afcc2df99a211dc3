use Rattle.std.proofs.Common.{◌≡◌, true, false, refl, rules, sym, ap, ◌∙◌}
use Rattle.lazy_law.specs.Placed.{Lazy}
use Rattle.lazy_law.specs.Sweeping.{count_unswept}
use Rattle.lazy_core.proofs.Lurks.{answer_so, fewer_wait, judged_cut, settled_on, unsettled}
use Rattle.lazy_core.proofs.Standing.{cut_on, same_on}
use Rattle.lazy_core.proofs.shelf.LazyShelfShelf.settle.Goals as goal

pub returns-then-not-settle-clause-fewer : goal.returns-then-not-settle-clause-fewer
returns-then-not-settle-clause-fewer c = fewer_wait c.args.verdict c.args.self.now.store c.settle.new.self c.settle.new.self c.settle.ensures.left refl

pub returns-then-not-settle-clause-left : goal.returns-then-not-settle-clause-left
returns-then-not-settle-clause-left c = λ same. ap count_unswept (unsettled c.args.verdict c.args.self.now.store c.settle.new.self c.settle.result c.settle.ensures.answer c.settle.ensures.left (search rules))

pub returns-then-not-settle-clause-stands : goal.returns-then-not-settle-clause-stands
returns-then-not-settle-clause-stands c = settled_on c.args.verdict c.args.self.now.store c.settle.new.self c.settle.new.self c.settle.ensures.left (same_on c.settle.new.self c.settle.new.self refl)

pub returns-then-not-settle-clause-answer : goal.returns-then-not-settle-clause-answer
returns-then-not-settle-clause-answer c = λ beginning entries is stands.
    let told : c.settle.result ≡ false = search rules in
    sym told ∙ c.settle.ensures.answer ∙ answer_so c.args.verdict c.args.self.now.store beginning entries is stands

pub returns-then-not-settle-clause-same : goal.returns-then-not-settle-clause-same
returns-then-not-settle-clause-same c = λ same. unsettled c.args.verdict c.args.self.now.store c.settle.new.self c.settle.result c.settle.ensures.answer c.settle.ensures.left (search rules)

pub returns-clause-fewer : goal.returns-clause-fewer
returns-clause-fewer c = fewer_wait c.args.verdict c.args.self.now.store c.settle.new.self c.cut.new.self c.settle.ensures.left c.cut.ensures.waiting

pub returns-clause-stands : goal.returns-clause-stands
returns-clause-stands c = settled_on c.args.verdict c.args.self.now.store c.settle.new.self c.cut.new.self c.settle.ensures.left (cut_on c.settle.new.self c.cut.new.self c.cut.ensures.cut)

pub returns-clause-answer : goal.returns-clause-answer
returns-clause-answer c = λ beginning entries is stands.
    let told : c.settle.result ≡ true = search rules in
    sym told ∙ c.settle.ensures.answer ∙ answer_so c.args.verdict c.args.self.now.store beginning entries is stands

pub returns-clause-judged : goal.returns-clause-judged
returns-clause-judged c = λ same. judged_cut c.args.verdict c.args.self.now.store c.settle.new.self c.cut.new.self c.settle.result c.settle.ensures.answer c.settle.ensures.left (search rules) c.cut.ensures.cut
