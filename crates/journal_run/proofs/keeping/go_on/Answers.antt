use Rattle.std.proofs.Common.{ap, arith}
use Rattle.cache_law.specs.Beginning.{Beginning}
use Rattle.journal_run.proofs.Counts.{entries_of_alike, few_entries}
use Rattle.journal_run.proofs.keeping.go_on.Goals as goal

pub overflow_add-result : goal.overflow_add-result
overflow_add-result g c =
    let few = few_entries (g.C.CacheCore.beginning c.args.opened.core) (g.C.CacheCore.history c.work-core.result.0) c.work-core.ensures.legal in
    let from = c.requires.from in
    let count = c.in-Ok.ensures.count in
    omega (arith, few, from, count)

pub returns-in-Ok-clause-from : goal.returns-in-Ok-clause-from
returns-in-Ok-clause-from g c =
    let core = c.work-core.result.0 in
    let reached = entries_of_alike (g.C.CacheCore.beginning core) (g.C.CacheCore.history core) (g.C.CacheCore.beginning c.in-Ok.reopened.core).base c.in-Ok.ensures.alike in
    let same = ap (λ (beginning : Beginning). beginning.base.entries) c.work-core.ensures.same in
    let from = c.requires.from in
    let count = c.in-Ok.ensures.count in
    omega (arith, reached, same, from, count)
