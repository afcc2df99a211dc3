use Rattle.std.proofs.Common.{◌≡◌, ◌<◌, ℕ, List, length, subst, sym, ◌∙◌, arith}
use Rattle.vcl_symbols.specs.Visits.{Among, Visited}
use Rattle.vcl_symbols.proofs.SearchLemmas.{Searched, Searched-visit, Searched-whole, next-below, row-next, callee-below}
use Rattle.vcl_symbols.proofs.call_graph.CallGraph.reached.Goals as goal

pub index-requires : goal.index-requires
index-requires c = omega (arith, next-below _ _ _ _ _ _ _ c.loop-next.invariant c.in-Some.ensures.items, c.args.self.now.rows_are.long)

pub visit-requires : goal.visit-requires
visit-requires c =
    let below = next-below _ _ _ _ _ _ _ c.loop-next.invariant c.in-Some.ensures.items in
    let row = row-next _ _ _ _ _ c.index.result.now c.args.self.now.rows_are below (c.as_slice-row.ensures ∙ c.index.ensures) in
    let P : List ℕ → Type 0 = λ callees. (v : ℕ) → Among callees v → v < length c.loop-next.marks.items in
    subst P (sym row) (λ v h. omega (arith, callee-below _ _ _ c.args.self.now.within v h, c.loop-next.invariant.long))

pub loop-next-preserved : goal.loop-next-preserved
loop-next-preserved c =
    let below = next-below _ _ _ _ _ _ _ c.loop-next.invariant c.in-Some.ensures.items in
    let row = row-next _ _ _ _ _ c.index.result.now c.args.self.now.rows_are below (c.as_slice-row.ensures ∙ c.index.ensures) in
    let P : List ℕ → Type 0 = λ callees. Visited callees c.loop-next.marks.items c.pop.new.self.items c.visit.new.marks.items c.visit.new.waiting.items in
    let S : List ℕ → Type 0 = λ waiting. Searched c.args.self.now.calls c.args.from c.args.self.now.count c.loop-next.marks.items waiting in
    Searched-visit _ _ _ _ _ _ _ c.in-Some.next (subst S c.in-Some.ensures.items c.loop-next.invariant) (subst P row c.in_ok-visit.ensures)

pub returns-clause-marked : goal.returns-clause-marked
returns-clause-marked c =
    let none : length c.loop-next.waiting.items ≡ 0 = omega (arith, c.in_default.ensures.cases) in
    Searched-whole _ _ _ _ c.loop-next.waiting.items none c.loop-next.invariant
