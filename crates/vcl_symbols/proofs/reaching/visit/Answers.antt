use Rattle.std.proofs.Common.{◌≡◌, ◌<◌, ℕ, Bool, true, false, ◌∷◌, [], ◌++◌, take, get_or, set, length, Vec, Global, sym, ap, ◌∙◌, arith}
use Rattle.std.proofs.lemmas.List.{take_more, get_or_default}
use Rattle.vcl_symbols.specs.Visits.{Visited}
use Rattle.vcl_symbols.proofs.VisitLemmas.{Among-at, Visited-known, Visited-new}
use Rattle.vcl_symbols.proofs.reaching.visit.Goals as goal
use Rattle.vcl_symbols.proofs.reaching.visit.Goals.{then-not-index+in_ok-push, else-not-index}

pub index-requires : goal.index-requires
index-requires c = omega (arith, c.loop-callee.invariant.long, c.requires _ (Among-at c.args.row.now c.loop-callee.callee-index c.loop-callee-test.true))

pub index_mut-requires : goal.index_mut-requires
index_mut-requires c = omega (arith, c.loop-callee.invariant.long, c.requires _ (Among-at c.args.row.now c.loop-callee.callee-index c.loop-callee-test.true))

pub loop-callee-preserved : goal.loop-callee-preserved
loop-callee-preserved c =
    let more = take_more c.args.row.now c.loop-callee.callee-index 0 c.loop-callee-test.true in
    let callee : ℕ = get_or c.args.row.now c.loop-callee.callee-index 0 in
    let within : callee < length c.loop-callee.marks.items = omega (arith, c.loop-callee.invariant.long, c.requires _ (Among-at c.args.row.now c.loop-callee.callee-index c.loop-callee-test.true)) in
    let mark : get_or c.loop-callee.marks.items callee false ≡ c.index.result.now = get_or_default c.loop-callee.marks.items callee false c.index.result.now within ∙ sym c.index.ensures in
    let found : Visited (take c.loop-callee.callee-index c.args.row.now ++ callee ∷ []) c.args.marks.now.items c.args.waiting.now.items c.if-not-index.marks.items c.if-not-index.waiting.items =
    elim c.if-not-index.branch [
      | then-not-index+in_ok-push w ↦
          let marks : c.if-not-index.marks.items ≡ set c.loop-callee.marks.items callee true = ap (λ (v : Vec Bool Global). v.items) w.marks-is in
          let waiting : c.if-not-index.waiting.items ≡ c.loop-callee.waiting.items ++ callee ∷ [] = ap (λ (v : Vec ℕ Global). v.items) w.waiting-is ∙ w.in_ok-push.ensures.items in
          rw (marks, waiting) (Visited-new _ _ _ _ _ callee c.loop-callee.invariant within (mark ∙ w.if-not-index.true))
      | else-not-index w ↦
          let marks : c.if-not-index.marks.items ≡ c.loop-callee.marks.items = ap (λ (v : Vec Bool Global). v.items) w.marks-is in
          let waiting : c.if-not-index.waiting.items ≡ c.loop-callee.waiting.items = ap (λ (v : Vec ℕ Global). v.items) w.waiting-is in
          rw (marks, waiting) (Visited-known _ _ _ _ _ callee c.loop-callee.invariant (mark ∙ w.if-not-index.false))
    ]
    in rw more found
