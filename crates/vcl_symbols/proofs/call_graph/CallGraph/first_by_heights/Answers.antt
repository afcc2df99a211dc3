use Rattle.std.proofs.Common.{ℕ, List, ◌∷◌, [], ◌++◌, take, get_or, Option, subst, sym, ◌∙◌, arith}
use Rattle.std.proofs.lemmas.Bool.{true≢false}
use Rattle.std.proofs.lemmas.List.{take_more, take_all}
use Rattle.vcl_symbols.specs.declared.call_graph.Call.{Call}
use Rattle.vcl_symbols.specs.Calls.{Reaches}
use Rattle.vcl_symbols.specs.Circles.{IsLeastPlace, IsBefore}
use Rattle.vcl_symbols.proofs.CircleLemmas.{CircleIn, IsLeastPlace-same, IsLeastPlace-new}
use Rattle.vcl_symbols.proofs.call_graph.CallGraph.first_by_heights.Goals as goal
use Rattle.vcl_symbols.proofs.call_graph.CallGraph.first_by_heights.Goals.{then-is_before+in_ok-is_on_circle+then-branch, else-is_before, else-is_before-via-then-is_before+in_ok-is_on_circle+else-branch, else-is_before-via-else-is_before}

pub loop-call-preserved : goal.loop-call-preserved
loop-call-preserved c =
    let calls : List Call = c.args.self.now.calls in
    let front : List Call = take c.loop-call.call-index c.as_slice-call-items.result.now in
    let d : Call = record { from = 0; to = 0; place = 0 } in
    let call : Call = get_or c.as_slice-call-items.result.now c.loop-call.call-index d in
    let more = take_more c.as_slice-call-items.result.now c.loop-call.call-index d c.loop-call-test.true in
    let P : Option ℕ → Type 0 = λ first. IsLeastPlace (CircleIn calls (front ++ call ∷ [])) first in
    let found : P c.if-is_before.first = elim c.if-is_before.branch [
      | then-is_before+in_ok-is_on_circle+then-branch w ↦ subst P (sym w.first-is) (IsLeastPlace-new calls front call c.loop-call.first c.loop-call.invariant (c.is_before.ensures.0 w.if-is_before.true) (w.in_ok-is_on_circle.ensures.0 w.if-branch.true))
      | else-is_before w ↦
          let none : IsBefore call.place c.loop-call.first → Reaches calls call.to call.from → ⊥ = elim w.else-is_before.branch [
            | else-is_before-via-then-is_before+in_ok-is_on_circle+else-branch w' ↦ λ before circle. true≢false (sym (w'.in_ok-is_on_circle.ensures.1 circle) ∙ w'.if-branch.false)
            | else-is_before-via-else-is_before w' ↦ λ before circle. true≢false (sym (c.is_before.ensures.1 before) ∙ w'.if-is_before.false)
          ] in
          subst P (sym w.first-is) (IsLeastPlace-same calls front call c.loop-call.first c.loop-call.invariant none)
    ] in rw more found

pub returns : goal.returns
returns c =
    let whole = take_all c.loop-call.call-index c.as_slice-call-items.result.now (omega arith) in
    let P : List Call → Type 0 = λ part. IsLeastPlace (CircleIn c.args.self.now.calls part) c.loop-call.first in
    subst P (whole ∙ c.as_slice-call-items.ensures) c.loop-call.invariant
