use Rattle.std.proofs.Common.{sym, subst, List, ℕ}
use Rattle.units.specs.Quoted.{ReadsPieces}
use Rattle.units.proofs.Pieces.{pieces_push}
use Rattle.units.proofs.quotes.values_of.Goals as goal

pub loop-value-preserved : goal.loop-value-preserved
loop-value-preserved c =
    let more = pieces_push c.loop-value.values.items c.args.body.now c.loop-value.rest.now c.in-Some.value c.in-Some.behind.now c.loop-value.invariant (sym c.in-Some.ensures) in
    let at : List ℕ → Type 0 = λ v. ReadsPieces v c.args.body.now c.in-Some.behind.now in
    subst at (sym c.in_ok-push.ensures.items) more
