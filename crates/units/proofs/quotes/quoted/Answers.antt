use Rattle.std.proofs.Common.{sym, subst, List, ℕ}
use Rattle.units.specs.Quoted.{IsQuotedAt}
use Rattle.units.proofs.Pieces.{quoted_whole}
use Rattle.units.proofs.quotes.quoted.Goals as goal

pub returns-clause-ok : goal.returns-clause-ok
returns-clause-ok c =
    let there = c.in-Some.ensures in
    let read = c.in_ok-values.ensures in
    let whole = quoted_whole c.args.bytes.now c.args.from c.in-Some.behind there.0 c.in_ok-values.values.items read.0 there.1 read.1 read.2 in
    let at : List ℕ → Type 0 = λ v. IsQuotedAt c.args.bytes.now c.args.from v c.in-Some.behind in
    subst at (sym c.in_ok-from_vec.ensures) whole
