use Rattle.std.proofs.Common.{sym, ◌∙◌}
use Rattle.std.proofs.lemmas.List.{take_rest}
use Rattle.units.proofs.Prefixes.{begins}
use Rattle.units.proofs.Pieces.{quoted_at}
use Rattle.units.proofs.quotes.end_of_quoted.Goals as goal

pub overflow_sub-result : goal.overflow_sub-result
overflow_sub-result c =
    let prefix = c.in_ok-body.ensures.cases in
    let e = sym (take_rest c.args.bytes.now c.args.from) ∙ begins _ _ c.in_ok-body.body.now prefix.0 prefix.1 in
    let read = c.in_ok-rest.ensures in
    (quoted_at c.args.bytes.now c.args.from c.in_ok-body.body.now c.in_ok-rest.rest.now read.0 c.if-from-bytes.false e read.1).0

pub returns : goal.returns
returns c =
    let prefix = c.in_ok-body.ensures.cases in
    let e = sym (take_rest c.args.bytes.now c.args.from) ∙ begins _ _ c.in_ok-body.body.now prefix.0 prefix.1 in
    let read = c.in_ok-rest.ensures in
    (read.0, (quoted_at c.args.bytes.now c.args.from c.in_ok-body.body.now c.in_ok-rest.rest.now read.0 c.if-from-bytes.false e read.1).1)
