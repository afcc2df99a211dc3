use Rattle.std.proofs.Common.{arith}
use Rattle.freshness.proofs.Lists.{first_of_more, first_of_last}
use Rattle.freshness.proofs.directives.first_element.Goals as goal

pub returns-then-place-list : goal.returns-then-place-list
returns-then-place-list c =
    first_of_more c.args.list.now _ _ _ c.place_of-place.ensures.place c.trim_blanks-element.ensures c.behind.ensures c.if-place-list.true

pub returns-else-place-list : goal.returns-else-place-list
returns-else-place-list c =
    first_of_last c.args.list.now _ _ c.place_of-place.ensures.place c.trim_blanks-element.ensures (omega arith)
