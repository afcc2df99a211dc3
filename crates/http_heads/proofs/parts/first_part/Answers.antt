use Rattle.std.proofs.Common.{arith}
use Rattle.http_heads.proofs.PartFacts.{first_of_more, first_of_last}
use Rattle.http_heads.proofs.parts.first_part.Goals as goal

pub returns-then-place-text : goal.returns-then-place-text
returns-then-place-text c =
    first_of_more c.args.separators c.args.text.now _ _ _ c.place_of-place.ensures.place c.trim_blanks-part.ensures c.behind.ensures c.if-place-text.true

pub returns-else-place-text : goal.returns-else-place-text
returns-else-place-text c =
    first_of_last c.args.separators c.args.text.now _ _ c.place_of-place.ensures.place c.trim_blanks-part.ensures (omega arith)
