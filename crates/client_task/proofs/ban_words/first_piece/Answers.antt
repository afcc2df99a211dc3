use Rattle.std.proofs.Common.{arith}
use Rattle.client_task.proofs.BanWords.{first_of_more, first_of_last}
use Rattle.client_task.proofs.ban_words.first_piece.Goals as goal

pub returns-then-place-text : goal.returns-then-place-text
returns-then-place-text c =
    first_of_more c.args.text.now _ _ _ c.place_of-place.ensures.place c.before-piece.ensures c.behind.ensures c.if-place-text.true

pub returns-else-place-text : goal.returns-else-place-text
returns-else-place-text c =
    first_of_last c.args.text.now _ _ c.place_of-place.ensures.place c.before-piece.ensures (omega arith)
