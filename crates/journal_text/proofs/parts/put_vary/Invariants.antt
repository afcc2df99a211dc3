use Rattle.std.proofs.Common.{◌≡◌, ◌++◌, length, take}
use Rattle.std.specs.List.{flat_map}
use Rattle.journal_text.specs.Grammar.{count_words, item_words}
use Rattle.journal_text.proofs.parts.put_vary.Given as goal

abbrev pub invariant-loop-item : goal.invariant-loop-item
invariant-loop-item l = l.words ≡ l.fn.words ++ count_words l.always (length l.items) ++ flat_map item_words (take l.item-index l.items)
