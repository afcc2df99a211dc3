use Rattle.std.proofs.Common.{◌≡◌, ◌++◌, ◌∷◌, length, take}
use Rattle.std.specs.List.{flat_map}
use Rattle.journal_text.specs.declared.word.Word.TheVariants.{Long}
use Rattle.journal_text.specs.Grammar.{ban_line_words}
use Rattle.journal_text.proofs.replies.put_ban_lines.Given as goal

abbrev pub invariant-loop-ban : goal.invariant-loop-ban
invariant-loop-ban l = l.words ≡ l.fn.words ++ Long (length l.bans) ∷ flat_map ban_line_words (take l.ban-index l.bans)
