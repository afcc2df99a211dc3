use Rattle.std.proofs.Common.{◌≡◌, ◌++◌, ◌∷◌, length, take}
use Rattle.std.specs.List.{flat_map}
use Rattle.journal_text.specs.declared.word.Word.TheVariants.{Long}
use Rattle.journal_text.specs.Grammar.{member_words}
use Rattle.journal_text.proofs.parts.put_members.Given as goal

abbrev pub invariant-loop-member : goal.invariant-loop-member
invariant-loop-member l = l.words ≡ l.fn.words ++ Long (length l.members) ∷ flat_map member_words (take l.member-index l.members)
