-- What was passed isn't the word.
use Rattle.std.proofs.Common.{◌≡◌, length}
use Rattle.std.specs.List.{list_any}
use Rattle.http_heads.specs.Lists.{is_word, parts}
use Rattle.http_heads.specs.declared.parts.Separators.TheVariants.{Commas}
use Rattle.http_heads.proofs.parts.has_part.Given as goal

abbrev pub invariant-loop-behind : goal.invariant-loop-behind
invariant-loop-behind l = list_any (is_word l.word) (parts Commas l.rest) ≡ list_any (is_word l.word) (parts Commas l.text)

abbrev pub decreases-loop-behind : goal.decreases-loop-behind
decreases-loop-behind l = length l.rest
