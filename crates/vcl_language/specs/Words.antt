-- Words of return by their names, from the table in src/words.rt.
use Rattle.std.specs.Prelude.{ℕ, List, Option, option_and_then, position, slice_get}
use Rattle.std.specs.Str.{bytes_eq}
use Rattle.vcl_language.specs.declared.words.Word.{Word}
use Rattle.vcl_language.specs.declared.words.TheConstants.{WORDS, WORD_NAMES}

unfoldable pub word_named : List ℕ → Option Word
word_named name = option_and_then (λ k. slice_get WORDS k) (position (λ known. bytes_eq known.now name) WORD_NAMES)
