use Rattle.cli_words.proofs.Reading.{words_same}
use Rattle.cli_words.proofs.line.split_line.Goals as goal

pub returns-in-Ok-clause-only : goal.returns-in-Ok-clause-only
returns-in-Ok-clause-only c = λ w h. words_same c.in-Ok.words w c.args.line.now c.in-Ok.ensures h.1
