use Rattle.cli_words.proofs.Reading.{words_same}
use Rattle.cli_words.proofs.line.one_list.Goals as goal

pub returns : goal.returns
returns c = λ v w h k. words_same v w c.args.line.now h.1 k.1
