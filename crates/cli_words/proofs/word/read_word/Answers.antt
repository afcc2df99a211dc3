use Rattle.std.proofs.lemmas.Option.{MatchOption-at_none}
use Rattle.cli_words.proofs.Reading.{word_quoted}
use Rattle.cli_words.proofs.word.read_word.Goals as goal

pub returns-in_default-clause-word : goal.returns-in_default-clause-word
returns-in_default-clause-word c = λ word rest h.
    MatchOption-at_none _ _ c.in_default.is c.in_ok-word.ensures.word word rest (word_quoted word c.args.start.now rest c.if-start-eq34.true h)
