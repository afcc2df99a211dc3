use Rattle.std.proofs.Common.{sym, subst, List, ℕ, length, ◌<◌, drop}
use Rattle.std.proofs.lemmas.List.{take_rest}
use Rattle.cli_words.proofs.Reading.{word_quoted, quoted_shorter, quoted_from}
use Rattle.cli_words.proofs.word.behind_word.Goals as goal

pub returns-in_err-behind-clause-word : goal.returns-in_err-behind-clause-word
returns-in_err-behind-clause-word c = rw c.from_residual.ensures (λ word rest h. quoted_from word c.args.start.now rest (word_quoted word c.args.start.now rest c.if-start-eq34.true h) c.in_err-behind.ensures)

pub returns-then-start-eq34-clause-shorter : goal.returns-then-start-eq34-clause-shorter
returns-then-start-eq34-clause-shorter c =
    let found = c.in_ok-behind.ensures in
    let at : List ℕ → Type 0 = λ r. length r < length c.args.start.now in
    subst at (sym (take_rest c.args.start.now c.in_ok-behind.behind)) (quoted_shorter found.0 c.args.start.now (drop c.in_ok-behind.behind c.args.start.now) found.1.2)
