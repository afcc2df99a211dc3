use Rattle.std.proofs.Common.{sym, subst, List, ℕ, length, ◌<◌, drop}
use Rattle.std.proofs.lemmas.List.{take_rest}
use Rattle.std.proofs.lemmas.Option.{MatchOption-at_none, MatchOption-at_some}
use Rattle.cli_words.proofs.Reading.{quoted_shorter, quoted_from}
use Rattle.cli_words.proofs.word.read_quoted.Goals as goal

pub returns-in_default-clause-word : goal.returns-in_default-clause-word
returns-in_default-clause-word c = λ word rest h. quoted_from word c.args.start.now rest h (MatchOption-at_none _ _ c.in_default.is c.in_ok-text.ensures.ok)

pub returns-clause-shorter : goal.returns-clause-shorter
returns-clause-shorter c =
    let found = MatchOption-at_some _ _ _ c.in-Some.is c.in_ok-text.ensures.ok in
    let at : List ℕ → Type 0 = λ r. length r < length c.args.start.now in
    subst at (sym (take_rest c.args.start.now c.in-Some.behind)) (quoted_shorter _ c.args.start.now (drop c.in-Some.behind c.args.start.now) found.2)
