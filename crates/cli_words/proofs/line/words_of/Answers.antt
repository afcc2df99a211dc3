use Rattle.std.proofs.Common.{List, ℕ, subst, sym}
use Rattle.std.proofs.lemmas.Option.{MatchOption-at_none, MatchOption-at_some}
use Rattle.cli_words.proofs.Reading.{AsFar, as_far_on, no_word, reads_whole}
use Rattle.cli_words.proofs.line.words_of.Goals as goal

pub unreachable-requires : goal.unreachable-requires
unreachable-requires c =
    no_word c.args.bytes.now c.words.rest.now c.in-Some.start.now c.words.words c.words.invariant c.in-Some.ensures.start c.in-Some.ensures.some (MatchOption-at_none _ _ c.in_default-found.is c.in_ok-found.ensures.word) c.requires.0 c.requires.1

pub words-preserved : goal.words-preserved
words-preserved c =
    let found = MatchOption-at_some _ _ _ c.in-Some-found.is c.in_ok-found.ensures.word in
    let far = as_far_on c.args.bytes.now c.words.rest.now c.in-Some.start.now c.in-Some-found.behind.now c.words.words c.in-Some-found.word c.words.invariant c.in-Some.ensures.start found in
    let at : List (List ℕ) → Type 0 = λ w. AsFar c.args.bytes.now c.in-Some-found.behind.now w in
    subst at (sym c.in_ok-push.ensures.ok) far

pub returns : goal.returns
returns c = reads_whole c.args.bytes.now c.words.rest.now c.words.words c.words.invariant c.in_default.ensures.start
