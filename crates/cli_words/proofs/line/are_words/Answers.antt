use Rattle.std.proofs.Common.{[], ◌∷◌, ◌++◌, refl}
use Rattle.std.proofs.lemmas.Bool.{false≢true}
use Rattle.cli_words.proofs.Reading.{as_far_on, no_word, reads_whole}
use Rattle.cli_words.proofs.line.are_words.Goals as goal

pub words-preserved : goal.words-preserved
words-preserved c =
    let far = c.words.invariant in
    let read = c.in-Some-behind_word.ensures.word in
    (far.0 ++ read.0 ∷ [], as_far_on c.args.bytes.now c.words.rest.now c.in-Some.start.now c.in-Some-behind_word.behind.now far.0 read.0 far.1 c.in-Some.ensures.start read.1)

pub returns-in-None : goal.returns-in-None
returns-in-None c =
    let far = c.words.invariant in
    (λ some. absurd (false≢true some), λ all. absurd (no_word c.args.bytes.now c.words.rest.now c.in-Some.start.now far.0 far.1 c.in-Some.ensures.start c.in-Some.ensures.some c.in-None.ensures.word all.0 all.1))

pub returns : goal.returns
returns c =
    let far = c.words.invariant in
    (λ _. (far.0, reads_whole c.args.bytes.now c.words.rest.now far.0 far.1 c.in_default.ensures.start), λ _. refl)
