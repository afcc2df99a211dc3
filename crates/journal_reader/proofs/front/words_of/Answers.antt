use Rattle.std.proofs.Common.{rules, []}
use Rattle.journal_reader.specs.Fronts.{IsFirst, StandFirst}
use Rattle.journal_reader.proofs.Going.{going_on, going_ends}
use Rattle.journal_reader.proofs.front.words_of.Goals as goal

pub words-preserved : goal.words-preserved
words-preserved c =
    let first : IsFirst c.words.rest.now c.in-Some.word c.in-Some.behind.now = search rules in
    let words = c.in_ok-push.ensures.items in
    let columns = c.in_ok-push-2.ensures.items in
    rw words (rw columns (going_on c.args.line.now c.words.rest.now c.words.words.items c.words.columns.items c.in-Some.word c.in-Some.behind.now c.words.invariant first))

pub returns : goal.returns
returns c =
    let none : StandFirst c.words.rest.now [] = search rules in
    let columns = c.in_ok-push-3.ensures.items in
    rw columns (going_ends c.args.line.now c.words.rest.now c.words.words.items c.words.columns.items c.words.invariant none)
