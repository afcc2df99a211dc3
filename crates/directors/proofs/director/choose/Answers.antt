use Rattle.std.proofs.Common.{◌≡◌, subst}
use Rattle.directors.specs.Choice.{choice}
use Rattle.directors.proofs.ChoiceValues.{choice_is}
use Rattle.directors.proofs.director.choose.Goals as goal

pub returns-clause-value : goal.returns-clause-value
returns-clause-value c =
    subst (λ weights. c.by_kind.result ≡ choice c.args.kind weights c.args.next c.args.word) c.as_slice.ensures
    (choice_is c.args.kind c.as_slice.result.now c.args.next c.args.word c.by_kind.result c.by_kind.ensures.chosen (λ none_. c.by_kind.ensures.none.0 none_))
