use Rattle.directors.proofs.ChoiceLemmas.{choice_same}
use Rattle.directors.proofs.director.one_choice.Goals as goal

pub returns : goal.returns
returns c = λ x y first second. choice_same c.args.kind c.args.members.now c.args.next c.args.word x y first second
