-- What a room got is the front of what was left, and the rest is left behind it.
use Rattle.std.proofs.Common.{List, ℕ, ◌++◌, take, drop, sym, ◌∙◌, ap}
use Rattle.std.proofs.Math.Seq.{take-add}
use Rattle.std.proofs.lemmas.List.{take-append-drop, drop-drop}
use Rattle.wire.proofs.giving.give.Goals as goal

pub returns-clause-given : goal.returns-clause-given
returns-clause-given c =
    let at = c.args.at.now in
    let input = c.args.input.now in
    let count = c.fill_from-count.result in
    take-add at count input ∙ ap (λ (l : List ℕ). take at input ++ l) (sym c.fill_from-count.ensures.filled)

pub returns-clause-left : goal.returns-clause-left
returns-clause-left c =
    let at = c.args.at.now in
    let input = c.args.input.now in
    let count = c.fill_from-count.result in
    sym (take-append-drop count (drop at input)) ∙ ap (λ (l : List ℕ). l ++ drop count (drop at input)) (sym c.fill_from-count.ensures.filled)
    ∙ ap (λ (l : List ℕ). take count c.fill_from-count.new.into ++ l) (drop-drop count at input)

pub returns-clause-behind : goal.returns-clause-behind
returns-clause-behind c = sym (drop-drop c.fill_from-count.result c.args.at.now c.args.input.now)
