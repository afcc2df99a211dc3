use Rattle.std.proofs.Common.{◌<◌, ◌%◌, length, refl, arith}
use Rattle.std.proofs.lemmas.Nat.{mod_below}
use Rattle.directors.proofs.RoundLemmas.{IsNextRound-behind, IsNextRound-first}
use Rattle.directors.proofs.director.next_round.Goals as goal

pub returns-in-Some-clause-chosen : goal.returns-in-Some-clause-chosen
returns-in-Some-clause-chosen c = IsNextRound-behind _ _ _ c.in-Some.ensures.chosen

pub returns-in-None-clause-chosen : goal.returns-in-None-clause-chosen
returns-in-None-clause-chosen c =
    let low : c.args.next % length c.args.weights.now < length c.args.weights.now = mod_below c.args.next (length c.args.weights.now) (omega arith) in
    IsNextRound-first c.args.weights.now _ c.first_healthy.result low (c.in-None.ensures.none.0 refl) c.first_healthy.ensures.chosen
