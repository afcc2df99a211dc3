use Rattle.std.proofs.Common.{rules, ◌==◌}
use Rattle.cache_law.specs.declared.state.OpenRound.{OpenRound}
use Rattle.cache_desk.proofs.Passes.{find-front, find-behind}
use Rattle.cache_desk.proofs.rounds.round_of.Goals as goal

pub returns-in-Some : goal.returns-in-Some
returns-in-Some c = find-front (λ (round : OpenRound). round.caller == c.args.caller) c.args.newer.now c.args.older.now _ c.in-Some.ensures

pub returns-in-None : goal.returns-in-None
returns-in-None c = find-behind (λ (round : OpenRound). round.caller == c.args.caller) c.args.newer.now c.args.older.now _ c.in-None.ensures (search rules)
