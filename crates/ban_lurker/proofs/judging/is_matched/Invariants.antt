use Rattle.std.proofs.Common.{◌≡◌, drop}
use Rattle.std.specs.List.{list_any}
use Rattle.cache_law.specs.Bans.{matches}
use Rattle.ban_lurker.proofs.judging.is_matched.Given as goal

abbrev pub invariant-loop-issued : goal.invariant-loop-issued
invariant-loop-issued l = list_any (matches l.object) (drop l.issued-index l.bans) ≡ list_any (matches l.object) l.bans
