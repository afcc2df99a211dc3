use Rattle.std.proofs.Common.{◌≡◌, drop}
use Rattle.std.specs.List.{list_all}
use Rattle.std.specs.Option.{option_copied}
use Rattle.cache_law.specs.Bans.{holds}
use Rattle.ban_expr.proofs.matching.all_hold.Given as goal

abbrev pub invariant-loop-place : goal.invariant-loop-place
invariant-loop-place l =
    list_all (holds l.issued l.object (option_copied l.request)) (drop l.place l.conditions)
    ≡ list_all (holds l.issued l.object (option_copied l.request)) l.conditions
