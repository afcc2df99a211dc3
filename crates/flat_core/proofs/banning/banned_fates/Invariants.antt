use Rattle.std.proofs.Common.{◌≡◌, take, map}
use Rattle.flat_core.specs.Banning.{banned_fate}
use Rattle.flat_core.proofs.banning.banned_fates.Given as goal

-- those before this place are done
abbrev pub invariant-loop-place : goal.invariant-loop-place
invariant-loop-place l = l.fates ≡ map (banned_fate l.moment l.ban) (take l.place l.objects.items)
