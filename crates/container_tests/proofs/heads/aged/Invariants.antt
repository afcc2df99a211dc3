use Rattle.std.proofs.Common.{◌≡◌, take}
use Rattle.container_tests.proofs.heads.aged.Given as goal

abbrev pub invariant-loop-text : goal.invariant-loop-text
invariant-loop-text l = l.key.items ≡ take l.text-index l.text-items
