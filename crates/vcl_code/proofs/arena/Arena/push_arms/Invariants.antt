use Rattle.std.proofs.Common.{◌≡◌, vec_len}
use Rattle.vcl_code.specs.Statements.{with_arms}
use Rattle.vcl_code.proofs.arena.Arena.push_arms.Given as goal

abbrev pub invariant-arms : goal.invariant-arms
invariant-arms l = with_arms l.arms.items l.otherwise l.self ≡ with_arms l.initial.arms.items l.initial.otherwise l.initial.self

abbrev pub decreases-arms : goal.decreases-arms
decreases-arms l = vec_len l.arms
