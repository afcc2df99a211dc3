use Rattle.std.proofs.Common.{◌≡◌, vec_len}
use Rattle.vcl_code.specs.Statements.{with_chain}
use Rattle.vcl_code.proofs.arena.Arena.push_chain.Given as goal

abbrev pub invariant-actions : goal.invariant-actions
invariant-actions l = with_chain l.actions.items l.next l.self ≡ with_chain l.initial.actions.items l.initial.next l.initial.self

abbrev pub decreases-actions : goal.decreases-actions
decreases-actions l = vec_len l.actions
