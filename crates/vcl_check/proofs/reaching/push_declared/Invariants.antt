use Rattle.std.proofs.Common.{◌≡◌, ◌++◌, take, map}
use Rattle.vcl_check.proofs.reaching.push_declared.Given as goal

abbrev pub invariant-loop-mention : goal.invariant-loop-mention
invariant-loop-mention l = map (λ name. name.now) l.out.items ≡ map (λ name. name.now) l.initial.out.items ++ map (λ s. s.name) (take l.mention-index l.declared)
