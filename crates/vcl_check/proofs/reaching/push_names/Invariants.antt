use Rattle.std.proofs.Common.{◌≡◌, ◌++◌, take, map}
use Rattle.vcl_check.proofs.reaching.push_names.Given as goal

abbrev pub invariant-loop-name : goal.invariant-loop-name
invariant-loop-name l = map (λ name. name.now) l.out.items ≡ map (λ name. name.now) l.initial.out.items ++ map (λ name. name.now) (take l.name-index l.names)
