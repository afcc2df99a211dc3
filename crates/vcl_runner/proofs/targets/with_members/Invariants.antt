use Rattle.std.proofs.Common.{◌≡◌, drop}
use Rattle.vcl_runner.specs.Targets.{with_members}
use Rattle.vcl_runner.proofs.targets.with_members.Given as goal

abbrev pub invariant-loop-one : goal.invariant-loop-one
invariant-loop-one l = with_members l.backends l.number l.out (drop l.one-index l.placed) ≡ with_members l.backends l.number l.initial.out l.placed
