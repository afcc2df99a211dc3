use Rattle.std.proofs.Common.{◌≡◌, ◌+◌, ◌*◌, ◌≤◌, ◌<◌, ℕ}
use Rattle.session_text.specs.Generated.{behind_steps, first_load, steps_text}
use Rattle.session_text.proofs.generated.generate.Given as goal

abbrev pub invariant-loop-before : goal.invariant-loop-before
invariant-loop-before l =
    (l.load ≡ behind_steps l.before (first_load l.seed)) × (l.out.items ≡ steps_text l.before 1 (first_load l.seed))
    × (l.load.state < 4294967296) × (l.load.next ≤ 3 * l.before + 1)
