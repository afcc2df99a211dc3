use Rattle.std.proofs.Common.{◌≡◌, ℕ, ◌+◌, ◌*◌, ◌≤◌, ap, arith}
use Rattle.session_text.specs.Generated.{first_load}
use Rattle.session_text.proofs.Generating.{one_step_on}
use Rattle.session_text.proofs.generated.generate.Goals as goal

-- src/generated.rt:235:5
pub loop-before-preserved : goal.loop-before-preserved
loop-before-preserved c =
    let i = c.loop-before.invariant in
    let e = c.in_ok-push_step.ensures in
    let both = one_step_on c.loop-before.before (c.from.result + 1) (first_load c.args.seed) c.loop-before.load c.push_step.new.self c.loop-before.out.items c.push_step.new.out.items i.0 i.1 (ap (λ m. m + 1) c.from.ensures) e.load e.text in
    let before : c.loop-before.load.next ≤ 3 * c.loop-before.before + 1 = i.3 in
    let after : c.push_step.new.self.next ≤ c.loop-before.load.next + 3 = e.next in
    (both.0, both.1, e.state, omega (arith, before, after))
