use Rattle.std.proofs.Common.{◌≡◌, sym, ◌∙◌, get_or}
use Rattle.std.specs.Prelude.{Some}
use Rattle.vcl_tokens.specs.Steps.{next_state}
use Rattle.vcl_tokens.proofs.LongestLemmas.{scan_on}
use Rattle.vcl_tokens.proofs.longest.scan.Goals as goal

pub loop-i-preserved : goal.loop-i-preserved
loop-i-preserved c =
    let leads : next_state c.loop-i.state (get_or c.args.text.now c.loop-i.i 0) ≡ Some c.in-Some.later = sym (c.next.ensures) ∙ c.in-Some.is in
    rw (c.better_of-best.ensures, c.ends_as.ensures) (scan_on c.loop-i.state c.in-Some.later c.loop-i.i c.args.text.now c.loop-i.best _ c.loop-i-test.true leads c.loop-i.invariant)
