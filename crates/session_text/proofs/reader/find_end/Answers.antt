use Rattle.std.proofs.Common.{[], ◌++◌, refl}
use Rattle.session_text.proofs.Meanings.{as_far_first, as_far_on, fails_here, reads_here}
use Rattle.session_text.proofs.reader.find_end.Goals as goal

pub lines-init : goal.lines-init
lines-init c = ([], rw c.first-place.ensures (as_far_first c.args.bytes.now))

pub lines-preserved : goal.lines-preserved
lines-preserved c =
    let far = c.lines.invariant in
    let step = c.in-Ok.ensures.step in
    (far.0 ++ step.0, as_far_on c.args.bytes.now c.lines.rest.now c.in-Some.next.rest.now c.lines.place c.in-Ok.after far.0 step.0 _ far.1 c.in-Some.ensures.lines step.1 c.in-Ok.ensures.small)

pub returns-in-Err : goal.returns-in-Err
returns-in-Err c =
    let far = c.lines.invariant in
    fails_here c.args.bytes.now c.lines.rest.now c.in-Some.next.rest.now c.lines.place far.0 _ c.in-Err.kind far.1 c.in-Some.ensures.lines c.in-Err.ensures.step

pub returns-in-Some-end : goal.returns-in-Some-end
returns-in-Some-end c =
    let far = c.lines.invariant in
    (record { lines = far.0; end = c.in-Some-end.end }, reads_here c.args.bytes.now c.lines.rest.now c.lines.place far.0 c.in-Some-end.end far.1 c.in_default.ensures.lines c.in-Some-end.is, refl)
