-- The first LF ends the first line.
use Rattle.std.proofs.Common.{◌≡◌, ◌+◌, ◌-◌, arith, length, take, drop, add-one, length-drop}
use Rattle.std.proofs.lemmas.List.{take_all}
use Rattle.http_heads.proofs.LineLemmas.{first_line, no_line}
use Rattle.http_heads.proofs.lines.next_line.Goals as goal

pub returns-then-byte-eq10-clause-line : goal.returns-then-byte-eq10-clause-line
returns-then-byte-eq10-clause-line c =
    let behind = drop (c.loop-i.i + 1) c.args.bytes.now in
    let all : take (length c.args.bytes.now - (c.loop-i.i + 1)) behind ≡ behind =
    take_all _ behind (omega (arith, length-drop (c.loop-i.i + 1) c.args.bytes.now)) in
    rw (all, add-one) (first_line c.args.bytes.now c.loop-i.i c.loop-i-test.true c.loop-i.invariant c.if-byte-eq10.true)

pub returns-clause-line : goal.returns-clause-line
returns-clause-line c = no_line c.args.bytes.now (λ k lt. c.loop-i.invariant k (omega arith))
