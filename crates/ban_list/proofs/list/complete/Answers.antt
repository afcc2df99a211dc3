use Rattle.std.proofs.Common.{arith}
use Rattle.ban_list.proofs.LineLemmas.{done_read, done_past}
use Rattle.ban_list.proofs.list.complete.Goals as goal

pub returns-then-at-len : goal.returns-then-at-len
returns-then-at-len c =
    done_read c.args.lines.now.items c.args.number c.in-Some.number c.newer_in-at.result c.index_mut.result.now c.complete.new.self c.in-Some.is c.newer_in-at.ensures
    c.index_mut.ensures.value c.complete.ensures

pub returns-else-at-len : goal.returns-else-at-len
returns-else-at-len c =
    done_past c.args.lines.now.items c.args.number c.in-Some.number c.newer_in-at.result c.in-Some.is c.newer_in-at.ensures
    (omega (arith, c.if-at-len.false, c.len.ensures, c.args.lines.now.ok))
