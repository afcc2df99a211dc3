use Rattle.std.proofs.Common.{arith, ap, length}
use Rattle.console_link.proofs.LineFacts.{within_all}
use Rattle.console_link.proofs.lines.try_line.Goals as goal

pub take_line-requires-clause-ended : goal.take_line-requires-clause-ended
take_line-requires-clause-ended c = omega (arith, c.find_end-end.ensures, c.if-end-bytes.false, ap length c.bytes-2.ensures, ap length c.bytes.ensures, within_all c.bytes.result.now)
