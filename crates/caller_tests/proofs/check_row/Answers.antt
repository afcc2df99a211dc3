-- The plain cache may go to the callers' threads.
use Rattle.std.proofs.Crossing.{crosses}
use denote.Param.Send.{sendable}
use Rattle.flat_core.proofs.Crossing.{core_send}
use Rattle.caller_tests.proofs.check_row.Goals as goal

pub said-requires-send-C : goal.said-requires-send-C
said-requires-send-C g c κs within = search (crosses, sendable, core_send) depth 60 fits 20000
