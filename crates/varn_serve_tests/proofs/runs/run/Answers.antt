use denote.Param.Send.{sendable}
use Rattle.varn_serve_tests.proofs.Crossing.{clock_send, clock_sync, world_send}
use Rattle.varn_serve_tests.proofs.runs.run.Goals as goal

pub serve_with_std-requires-send-W : goal.serve_with_std-requires-send-W
serve_with_std-requires-send-W g c κs within = search (world_send, sendable) depth 60 fits 20000

pub serve_with_std-requires-send-W-Clock : goal.serve_with_std-requires-send-W-Clock
serve_with_std-requires-send-W-Clock g c κs within = search (clock_send, sendable) depth 60 fits 20000

pub serve_with_std-requires-sync-W-Clock : goal.serve_with_std-requires-sync-W-Clock
serve_with_std-requires-sync-W-Clock g c κs within = search (clock_sync, sendable) depth 60 fits 20000

pub serve_with_std-requires-send-V : goal.serve_with_std-requires-send-V
serve_with_std-requires-send-V g c κs within = search (world_send, sendable) depth 60 fits 20000

pub serve_with_std-requires-send-V-Clock : goal.serve_with_std-requires-send-V-Clock
serve_with_std-requires-send-V-Clock g c κs within = search (clock_send, sendable) depth 60 fits 20000

pub serve_with_std-requires-sync-V-Clock : goal.serve_with_std-requires-sync-V-Clock
serve_with_std-requires-sync-V-Clock g c κs within = search (clock_sync, sendable) depth 60 fits 20000
