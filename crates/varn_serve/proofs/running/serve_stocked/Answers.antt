-- Listening left what the world was handed back as it was, the console was at work where there is a port for it, and the cache may go to
-- the threads of workers and console.
use Rattle.std.proofs.Common.{inr}
use Rattle.std.proofs.Crossing.{crosses}
use denote.Param.Send.{sendable}
use Rattle.cache_law.specs.Beginning.{beginning_of}
use Rattle.wire.specs.Telling.{told_by}
use Rattle.lazy_core.proofs.Crossing.{core_send}
use Rattle.console_job.proofs.Operated.{all_closed, may_operate, operators_told, places_at, same_told}
use Rattle.varn_serve.specs.Run.{limits_of}
use Rattle.varn_serve.proofs.Crossing.{console_send}
use Rattle.varn_serve.proofs.Ends.{halted_more}
use Rattle.varn_serve.proofs.running.serve_stocked.Goals as goal

pub close_run-requires-clause-closed : goal.close_run-requires-clause-closed
close_run-requires-clause-closed g c κs within =
    let done = rw c.in-Ok.ensures.begins at c.in-Some.ensures.done in
    let tell = told_by g.V.Listener.Link.Link.flow g.V.Listener.Link.Link.read_faults g.V.Listener.Link.Link.write_faults g.V.Listener.Link.Link.peer g.V.Listener.Link.Link.is_open in
    all_closed _ tell g.V.Shelf.Shelf.faults g.V.Clock.Clock.readings g.V.Listener.Listener.given
    (beginning_of (limits_of c.args.order.now) c.args.boot) c.in-Some.outcome.history c.in_ok-console.console c.in-Some.outcome.done done

pub returns-in-Some-clause-ran : goal.returns-in-Some-clause-ran
returns-in-Some-clause-ran g c =
    let ran = rw c.in-Ok.ensures.begins at c.in-Some.ensures.ran in
    let places = places_at c.in-Some.outcome.done in
    rw (← c.listen.ensures.kits, c.close_run.ensures.history, c.close_run.ensures.keepers, c.close_run.ensures.connections, c.close_run.ensures.console, ← places) ran

pub returns-in-Some-clause-operated : goal.returns-in-Some-clause-operated
returns-in-Some-clause-operated g c =
    let done = rw c.in-Ok.ensures.begins at c.in-Some.ensures.done in
    let tell = told_by g.V.Listener.Link.Link.flow g.V.Listener.Link.Link.read_faults g.V.Listener.Link.Link.write_faults g.V.Listener.Link.Link.peer g.V.Listener.Link.Link.is_open in
    let old = c.args.operators.now in
    let mid = c.console_at.new.operators in
    let new = c.close_run.new.operators in
    let same = same_told (g.V.World.links old) (g.V.World.links mid) (g.V.World.kits old) (g.V.World.kits mid) (g.V.World.given old) (g.V.World.given mid)
    (g.V.World.shelf_faults old) (g.V.World.shelf_faults mid) c.console_at.ensures.links c.console_at.ensures.kits c.console_at.ensures.given c.console_at.ensures.shelves in
    let gone = rw same at c.close_run.ensures.gone in
    rw (c.close_run.ensures.history, c.close_run.ensures.console)
    (may_operate _ tell g.V.Shelf.Shelf.faults g.V.Clock.Clock.readings g.V.Listener.Listener.given c.args.vmods.stored (g.V.World.files old)
    (beginning_of (limits_of c.args.order.now) c.args.boot) c.in-Some.outcome.history c.args.order.now.cli c.in_ok-console.console c.in-Some.outcome.done
    (operators_told (g.V.World.links old) (g.V.World.kits old) (g.V.World.given old) (g.V.World.shelf_faults old))
    (operators_told (g.V.World.links new) (g.V.World.kits new) (g.V.World.given new) (g.V.World.shelf_faults new))
    c.in_ok-console.ensures.open done gone)

pub serve_all-requires-send-C : goal.serve_all-requires-send-C
serve_all-requires-send-C g c κs within = search (crosses, sendable, core_send) depth 60 fits 20000

pub serve_all-requires-send-J : goal.serve_all-requires-send-J
serve_all-requires-send-J g c κs within = search (crosses, sendable, console_send) depth 60 fits 20000

pub returns-in_err-console-clause-halted : goal.returns-in_err-console-clause-halted
returns-in_err-console-clause-halted g c = halted_more _ _ inr c.from_residual.result _ c.from_residual.ensures.1 c.in_err-console.ensures.halted
