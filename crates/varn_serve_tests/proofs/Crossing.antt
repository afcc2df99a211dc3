-- A world in memory may go from one thread to another.
use Rattle.std.proofs.Crossing.{crosses}
use denote.Param.Send.{IsSend, IsSync, sendable, struct_send, struct_sync}
use denote.Struct.Declared as Declared
use Rattle.wire.proofs.kept.Kept.TheLaws.TheKnot as kept
use Rattle.wire.proofs.calls.Calls.TheSendSync as calls
use Rattle.wire.proofs.failing.FailingSink.TheSendSync as failing_sink
use Rattle.wire.proofs.failing_dialer.Dial.TheSendSync as dial
use Rattle.wire.proofs.failing_dialer.Plan.TheSendSync as plan
use Rattle.wire.proofs.failing_link.Direction.TheSendSync as direction
use Rattle.wire.proofs.failing_link.FailingLink.TheSendSync as failing_link
use Rattle.wire.proofs.peer.Peer.TheSendSync as peer
use Rattle.wire.proofs.scripted_clock.Script.TheSendSync as script
use Rattle.wire.proofs.scripted_clock.ScriptedClock.TheSendSync as scripted_clock
use Rattle.units.proofs.sequence.Sequence.TheSendSync as sequence
use Rattle.world.proofs.file.File.TheSendSync as file
use Rattle.world.proofs.kit.Kit.TheSendSync as kit
use Rattle.world.specs.contracts.planned_kit.KitClock as clock
use Rattle.world.specs.contracts.planned_kit.KitClock.TheInside as inside_clock
use Rattle.world.specs.contracts.failing_world.FailingWorld as world
use Rattle.world.specs.contracts.failing_world.FailingWorld.TheInside as inside

ruleset parts = (crosses, kept.crosses, sendable, sequence.the_send, calls.the_send, failing_sink.the_send, dial.the_field_send, dial.the_send, plan.the_field_send, plan.the_send, direction.the_send, failing_link.the_send, peer.the_field_send, peer.the_send, script.the_send, scripted_clock.the_send, file.the_field_send, file.the_send, kit.the_field_send, kit.the_send)

fields_send : IsSend inside.the_field.row
fields_send = struct_send (Declared.shape inside.the_type) (search parts depth 60 fits 20000, (search parts depth 60 fits 20000, (search parts depth 60 fits 20000, (search parts depth 60 fits 20000, (search parts depth 60 fits 20000, (search parts depth 60 fits 20000, (search parts depth 60 fits 20000, (search parts depth 60 fits 20000, (search parts depth 60 fits 20000, (search parts depth 60 fits 20000, (search parts depth 60 fits 20000, (search parts depth 60 fits 20000, (search parts depth 60 fits 20000, tt)))))))))))))

pub world_send : IsSend world.the_row
world_send = search (fields_send, sendable) depth 60 fits 20000

ruleset shared_parts = (crosses, kept.crosses, sendable, calls.the_sync, failing_sink.the_sync, dial.the_field_sync, dial.the_sync, plan.the_field_sync, plan.the_sync, direction.the_sync, failing_link.the_sync, peer.the_field_sync, peer.the_sync, script.the_sync, scripted_clock.the_sync, file.the_field_sync, file.the_sync, kit.the_field_sync, kit.the_sync)

clock_fields_send : IsSend inside_clock.the_field.row
clock_fields_send = struct_send (Declared.shape inside_clock.the_type) (search parts depth 60 fits 20000, (search parts depth 60 fits 20000, tt))

pub clock_send : IsSend clock.the_row
clock_send = search (clock_fields_send, sendable) depth 60 fits 20000

clock_fields_sync : IsSync inside_clock.the_field.row
clock_fields_sync = struct_sync (Declared.shape inside_clock.the_type) (search shared_parts depth 60 fits 20000, (search shared_parts depth 60 fits 20000, tt))

pub clock_sync : IsSync clock.the_row
clock_sync = search (clock_fields_sync, sendable) depth 60 fits 20000
