-- The plain cache may go from one thread to another. That is so part by part: `search` finds it for each part, and not for the whole at
-- once.
use Rattle.std.proofs.Crossing.{crosses}
use denote.Param.Send.{IsSend, sendable, struct_send}
use denote.Struct.Declared as Declared
use denote.RattleType.{RattleType}
use Rattle.units.proofs.shared.Shared.TheSendSync as shared
use Rattle.units.proofs.text.Text.TheSendSync as text
use Rattle.flat_core.proofs.stored_object.StoredObject.TheSendSync as stored_object
use Rattle.flat_core.specs.contracts.stored_ban.StoredBan as stored_ban
use Rattle.flat_core.specs.contracts.stored_ban.StoredBan.TheInside as stored_ban_inside
use Rattle.flat_core.specs.contracts.shelf.FlatShelf as shelf
use Rattle.flat_core.specs.contracts.shelf.FlatShelf.TheInside as shelf_inside
use Rattle.cache_frame.specs.contracts.framed.Framed as framed
use Rattle.cache_frame.proofs.Crossing.{framed_send}
use Rattle.ban_expr.proofs.Crossing.{prepared_send}
pub use Rattle.ban_expr.proofs.Crossing.{value_pattern_send, value_pattern_sync}

ruleset kept = (crosses, sendable, shared.the_send, shared.the_sync, text.the_send, text.the_sync, stored_object.the_send, stored_object.the_sync, stored_object.the_field_send, stored_object.the_field_sync)

ban_fields_send : IsSend stored_ban_inside.the_field.row
ban_fields_send = struct_send (Declared.shape stored_ban_inside.the_type) (search kept depth 60 fits 20000, (search kept depth 60 fits 20000, (prepared_send, tt)))

ban_send : IsSend stored_ban.the_row
ban_send = search (ban_fields_send, sendable) depth 60 fits 20000

shelf_fields_send : IsSend shelf_inside.the_field.row
shelf_fields_send = struct_send (Declared.shape shelf_inside.the_type) (search kept depth 60 fits 20000, (search (kept, ban_send) depth 60 fits 20000, (search kept depth 60 fits 20000, tt)))

shelf_send : IsSend shelf.the_row
shelf_send = search (shelf_fields_send, sendable) depth 60 fits 20000

pub core_send : (M : RattleType) (m : _) → IsSend (framed.the_row shelf.the_row M m)
core_send M m = framed_send shelf.the_row M m shelf_send
