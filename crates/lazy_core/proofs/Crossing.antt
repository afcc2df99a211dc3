-- The lazy cache may go from one thread to another. That is so part by part: `search` finds it for each part, and not for the whole at
-- once.
use Rattle.std.proofs.Crossing.{crosses}
use Rattle.std.proofs.MapsCrossing as maps
use denote.Param.Send.{IsSend, sendable, struct_send}
use denote.Struct.Declared as Declared
use denote.RattleType.{RattleType}
use Rattle.units.proofs.sequence.Sequence.TheSendSync as sequence
use Rattle.units.proofs.shared.Shared.TheSendSync as shared
use Rattle.units.proofs.text.Text.TheSendSync as text
use Rattle.cache_law.proofs.object.ObjectView.TheSendSync as object_view
use Rattle.ban_expr.proofs.Crossing.{prepared_send}
use Rattle.ban_list.specs.contracts.line.Line as line
use Rattle.ban_list.specs.contracts.line.Line.TheInside as line_inside
use Rattle.ban_list.specs.contracts.list.BanList as bans
use Rattle.ban_list.specs.contracts.list.BanList.TheInside as bans_inside
use Rattle.object_heads.specs.contracts.heads.Heads as heads
use Rattle.object_heads.specs.contracts.heads.Heads.TheInside as heads_inside
use Rattle.room_lru.specs.contracts.room.RoomLru as room
use Rattle.room_lru.specs.contracts.room.RoomLru.TheInside as room_inside
use Rattle.xkey_index.specs.contracts.index.XkeyIndex as xkeys
use Rattle.xkey_index.specs.contracts.index.XkeyIndex.TheInside as xkeys_inside
use Rattle.lazy_store.specs.contracts.placement.Placement as placement
use Rattle.lazy_store.specs.contracts.store.Store as store
use Rattle.lazy_store.specs.contracts.store.Store.TheInside as store_inside
use Rattle.lazy_core.specs.contracts.shelf.LazyShelf as shelf
use Rattle.lazy_core.proofs.IndexMaps.{IndexMap-send}
use Rattle.cache_frame.specs.contracts.framed.Framed as framed
use Rattle.cache_frame.proofs.Crossing.{framed_send}

ruleset kept = (crosses, maps.crosses, IndexMap-send, sendable, sequence.the_send, sequence.the_sync, shared.the_send, shared.the_sync, text.the_send, text.the_sync, object_view.the_send, object_view.the_sync, object_view.the_field_send, object_view.the_field_sync)

-- ---- bans

line_fields_send : IsSend line_inside.the_field.row
line_fields_send = struct_send (Declared.shape line_inside.the_type)
    (search kept depth 60 fits 20000, (search kept depth 60 fits 20000, (prepared_send, (search kept depth 60 fits 20000, (search kept depth 60 fits 20000, tt)))))

line_send : IsSend line.the_row
line_send = search (line_fields_send, sendable) depth 60 fits 20000

bans_fields_send : IsSend bans_inside.the_field.row
bans_fields_send = struct_send (Declared.shape bans_inside.the_type)
    (search kept depth 60 fits 20000, (search (kept, line_send) depth 60 fits 20000, (search kept depth 60 fits 20000, (search kept depth 60 fits 20000, (search kept depth 60 fits 20000, (search kept depth 60 fits 20000, tt))))))

bans_send : IsSend bans.the_row
bans_send = search (bans_fields_send, sendable) depth 60 fits 20000

-- ---- objects

heads_fields_send : IsSend (heads_inside.the_field placement.the_row).row
heads_fields_send = struct_send (Declared.shape (heads_inside.the_type placement.the_row)) (search kept depth 60 fits 20000, (search kept depth 60 fits 20000, tt))

heads_send : IsSend (heads.the_row placement.the_row)
heads_send = search (heads_fields_send, sendable) depth 60 fits 20000

room_fields_send : IsSend room_inside.the_field.row
room_fields_send = struct_send (Declared.shape room_inside.the_type) (search kept depth 60 fits 20000, (search kept depth 60 fits 20000, (search kept depth 60 fits 20000, tt)))

room_send : IsSend room.the_row
room_send = search (room_fields_send, sendable) depth 60 fits 20000

xkeys_fields_send : IsSend xkeys_inside.the_field.row
xkeys_fields_send = struct_send (Declared.shape xkeys_inside.the_type) (search kept depth 60 fits 20000, (search kept depth 60 fits 20000, tt))

xkeys_send : IsSend xkeys.the_row
xkeys_send = search (xkeys_fields_send, sendable) depth 60 fits 20000

-- ---- the cache

store_fields_send : IsSend store_inside.the_field.row
store_fields_send = struct_send (Declared.shape store_inside.the_type)
    (heads_send, (xkeys_send, (room_send, (bans_send, (search kept depth 60 fits 20000, (search kept depth 60 fits 20000, (search kept depth 60 fits 20000, tt)))))))

store_send : IsSend store.the_row
store_send = search (store_fields_send, sendable) depth 60 fits 20000

shelf_fields_send : IsSend shelf.the_field.row
shelf_fields_send = struct_send (Declared.shape shelf.the_type) (store_send, tt)

shelf_send : IsSend shelf.the_row
shelf_send = search (shelf_fields_send, sendable) depth 60 fits 20000

pub core_send : (M : RattleType) (m : _) → IsSend (framed.the_row shelf.the_row M m)
core_send M m = framed_send shelf.the_row M m shelf_send
