-- A framed cache may go from one thread to another, where its shelf may. That is so part by part: `search` finds it for each part, and
-- not for the whole at once.
use Rattle.std.proofs.Crossing.{crosses}
use denote.Param.Send.{IsSend, sendable, struct_send, view_send}
use denote.Struct.Declared as Declared
use denote.RattleType.{RattleType}
use Rattle.units.proofs.shared.Shared.TheSendSync as shared
use Rattle.units.proofs.text.Text.TheSendSync as text
use Rattle.cache_law.proofs.state.OpenFetch.TheSendSync as open_fetch
use Rattle.cache_law.proofs.state.OpenRound.TheSendSync as open_round
use Rattle.cache_law.proofs.vcl.Counter.TheSendSync as counter
use Rattle.cache_law.proofs.vcl.ForcedHealth.TheSendSync as forced_health
use Rattle.cache_law.proofs.vcl.LoadedVcl.TheSendSync as loaded_vcl
use Rattle.cache_law.proofs.vcl.Vcl.TheSendSync as vcl
use Rattle.cache_law.proofs.call.Entry.TheSendSync as entry
use Rattle.cache_law.proofs.setting.Params.TheSendSync as params
use Rattle.cache_frame.specs.contracts.framed.Framed as framed
use Rattle.cache_frame.specs.contracts.framed.Framed.TheInside as framed_inside
use Rattle.cache_desk.proofs.Crossing.{desk_send}

ruleset kept = (crosses, sendable, shared.the_send, shared.the_sync, text.the_send, text.the_sync, open_fetch.the_send, open_fetch.the_sync, open_fetch.the_field_send, open_fetch.the_field_sync, open_round.the_send, open_round.the_sync, open_round.the_field_send, open_round.the_field_sync, counter.the_send, counter.the_sync, counter.the_field_send, counter.the_field_sync, forced_health.the_send, forced_health.the_sync, forced_health.the_field_send, forced_health.the_field_sync, loaded_vcl.the_send, loaded_vcl.the_sync, loaded_vcl.the_field_send, loaded_vcl.the_field_sync, vcl.the_send, vcl.the_sync, vcl.the_field_send, vcl.the_field_sync)

ruleset whole = (kept, desk_send, entry.the_send, entry.the_sync, entry.the_field_send, entry.the_field_sync, params.the_send, params.the_sync, params.the_field_send, params.the_field_sync)

framed_fields_send : (S M : RattleType) (shelf : _) → IsSend S → IsSend (framed_inside.the_field S M shelf).row
framed_fields_send S M shelf s =
    struct_send (Declared.shape (framed_inside.the_type S M shelf))
    (search whole depth 60 fits 20000, (search whole depth 60 fits 20000, (search whole depth 60 fits 20000, (search whole depth 60 fits 20000, (search whole depth 60 fits 20000, (desk_send, (s, tt)))))))

inside_send : (S M : RattleType) (shelf : _) → IsSend S → IsSend (framed_inside.the_row S M shelf)
inside_send S M shelf s = let f = framed_fields_send S M shelf s in search (f, sendable) depth 60 fits 20000

pub framed_send : (S M : RattleType) (shelf : _) → IsSend S → IsSend (framed.the_row S M shelf)
framed_send S M shelf s = view_send _ _ _ _ _ (inside_send S M shelf s)
