-- A desk may go from one thread to another. That is so part by part: `search` finds it for each part, and not for the whole at once.
use Rattle.std.proofs.Crossing.{crosses}
use denote.Param.Send.{IsSend, sendable, struct_send}
use denote.Struct.Declared as Declared
use Rattle.units.proofs.shared.Shared.TheSendSync as shared
use Rattle.units.proofs.text.Text.TheSendSync as text
use Rattle.cache_law.proofs.state.OpenFetch.TheSendSync as open_fetch
use Rattle.cache_law.proofs.state.OpenRound.TheSendSync as open_round
use Rattle.cache_law.proofs.vcl.Counter.TheSendSync as counter
use Rattle.cache_law.proofs.vcl.ForcedHealth.TheSendSync as forced_health
use Rattle.cache_law.proofs.vcl.LoadedVcl.TheSendSync as loaded_vcl
use Rattle.cache_law.proofs.vcl.Vcl.TheSendSync as vcl
use Rattle.cache_desk.specs.contracts.desk.Desk as desk
use Rattle.cache_desk.specs.contracts.desk.Desk.TheInside as desk_inside

ruleset kept = (crosses, sendable, shared.the_send, shared.the_sync, text.the_send, text.the_sync, open_fetch.the_send, open_fetch.the_sync, open_fetch.the_field_send, open_fetch.the_field_sync, open_round.the_send, open_round.the_sync, open_round.the_field_send, open_round.the_field_sync, counter.the_send, counter.the_sync, counter.the_field_send, counter.the_field_sync, forced_health.the_send, forced_health.the_sync, forced_health.the_field_send, forced_health.the_field_sync, loaded_vcl.the_send, loaded_vcl.the_sync, loaded_vcl.the_field_send, loaded_vcl.the_field_sync, vcl.the_send, vcl.the_sync, vcl.the_field_send, vcl.the_field_sync)

desk_fields_send : IsSend desk_inside.the_field.row
desk_fields_send = struct_send (Declared.shape desk_inside.the_type)
    (search kept depth 60 fits 20000, (search kept depth 60 fits 20000, (search kept depth 60 fits 20000, (search kept depth 60 fits 20000, (search kept depth 60 fits 20000, (search kept depth 60 fits 20000, (search kept depth 60 fits 20000, (search kept depth 60 fits 20000, (search kept depth 60 fits 20000, (search kept depth 60 fits 20000, tt))))))))))

pub desk_send : IsSend desk.the_row
desk_send = search (desk_fields_send, sendable) depth 60 fits 20000
