-- A ban that was made ready may go from one thread to another, and a pattern that was built may be shared by threads too. That is so
-- part by part: `search` finds it for each part, and not for the whole at once.
use Rattle.std.proofs.Crossing.{crosses}
use Rattle.std.proofs.MapsCrossing as maps
use denote.Param.Send.{IsSend, IsSync, sendable, struct_send, struct_sync}
use denote.Struct.Declared as Declared
use Rattle.regex.below.regex_hir.proofs.hir.Hir.TheLaws.TheKnot as hir
use Rattle.regex.below.regex_dfa.proofs.dfa.Dfa.TheSendSync as dfa
use Rattle.regex.below.regex_meta.proofs.plan.Role.TheSendSync as role
use Rattle.regex.below.regex_literal.proofs.prefilter.Prefilter.TheSendSync as prefilter
use Rattle.regex.below.regex_literal.proofs.ladder.Ladder.TheSendSync as ladder
use Rattle.regex.below.regex_extract.proofs.frames.Frame.TheSendSync as frame
use Rattle.regex.below.regex_literal.proofs.caseless.Caseless.TheSendSync as caseless
use Rattle.regex.below.regex_literal.proofs.byte_set.ByteSet.TheSendSync as byte_set
use Rattle.regex.below.regex_meta.specs.contracts.program.Program as program
use Rattle.regex.specs.contracts.pattern.Pattern as pattern
use Rattle.regex.specs.contracts.bytes.regex.Regex as regex
use Rattle.vcl_values.specs.contracts.pattern.Pattern as value_pattern
use Rattle.units.proofs.sequence.Sequence.TheSendSync as sequence
use Rattle.cache_law.proofs.ban.Ban.TheSendSync as ban
use Rattle.cache_law.proofs.ban.Condition.TheSendSync as condition
use Rattle.ban_expr.specs.contracts.prepared.Prepared as prepared
use Rattle.ban_expr.specs.contracts.prepared.Prepared.TheInside as prepared_inside
use Rattle.units.proofs.shared.Shared.TheSendSync as shared
use Rattle.units.proofs.text.Text.TheSendSync as text

ruleset parts = (crosses, maps.crosses, hir.crosses, sendable, dfa.the_send, dfa.the_sync, dfa.the_field_send, dfa.the_field_sync, role.the_send, role.the_sync, role.the_field_send, role.the_field_sync, prefilter.the_send, prefilter.the_sync, ladder.the_send, ladder.the_sync, ladder.the_field_send, ladder.the_field_sync, frame.the_send, frame.the_sync, frame.the_field_send, frame.the_field_sync, caseless.the_send, caseless.the_sync, byte_set.the_send, byte_set.the_sync)

-- ---- a pattern that was built

program_send : IsSend program.the_field.row
program_send = struct_send (Declared.shape program.the_type)
    (search parts depth 60 fits 20000, (search parts depth 60 fits 20000, (search parts depth 60 fits 20000, (search parts depth 60 fits 20000, (search parts depth 60 fits 20000, (search parts depth 60 fits 20000, (search parts depth 60 fits 20000, (search parts depth 60 fits 20000, tt))))))))

program_sync : IsSync program.the_field.row
program_sync = struct_sync (Declared.shape program.the_type)
    (search parts depth 60 fits 20000, (search parts depth 60 fits 20000, (search parts depth 60 fits 20000, (search parts depth 60 fits 20000, (search parts depth 60 fits 20000, (search parts depth 60 fits 20000, (search parts depth 60 fits 20000, (search parts depth 60 fits 20000, tt))))))))

pattern_send : IsSend pattern.the_field.row
pattern_send = struct_send (Declared.shape pattern.the_type) (search parts depth 60 fits 20000, (search parts depth 60 fits 20000, (search parts depth 60 fits 20000, (program_send, tt))))

pattern_sync : IsSync pattern.the_field.row
pattern_sync = struct_sync (Declared.shape pattern.the_type) (search parts depth 60 fits 20000, (search parts depth 60 fits 20000, (search parts depth 60 fits 20000, (program_sync, tt))))

regex_send : IsSend regex.the_field.row
regex_send = struct_send (Declared.shape regex.the_type) (pattern_send, tt)

regex_sync : IsSync regex.the_field.row
regex_sync = struct_sync (Declared.shape regex.the_type) (pattern_sync, tt)

pub value_pattern_send : IsSend value_pattern.the_row
value_pattern_send = search (regex_send, sendable) depth 60 fits 20000

pub value_pattern_sync : IsSync value_pattern.the_row
value_pattern_sync = search (regex_sync, sendable) depth 60 fits 20000

-- ---- a ban that was made ready

ruleset readied = (crosses, sendable, value_pattern_send, value_pattern_sync, sequence.the_send, sequence.the_sync, shared.the_send, shared.the_sync, text.the_send, text.the_sync, condition.the_send, condition.the_sync, condition.the_field_send, condition.the_field_sync, ban.the_send, ban.the_sync, ban.the_field_send, ban.the_field_sync)

fields_send : IsSend prepared_inside.the_field.row
fields_send = struct_send (Declared.shape prepared_inside.the_type) (search readied depth 60 fits 20000, (search readied depth 60 fits 20000, tt))

pub prepared_send : IsSend prepared.the_row
prepared_send = search (fields_send, sendable) depth 60 fits 20000
