-- The programs of a library may go from one thread to another, and be shared by them. That is so part by part: `search` finds it for
-- each, and not for the whole at once.
use Rattle.std.proofs.Crossing.{crosses}
use denote.Param.Send.{IsSend, IsSync, sendable, struct_send, struct_sync}
use denote.Struct.Declared as Declared
use Rattle.ban_expr.proofs.Crossing.{value_pattern_send, value_pattern_sync}
use Rattle.vcl_tree.specs.contracts.item.Tree as tree
use Rattle.vcl_tree.proofs.attribute.Attribute.TheLaws.TheKnot as attribute
use Rattle.vcl_tree.proofs.expression.Expression.TheLaws.TheKnot as expression
use Rattle.vcl_tree.proofs.statement.Block.TheLaws.TheKnot as block
use Rattle.vcl_check.specs.contracts.program.Program as checked
use Rattle.vcl_program.specs.contracts.compiled.Compiled as compiled
use Rattle.vcl_program.proofs.code.Code.TheSendSync as code
use denote.RattleType.{RattleType}
use Rattle.units.proofs.shared.Shared.TheSendSync as shared
use Rattle.units.proofs.text.Text.TheSendSync as text
use Rattle.world.proofs.kit.Kit.TheSendSync as kit
use Rattle.console_job.specs.contracts.job.ConsoleJob as console
use Rattle.vcl_library.specs.contracts.library.Kept as kept
use Rattle.vcl_library.specs.contracts.library.Library as library

-- ---- a text in numbers

ruleset trees = (crosses, attribute.crosses, expression.crosses, block.crosses, sendable)

tree_send : IsSend tree.the_field.row
tree_send = search trees depth 60 fits 20000

tree_sync : IsSync tree.the_field.row
tree_sync = struct_sync (Declared.shape tree.the_type) (search trees depth 60 fits 20000, (search trees depth 60 fits 20000, tt))

ruleset programs = (crosses, sendable, value_pattern_send, value_pattern_sync, code.the_send, code.the_sync, code.the_field_send, code.the_field_sync, text.the_send, text.the_sync)

checked_send : IsSend checked.the_field.row
checked_send =
    struct_send (Declared.shape checked.the_type) (tree_send, (search programs depth 60 fits 20000, (search programs depth 60 fits 20000, (search programs depth 60 fits 20000, (search programs depth 60 fits 20000, tt)))))

checked_sync : IsSync checked.the_field.row
checked_sync =
    struct_sync (Declared.shape checked.the_type) (tree_sync, (search programs depth 60 fits 20000, (search programs depth 60 fits 20000, (search programs depth 60 fits 20000, (search programs depth 60 fits 20000, tt)))))

pub compiled_send : IsSend compiled.the_field.row
compiled_send = struct_send (Declared.shape compiled.the_type) (checked_send, (search programs depth 60 fits 20000, (search programs depth 60 fits 20000, tt)))

pub compiled_sync : IsSync compiled.the_field.row
compiled_sync = struct_sync (Declared.shape compiled.the_type) (checked_sync, (search programs depth 60 fits 20000, (search programs depth 60 fits 20000, tt)))

-- ---- programs by number, whose functions are values of the type `T`

ruleset keeping = (crosses, sendable, compiled_send, compiled_sync, shared.the_send, shared.the_sync, text.the_send, text.the_sync)

pub kept_send : (T : RattleType) (m : _) → IsSend T → IsSync T → IsSend (kept.the_row T m)
kept_send T m s y = search keeping depth 60 fits 20000

pub kept_sync : (T : RattleType) (m : _) → IsSend T → IsSync T → IsSync (kept.the_row T m)
kept_sync T m s y = search keeping depth 60 fits 20000

pub library_send : (T : RattleType) (m : _) → IsSend T → IsSync T → IsSend (library.the_field T m).row
library_send T m s y =
    let k = kept_send T m s y in
    let l = kept_sync T m s y in
    struct_send (Declared.shape (library.the_type T m)) (search keeping depth 60 fits 20000, (search keeping depth 60 fits 20000, (search keeping depth 60 fits 20000, tt)))

pub library_sync : (T : RattleType) (m : _) → IsSend T → IsSync T → IsSync (library.the_field T m).row
library_sync T m s y =
    let k = kept_send T m s y in
    let l = kept_sync T m s y in
    struct_sync (Declared.shape (library.the_type T m)) (search keeping depth 60 fits 20000, (search keeping depth 60 fits 20000, (search keeping depth 60 fits 20000, tt)))

-- ---- a console whose outside may go from one thread to another

ruleset consoles = (crosses, sendable, shared.the_send, shared.the_sync, kit.the_field_send, kit.the_send)

pub console_send : (A S D K L T : RattleType) (m : _) → IsSend A → IsSend S → IsSend D → IsSend K → IsSend L → IsSend T → IsSync T → IsSend (console.the_field A S D K L T m).row
console_send A S D K L T m a s d k l t y =
    struct_send (Declared.shape (console.the_type A S D K L T m))
    (search consoles depth 60 fits 20000, (search consoles depth 60 fits 20000, (search consoles depth 60 fits 20000, (search consoles depth 60 fits 20000, tt))))
