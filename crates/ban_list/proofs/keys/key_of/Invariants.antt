use Rattle.std.proofs.Common.{◌≡◌, take}
use Rattle.std.specs.List.{flat_map}
use Rattle.ban_list.specs.Keys.{condition_key}
use Rattle.ban_list.proofs.keys.key_of.Given as goal

abbrev pub invariant-loop-condition : goal.invariant-loop-condition
invariant-loop-condition l = l.key.items ≡ flat_map condition_key (take l.condition-index l.ban.conditions)
