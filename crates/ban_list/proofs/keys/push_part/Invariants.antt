use Rattle.std.proofs.Common.{◌≡◌, ◌++◌, take}
use Rattle.std.specs.List.{flat_map}
use Rattle.ban_list.specs.Keys.{marked_byte}
use Rattle.ban_list.proofs.keys.push_part.Given as goal

abbrev pub invariant-loop-byte : goal.invariant-loop-byte
invariant-loop-byte l = l.key.items ≡ l.initial.key.items ++ flat_map marked_byte (take l.byte-index l.part)
