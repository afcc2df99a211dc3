use Rattle.std.proofs.Common.{◌≡◌, take}
use Rattle.object_heads.specs.Names.{joined, AreBytes}
use Rattle.object_heads.proofs.name.Name.of.Given as goal

abbrev pub invariant-loop-text : goal.invariant-loop-text
invariant-loop-text l = record { joined : l.joined.items ≡ joined (take l.text-index l.key); bytes : AreBytes (take l.text-index l.key) }
