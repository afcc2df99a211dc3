use Rattle.std.proofs.Common.{◌≡◌, ◌∷◌, take}
use Rattle.std.specs.List.{flat_map}
use Rattle.units.specs.Quoted.{piece_of}
use Rattle.units.proofs.quotes.quote.Given as goal

abbrev pub invariant-loop-byte : goal.invariant-loop-byte
invariant-loop-byte l = l.out.items ≡ 34 ∷ flat_map piece_of (take l.byte-index l.bytes)
