use Rattle.std.proofs.Common.{◌≡◌, ◌++◌, drop}
use Rattle.diagnostics.specs.Places.{fillers}
use Rattle.diagnostics.proofs.showing.fillers.Given as goal

abbrev pub invariant-loop-byte : goal.invariant-loop-byte
invariant-loop-byte l = l.filled.items ++ fillers (drop l.byte-index l.bytes) ≡ fillers l.bytes
