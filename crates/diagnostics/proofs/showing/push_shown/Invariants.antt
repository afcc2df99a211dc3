use Rattle.std.proofs.Common.{◌≡◌, ◌++◌, take, map}
use Rattle.diagnostics.specs.Places.{shown_byte}
use Rattle.diagnostics.proofs.showing.push_shown.Given as goal

abbrev pub invariant-loop-byte : goal.invariant-loop-byte
invariant-loop-byte l = l.line.items ≡ l.fn.line.items ++ map shown_byte (take l.byte-index l.bytes)
