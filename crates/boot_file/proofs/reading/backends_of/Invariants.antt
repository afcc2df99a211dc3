use Rattle.std.proofs.Common.{◌≡◌, ◌++◌, drop}
use Rattle.boot_file.specs.Booting.{backends_of}
use Rattle.boot_file.proofs.reading.backends_of.Given as goal

abbrev pub invariant-loop-item : goal.invariant-loop-item
invariant-loop-item l = l.names ++ backends_of (drop l.item-index l.items) ≡ backends_of l.items
