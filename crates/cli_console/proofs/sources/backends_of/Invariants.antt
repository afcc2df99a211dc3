use Rattle.std.proofs.Common.{◌≡◌, ◌++◌, drop}
use Rattle.cli_console.specs.Sources.{backends_of}
use Rattle.cli_console.proofs.sources.backends_of.Given as goal

abbrev pub invariant-loop-item : goal.invariant-loop-item
invariant-loop-item l = l.names ++ backends_of (drop l.item-index l.items) ≡ backends_of l.items
