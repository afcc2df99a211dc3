use Rattle.std.proofs.Common.{◌≡◌, ◌++◌, take}
use Rattle.cli_console.proofs.Lines.{joined_behind}
use Rattle.cli_console.proofs.listings.push_joined.Given as goal

abbrev pub invariant-loop-line : goal.invariant-loop-line
invariant-loop-line l = l.out.items ≡ l.initial.out.items ++ joined_behind (take l.line-index l.rest)
