use Rattle.std.proofs.Common.{◌≡◌, take}
use Rattle.std.specs.Prelude.{map}
use Rattle.cli_console.specs.Listings.{vcl_text}
use Rattle.cli_console.proofs.listings.write_vcls.Given as goal

abbrev pub invariant-loop-line : goal.invariant-loop-line
invariant-loop-line l = l.texts ≡ map vcl_text (take l.line-index l.lines)
