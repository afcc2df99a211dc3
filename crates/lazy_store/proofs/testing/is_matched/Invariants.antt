use Rattle.std.proofs.Common.{◌≡◌, false, take}
use Rattle.std.specs.List.{list_any}
use Rattle.std.specs.Option.{option_copied}
use Rattle.lazy_store.specs.Testing.{is_hit}
use Rattle.lazy_store.proofs.testing.is_matched.Given as goal

abbrev pub invariant-loop-at : goal.invariant-loop-at
invariant-loop-at l = list_any (is_hit l.object (option_copied l.request)) (take l.at l.bans.lines) ≡ false
