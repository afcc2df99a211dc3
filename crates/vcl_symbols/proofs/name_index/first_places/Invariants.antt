use Rattle.std.proofs.Common.{map, take}
use Rattle.vcl_symbols.specs.Names.{FindsFirst}
use Rattle.vcl_symbols.proofs.name_index.first_places.Given as goal

abbrev pub invariant-loop-place : goal.invariant-loop-place
invariant-loop-place l = FindsFirst l.places (map (λ name. name.now) (take l.place l.names))
