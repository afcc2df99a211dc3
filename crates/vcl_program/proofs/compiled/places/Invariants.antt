use Rattle.std.proofs.Common.{◌≡◌, map, take, slice_get, Some}
use Rattle.vcl_program.proofs.compiled.places.Given as goal

abbrev pub invariant-loop-source : goal.invariant-loop-source
invariant-loop-source l = map (λ k. slice_get l.texts k) l.numbers.items ≡ map (λ s. Some s) (take l.source-index l.sources)
