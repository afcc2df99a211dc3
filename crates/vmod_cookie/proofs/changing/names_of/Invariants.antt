use Rattle.std.proofs.Common.{◌≡◌, List, ℕ, map}
use Rattle.std.specs.Str.{bytes_eq}
use Rattle.indexmap.specs.IndexSet.{contains}
use Rattle.units.specs.Blanks.{trimmed}
use Rattle.vmod_host.specs.Jar.{is_among}
use Rattle.vmod_cookie.proofs.changing.names_of.Given as goal

abbrev pub invariant-loop-name : goal.invariant-loop-name
invariant-loop-name l = (name : List ℕ) → contains bytes_eq l.names name ≡ is_among (map trimmed (map (λ part. part.now) l.yielded)) name
