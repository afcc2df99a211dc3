use Rattle.std.proofs.Common.{◌≡◌, [], map}
use Rattle.std.specs.Prelude.{fold}
use Rattle.units.specs.Blanks.{trimmed}
use Rattle.vmod_host.specs.Jar.{with_part}
use Rattle.vmod_cookie.proofs.jar.Jar.parse.Given as goal

abbrev pub invariant-loop-part : goal.invariant-loop-part
invariant-loop-part l = l.jar ≡ fold with_part [] (map trimmed (map (λ part. part.now) l.yielded))
