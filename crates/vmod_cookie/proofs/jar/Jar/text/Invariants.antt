use Rattle.std.proofs.Common.{◌≡◌, map}
use Rattle.std.specs.Map.Iter.{deref_pair}
use Rattle.vmod_host.specs.JarText.{written}
use Rattle.vmod_cookie.proofs.jar.Jar.text.Given as goal

abbrev pub invariant-loop-name : goal.invariant-loop-name
invariant-loop-name l = l.text.items ≡ written (map deref_pair l.yielded)
