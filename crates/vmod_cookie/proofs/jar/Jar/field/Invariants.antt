use Rattle.std.proofs.Common.{◌≡◌, map}
use Rattle.std.specs.Map.Iter.{deref_pair}
use Rattle.vmod_host.specs.Jar.{field_of}
use Rattle.vmod_cookie.proofs.jar.Jar.field.Given as goal

abbrev pub invariant-loop-name : goal.invariant-loop-name
invariant-loop-name l = l.field.items ≡ field_of (map deref_pair l.yielded)
