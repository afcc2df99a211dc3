use Rattle.std.proofs.Common.{refl}
use Rattle.vcl_store.specs.Joined.{built_in_text}
use Rattle.vcl_store.proofs.BuiltIn.{built-in, is-read, items, rest, tokens}
use Rattle.vcl_store.proofs.laws.built_in_is_read.Goals as goal

pub returns : goal.returns
unfolding built-in items rest tokens built_in_text
returns c = (built-in, is-read, (refl, refl))
