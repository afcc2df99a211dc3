-- What came before an error stood at the source's front.
use Rattle.std.proofs.KnownBytes.{Consumes-trans}
use Rattle.wire.proofs.copying.read_through.Goals as goal

pub returns-in-Err-clause-front : goal.returns-in-Err-clause-front
returns-in-Err-clause-front g c = (_, Consumes-trans _ _ _ _ _ c.loop-room.invariant.front c.in-Err.ensures.front.1)
