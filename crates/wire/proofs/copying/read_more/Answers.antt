-- What the read gave is what the bytes grew by.
use Rattle.wire.proofs.copying.read_more.Goals as goal

pub returns-clause-more : goal.returns-clause-more
returns-clause-more g c = (_, c.in-Ok.ensures.bytes.0, c.in_ok-extend_from_slice.ensures.items)
