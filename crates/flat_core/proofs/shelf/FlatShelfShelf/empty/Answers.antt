use Rattle.std.proofs.Common.{rules}
use Rattle.flat_core.proofs.Standing.{stands_empty}
use Rattle.flat_core.proofs.shelf.FlatShelfShelf.empty.Goals as goal

pub returns-clause-stands : goal.returns-clause-stands
returns-clause-stands c = stands_empty _ (search rules)
