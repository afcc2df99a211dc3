use Rattle.std.proofs.Common.{rules, refl}
use Rattle.varn_audit.proofs.Pieces.{takes_piece}
use Rattle.varn_audit.proofs.reading.take_piece.Goals as goal

pub returns-clause-taken : goal.returns-clause-taken
returns-clause-taken g c =
    takes_piece (g.S.Source.left c.args.source.now) (g.S.Source.left c.read.new.self) c.args.auditor c.in_ok-auditor.auditor c.in-Ok.count c.read.new.into _ c.in-Ok.ensures.bytes.0 c.in-Ok.ensures.bytes.1 (search rules) (search rules) refl
    c.in_ok-auditor.ensures
