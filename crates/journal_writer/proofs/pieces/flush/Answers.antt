-- A part of what is kept is written.
use Rattle.std.proofs.Common.{ℕ, List, subst}
use Rattle.wire.specs.Content.{AppendsPart}
use Rattle.journal_writer.proofs.Fronts.{front_written}
use Rattle.journal_writer.proofs.pieces.flush.Goals as goal

pub returns-in-Err-clause-front : goal.returns-in-Err-clause-front
returns-in-Err-clause-front g c =
    front_written _ _ c.args.unwritten.now.items
    (subst (λ (bytes : List ℕ). AppendsPart (g.K.Sink.held c.args.sink.now) (g.K.Sink.held c.write_all.new.sink) bytes) c.as_slice.ensures.value c.in-Err.ensures.part)
