use Rattle.std.proofs.Common.{ℕ, List, subst}
use Rattle.wire.specs.Content.{AppendsPart}
use Rattle.replay.proofs.Taking.{cut_off}
use Rattle.replay.proofs.pieces.flush.Goals as goal

pub returns-in-Err-clause-told : goal.returns-in-Err-clause-told
returns-in-Err-clause-told g c =
    cut_off _ _ c.args.unwritten.now.items
    (subst (λ (bytes : List ℕ). AppendsPart (g.K.Sink.held c.args.sink.now) (g.K.Sink.held c.write_all.new.sink) bytes) c.as_slice.ensures.value c.in-Err.ensures.part)
