use Rattle.std.proofs.Common.{◌≤◌, take}
use Rattle.journal_writer.specs.Pieces.{Puts}
use Rattle.journal_writer.specs.Segments.{entries_text}
use Rattle.journal_writer.proofs.pieces.put_entries.Given as goal

abbrev pub invariant-loop-entry : goal.invariant-loop-entry
invariant-loop-entry g l =
    Puts (g.K.Sink.held l.fn.sink) l.fn.unwritten.items (g.K.Sink.held l.sink) l.unwritten.items (entries_text (take l.entry-index l.entries))
    × (g.K.Sink.faults l.fn.sink ≤ g.K.Sink.faults l.sink)
