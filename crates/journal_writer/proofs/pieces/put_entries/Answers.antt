-- One entry is put behind those before it, or a front of all is written.
use Rattle.std.proofs.Common.{suc, drop, arith}
use Rattle.journal_writer.specs.Segments.{entries_text, text_of_entry}
use Rattle.journal_writer.proofs.Fronts.{front_at, front_more, front_then, puts_at, puts_then}
use Rattle.journal_writer.proofs.Steps.{all_of, one_more}
use Rattle.journal_writer.proofs.pieces.put_entries.Goals as goal

pub returns-in-Err-clause-front : goal.returns-in-Err-clause-front
returns-in-Err-clause-front g c =
    let below = c.loop-entry-test.true in
    front_at _ _ c.args.unwritten.now.items _ (entries_text c.args.entries.now) (all_of c.args.entries.now c.loop-entry.entry-index c.entry-item.result (omega (arith, below)) c.entry-item.is)
    (front_then _ (g.K.Sink.held c.loop-entry.sink) _ c.args.unwritten.now.items c.loop-entry.unwritten.items _ _ c.loop-entry.invariant.0
    (front_more _ _ c.loop-entry.unwritten.items (text_of_entry c.entry-item.result) (entries_text (drop (suc c.loop-entry.entry-index) c.args.entries.now)) c.in-Err.ensures.front))

pub loop-entry-preserved : goal.loop-entry-preserved
loop-entry-preserved g c = (
  (let below = c.loop-entry-test.true in
      puts_at _ _ c.args.unwritten.now.items _ _ _ (one_more c.args.entries.now c.loop-entry.entry-index c.entry-item.result (omega (arith, below)) c.entry-item.is)
      (puts_then _ (g.K.Sink.held c.loop-entry.sink) _ c.args.unwritten.now.items c.loop-entry.unwritten.items _ _ _ c.loop-entry.invariant.0 c.in_default.ensures.put)),
  (let before = c.loop-entry.invariant.1 in let now = c.in_default.ensures.later in omega (arith, before, now)),
)
