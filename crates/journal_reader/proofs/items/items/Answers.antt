use Rattle.journal_reader.proofs.Counted.{half_goes_on}
use Rattle.journal_reader.proofs.items.items.Goals as goal

pub loop-preserved : goal.loop-preserved
loop-preserved g c =
    let e = c.in_ok-push.ensures.items in
    rw e (half_goes_on g.T.Item.one_at c.args.count c.args.cursor.now c.loop.counter c.loop.items.items c.loop.cursor c.read.new.cursor _ c.loop.invariant c.loop-test.true c.in_ok-read.ensures)
