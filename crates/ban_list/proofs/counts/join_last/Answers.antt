use Rattle.std.proofs.Common.{arith}
use Rattle.ban_list.proofs.CountLemmas.{join_counts}
use Rattle.ban_list.proofs.counts.join_last.Goals as goal

pub returns : goal.returns
returns c =
    join_counts c.args.counts.now.items c.pop_back.new.self.items c.pop_back.result c.unwrap_or-behind.result _ c.index_mut.result.now c.len-last.result c.requires.two
    c.pop_back.ensures.items (c.pop_back.ensures.value 0 (omega (arith, c.requires.two, c.args.counts.now.ok))) c.unwrap_or-behind.ensures
    (omega (arith, c.len-last.ensures, c.pop_back.new.self.ok)) c.index_mut.ensures.value
