use Rattle.ban_list.proofs.CountLemmas.{within_counts, at_line, counts_more}
use Rattle.ban_list.proofs.list.BanList.enter.Goals as goal

pub add_one-requires-clause-within : goal.add_one-requires-clause-within
add_one-requires-clause-within c =
    within_counts c.args.stand.place c.self.inside.lines.items c.self.inside.placed.items c.self.inside.objects c.newer_in-place.result c.self.invariant.3 c.newer_in-place.ensures

pub add_one-requires-2-clause-within : goal.add_one-requires-2-clause-within
add_one-requires-2-clause-within c =
    within_counts c.args.stand.mark c.self.inside.lines.items c.self.inside.marked.items c.self.inside.objects c.newer_in-mark.result c.self.invariant.4 c.newer_in-mark.ensures

pub invariant_of-self : goal.invariant_of-self
invariant_of-self c =
    let lines = c.self.inside.lines.items in
    let places = counts_more lines c.self.inside.placed.items c.self.inside.objects c.newer_in-place.result c.self.invariant.3 (at_line c.args.stand.place lines c.newer_in-place.result c.newer_in-place.ensures) in
    let marks = counts_more lines c.self.inside.marked.items c.self.inside.objects c.newer_in-mark.result c.self.invariant.4 (at_line c.args.stand.mark lines c.newer_in-mark.result c.newer_in-mark.ensures) in
    (c.self.invariant.0, c.self.invariant.1, c.self.invariant.2, rw (c.add_one.ensures) places, rw (c.add_one-2.ensures) marks)
