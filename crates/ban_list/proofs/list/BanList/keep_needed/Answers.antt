use Rattle.std.proofs.Common.{refl, ◌+◌}
use Rattle.ban_list.specs.Bans.{are_needed}
use Rattle.ban_list.proofs.NeededLemmas.{falling_left, completed_left, counts_left_are}
use Rattle.ban_list.proofs.list.BanList.keep_needed.Goals as goal

pub invariant_of-self : goal.invariant_of-self
invariant_of-self c =
    let lines = c.self.inside.lines.items in
    let placed = c.self.inside.placed.items in
    let marked = c.self.inside.marked.items in
    let objects = c.self.inside.objects in
    let stay = are_needed lines placed marked in (
      rw c.keep_needed.ensures.lines (falling_left stay (c.self.inside.issued + 1) lines c.self.invariant.0),
      rw c.keep_needed.ensures.lines (completed_left stay lines c.self.invariant.1),
      c.keep_needed.ensures.index,
      rw (c.keep_needed.ensures.lines, c.keep_needed.ensures.places) (counts_left_are lines placed marked placed objects c.self.invariant.3),
      rw (c.keep_needed.ensures.lines, c.keep_needed.ensures.marks) (counts_left_are lines placed marked marked objects c.self.invariant.4),
    )

pub returns : goal.returns
returns c = rw (← c.self.view_is, c.keep_needed.ensures.lines, c.keep_needed.ensures.places, c.keep_needed.ensures.marks) refl
