use Rattle.flat_core.proofs.lists.tested_for.Goals as goal

pub returns : goal.returns
returns c = rw (c.in-Some.is, ← c.as_slices.ensures.items, ← c.kept_of.ensures) c.tested_or.ensures
