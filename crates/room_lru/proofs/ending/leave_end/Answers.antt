use Rattle.std.proofs.Common.{◌∙◌, ap, ℤ, false, cond}
use Rattle.std.specs.Int.{w128}
use Rattle.std.specs.BTreeMap.{is_at}
use Rattle.std.specs.BTreeSet.{contains}
use Rattle.std.proofs.lemmas.Int.{to_z-of_z}
use Rattle.room_lru.specs.Ends.{by_end}
use Rattle.room_lru.proofs.EndingsLemmas.{taken_out}
use Rattle.room_lru.proofs.ending.leave_end.Goals as goal

pub returns : goal.returns
returns c = λ one.
    c.remove.ensures.updates.0 one
    ∙ ap (λ (e : ℤ). cond (is_at (by_end (e, c.args.handle)) one) false (contains by_end c.args.ends.now one)) (to_z-of_z w128 c.args.end c.ranges.end)
    ∙ taken_out c.args.end c.args.handle one (contains by_end c.args.ends.now one)
