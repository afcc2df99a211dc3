use Rattle.std.proofs.Common.{◌∙◌, ap, ℤ, true, cond}
use Rattle.std.specs.Int.{w128}
use Rattle.std.specs.BTreeMap.{is_at}
use Rattle.std.specs.BTreeSet.{contains}
use Rattle.std.proofs.lemmas.Int.{to_z-of_z}
use Rattle.room_lru.specs.Ends.{by_end}
use Rattle.room_lru.proofs.EndingsLemmas.{put_in}
use Rattle.room_lru.proofs.ending.enter_end.Goals as goal

pub returns-clause-ok : goal.returns-clause-ok
returns-clause-ok c = λ one.
    c.in_ok-insert.ensures.updates.0 one
    ∙ ap (λ (e : ℤ). cond (is_at (by_end (e, c.args.handle)) one) true (contains by_end c.args.ends.now one)) (to_z-of_z w128 c.args.end c.ranges.end)
    ∙ put_in c.args.end c.args.handle one (contains by_end c.args.ends.now one)
