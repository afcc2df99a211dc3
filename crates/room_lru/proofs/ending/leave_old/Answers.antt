use Rattle.std.proofs.Common.{rules, ℤ, Bool, ◌&&◌, not, pos, ◌∙◌, ap, sym, take, get_or}
use Rattle.std.specs.Int.{w128}
use Rattle.std.specs.List.{list_any}
use Rattle.std.specs.BTreeSet.{contains}
use Rattle.std.proofs.lemmas.Int.{to_z-of_z}
use Rattle.std.proofs.lemmas.List.Folds.{list_any_more}
use Rattle.room_lru.specs.declared.ending.Ending.{Ending}
use Rattle.room_lru.specs.Ends.{by_end, is_end_at}
use Rattle.room_lru.specs.Endings.{ends_old}
use Rattle.room_lru.proofs.EndingsLemmas.{one_more_out}
use Rattle.room_lru.proofs.ending.leave_old.Goals as goal
use mir.Val.{SFits}

pub loop-ending-preserved : goal.loop-ending-preserved
loop-ending-preserved c = λ one.
    let none : Ending = record { used = 0; handle = 0; end = pos 0; new_end = pos 0 } in
    let it : Ending = get_or c.args.endings.now c.loop-ending.ending-index none in
    let fits : SFits w128 it.end = search rules in
    c.leave_end.ensures one
    ∙ ap (λ (e : ℤ). contains by_end c.loop-ending.ends one && not (is_end_at e it.handle one)) (to_z-of_z w128 it.end fits)
    ∙ ap (λ (b : Bool). b && not (is_end_at it.end it.handle one)) (c.loop-ending.invariant one)
    ∙ one_more_out (contains by_end c.args.ends.now one) (list_any (ends_old one) (take c.loop-ending.ending-index c.args.endings.now)) (is_end_at it.end it.handle one)
    ∙ ap (λ (b : Bool). contains by_end c.args.ends.now one && not b) (sym (list_any_more (ends_old one) c.args.endings.now c.loop-ending.ending-index none c.loop-ending-test.true))
