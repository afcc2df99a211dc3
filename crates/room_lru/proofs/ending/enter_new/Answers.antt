use Rattle.std.proofs.Common.{rules, ℤ, Bool, true, ◌≡◌, ◌||◌, ◌&&◌, not, pos, ◌∙◌, ap, sym, take, get_or}
use Rattle.std.specs.Int.{w128}
use Rattle.std.specs.List.{list_any}
use Rattle.std.specs.BTreeSet.{contains}
use Rattle.std.proofs.lemmas.Int.{to_z-of_z}
use Rattle.std.proofs.lemmas.List.Folds.{list_any_more}
use Rattle.room_lru.specs.declared.ending.Ending.{Ending}
use Rattle.room_lru.specs.Ends.{by_end, is_end_at}
use Rattle.room_lru.specs.Endings.{ends_new}
use Rattle.room_lru.proofs.MemberLemmas.{ok_given, err_given}
use Rattle.room_lru.proofs.EndingsLemmas.{back_so, one_more_in, taken_there}
use Rattle.room_lru.proofs.ending.enter_new.Goals as goal
use mir.Val.{SFits}

pub loop-at-preserved : goal.loop-at-preserved
loop-at-preserved c = λ one.
    let none : Ending = record { used = 0; handle = 0; end = pos 0; new_end = pos 0 } in
    let it : Ending = get_or c.args.endings.now c.loop-at.at none in
    let there : Bool = contains by_end c.args.ends.now one in
    let fits : SFits w128 it.new_end = search rules in
    ok_given c.enter_end.result _ (sym c.is_err.ensures.value ∙ c.if-is_err.false) c.enter_end.ensures.ok one
    ∙ ap (λ (e : ℤ). is_end_at e it.handle one || contains by_end c.loop-at.ends one) (to_z-of_z w128 it.new_end fits)
    ∙ ap (λ (b : Bool). is_end_at it.new_end it.handle one || b) (c.loop-at.invariant one)
    ∙ one_more_in (is_end_at it.new_end it.handle one) (list_any (ends_new one) (take c.loop-at.at c.args.endings.now)) there
    ∙ ap (λ (b : Bool). b || there) (sym (list_any_more (ends_new one) c.args.endings.now c.loop-at.at none c.loop-at-test.true))

pub returns-then-is_err-clause-err : goal.returns-then-is_err-clause-err
returns-then-is_err-clause-err c = λ one.
    let some : Bool = list_any (ends_new one) (take c.loop-at.at c.args.endings.now) in
    let same = err_given c.enter_end.result _ (sym c.is_err.ensures.value ∙ c.if-is_err.true) c.enter_end.ensures.err one ∙ c.loop-at.invariant one in
    c.leave_new.ensures one
    ∙ ap (λ (b : Bool). b && not some) same
    ∙ back_so some (contains by_end c.args.ends.now one) (λ e. c.requires one (taken_there (ends_new one) c.loop-at.at c.args.endings.now e))
