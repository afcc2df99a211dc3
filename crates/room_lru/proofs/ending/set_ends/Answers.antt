use Rattle.std.proofs.Common.{rules, List, ℤ, pos, ap, ◌∙◌, sym, take, get_or}
use Rattle.std.specs.Int.{w128}
use Rattle.std.proofs.lemmas.Int.{to_z-of_z}
use Rattle.std.proofs.lemmas.List.{take_more}
use Rattle.room_lru.specs.declared.ending.Ending.{Ending}
use Rattle.room_lru.specs.Members.{with_end}
use Rattle.room_lru.specs.Endings.{with_ends}
use Rattle.room_lru.proofs.EndingsLemmas.{with_ends_push}
use Rattle.room_lru.proofs.ending.set_ends.Goals as goal
use mir.Val.{SFits}

pub loop-ending-preserved : goal.loop-ending-preserved
loop-ending-preserved c =
    let none : Ending = record { used = 0; handle = 0; end = pos 0; new_end = pos 0 } in
    let it : Ending = get_or c.args.endings.now c.loop-ending.ending-index none in
    let before : List Ending = take c.loop-ending.ending-index c.args.endings.now in
    let fits : SFits w128 it.new_end = search rules in
    record {
      entries = c.set_end.ensures.entries
          ∙ ap (λ (e : ℤ). with_end it.used e c.loop-ending.members.entries) (to_z-of_z w128 it.new_end fits)
          ∙ ap (with_end it.used it.new_end) c.loop-ending.invariant.entries
          ∙ sym (with_ends_push before it c.args.members.now.entries)
          ∙ ap (λ (es : List Ending). with_ends es c.args.members.now.entries) (sym (take_more c.args.endings.now c.loop-ending.ending-index none c.loop-ending-test.true));
      ordered = c.set_end.ensures.ordered;
    }
