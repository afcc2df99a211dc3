use Rattle.std.proofs.Common.{rules, tests, eqb, ap, ◌∙◌, [], map}
use Rattle.std.specs.Prelude.{fold}
use Rattle.std.specs.Slice.Iter as slice
use Rattle.std.proofs.lemmas.Iterator.Consumers.{YieldsList-end}
use Rattle.std.proofs.lemmas.Iterator.Splits.{YieldsList-from_slice_split}
use Rattle.units.specs.Blanks.{trimmed}
use Rattle.vmod_host.specs.Jar.{with_part}
use Rattle.vmod_cookie.proofs.Loops.{part_more}
use Rattle.vmod_cookie.proofs.jar.Jar.parse.Goals as goal

pub loop-part-preserved : goal.loop-part-preserved
loop-part-preserved c =
    part_more c.loop-part.jar c.set_part.new.self c.loop-part.yielded c.in-Some.part c.loop-part.invariant (c.in_ok-set_part.ensures ∙ ap (with_part c.loop-part.jar) c.trim_blanks.ensures)

pub returns : goal.returns
returns c =
    let same = c.into_iter-part-iterator.ensures.into_iter_gives in
    let t = YieldsList-end (YieldsList-from_slice_split _ (λ b. eqb b 59) c.args.text.now (ap slice.split_rest same ∙ c.split-part-items.ensures.rest) (ap slice.split_done same ∙ c.split-part-items.ensures.done) (ap slice.split_callee same ∙ c.split-part-items.ensures.closure) (λ x r q k. search (rules, tests))) c.loop-part.yielded _ c.loop-part.yielded_by _ _ c.in-None.is c.next.ensures.steps in
    c.loop-part.invariant ∙ ap (λ parts. fold with_part [] (map trimmed parts)) t.0
