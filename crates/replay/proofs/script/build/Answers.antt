use Rattle.std.proofs.Common.{◌≡◌, refl, sym, subst, ◌∙◌}
use Rattle.std.specs.List.{AllByRecursion}
use Rattle.std.specs.Vec.Iter.{into_iter_items}
use Rattle.session_text.specs.declared.session.NumberedLine.{NumberedLine}
use Rattle.replay.specs.Build.{IsBuiltAs, IsOfClient}
use Rattle.replay.proofs.Building.{built_more, of_this, all_built}
use Rattle.replay.proofs.Yielded.{one_taken, stood_between, all_taken, one_less}
use Rattle.replay.proofs.script.build.Goals as goal

pub build_more-requires : goal.build_more-requires
build_more-requires g c =
    let at = c.loop-numbered in
    let lines : into_iter_items c.into_iter-numbered-iterator.result ≡ c.args.session.lines = c.into_iter-numbered-iterator.ensures.into_iter_gives.0 ∙ c.into_vec-numbered-items.ensures in
    of_this (λ (one : NumberedLine). IsOfClient one.line) at.yielded c.in-Some.numbered _
    (subst (AllByRecursion (λ (one : NumberedLine). IsOfClient one.line))
    (stood_between at.yielded (into_iter_items at.numbered-iterator) _ _ c.in-Some.numbered (at.invariant.taken ∙ lines) c.in-Some.ensures.steps.0) c.requires)

pub loop-numbered-preserved : goal.loop-numbered-preserved
loop-numbered-preserved g c =
    let at = c.loop-numbered in
    let next = c.in-Some.ensures.steps in
    record {
      taken = one_taken at.yielded (into_iter_items at.numbered-iterator) _ _ c.in-Some.numbered at.invariant.taken next.0;
      counted = one_less (into_iter_items at.numbered-iterator) _ c.in-Some.numbered _ _ next.0 at.invariant.counted (sym next.1);
      built = built_more _ at.yielded _ _ c.in-Some.numbered at.invariant.built c.in_ok-build_more.ensures;
    }

pub returns : goal.returns
returns g c =
    let at = c.loop-numbered in
    let lines : into_iter_items c.into_iter-numbered-iterator.result ≡ c.args.session.lines = c.into_iter-numbered-iterator.ensures.into_iter_gives.0 ∙ c.into_vec-numbered-items.ensures in
    let all : at.yielded ≡ c.args.session.lines = all_taken at.yielded (into_iter_items at.numbered-iterator) _ _ (at.invariant.taken ∙ lines) at.invariant.counted c.in-None.ensures.steps.0 in
    let built : IsBuiltAs c.args.vmods.now.stored c.args.session.lines at.events.items = all_built c.args.vmods.now.stored _ at.yielded _ all at.invariant.built in
    record { lines_are = rw c.from_vec.ensures built; end_is = refl }
