use Rattle.std.proofs.Common.{rules, tests, eqb, ap, ◌∙◌, map}
use Rattle.std.specs.Slice.Iter as slice
use Rattle.std.specs.Str.{bytes_eq}
use Rattle.std.proofs.lemmas.Iterator.Consumers.{YieldsList-end}
use Rattle.std.proofs.lemmas.Iterator.Splits.{YieldsList-from_slice_split}
use Rattle.indexmap.specs.IndexSet.{contains}
use Rattle.units.specs.Blanks.{trimmed}
use Rattle.vmod_host.specs.Jar.{is_among}
use Rattle.vmod_cookie.proofs.Loops.{among_step}
use Rattle.vmod_cookie.proofs.changing.names_of.Goals as goal

pub loop-name-preserved : goal.loop-name-preserved
loop-name-preserved c =
    among_step c.loop-name.yielded c.in-Some.name c.in_ok-of.field-0 (λ q. contains bytes_eq c.loop-name.names q) (λ q. contains bytes_eq c.insert.new.self q) c.loop-name.invariant (c.in_ok-of.ensures ∙ c.trim_blanks.ensures) c.in_ok-insert.ensures.updates.0

pub returns : goal.returns
returns c =
    let same = c.into_iter-name-iterator.ensures.into_iter_gives in
    let t = YieldsList-end (YieldsList-from_slice_split _ (λ b. eqb b 44) c.args.list.now (ap slice.split_rest same ∙ c.split-name-items.ensures.rest) (ap slice.split_done same ∙ c.split-name-items.ensures.done) (ap slice.split_callee same ∙ c.split-name-items.ensures.closure) (λ x r q k. search (rules, tests))) c.loop-name.yielded _ c.loop-name.yielded_by _ _ c.in-None.is c.next.ensures.steps in
    λ name. c.loop-name.invariant name ∙ ap (λ parts. is_among (map trimmed parts) name) t.0
