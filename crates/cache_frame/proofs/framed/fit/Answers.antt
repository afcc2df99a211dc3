use Rattle.std.proofs.Common.{rules, sym, ◌∙◌}
use Rattle.std.proofs.lemmas.Bool.{false≢true}
use Rattle.cache_frame.specs.Asked.{is_untested}
use Rattle.cache_frame.proofs.Steps.{has_fit, not_numbered, too_much}
use Rattle.cache_frame.proofs.framed.fit.Goals as goal

pub returns-then-not-is_numbered-clause-full : goal.returns-then-not-is_numbered-clause-full
returns-then-not-is_numbered-clause-full g c = λ full.
    not_numbered g.S.Shelf.Stands c.args.params.now c.args.used c.args.desk.now c.args.shelf.now c.args.moment c.args.caller c.args.call.now c.is_numbered.result c.if-not-is_numbered.true c.is_numbered.ensures

pub returns-then-not-is_within-clause-full : goal.returns-then-not-is_within-clause-full
returns-then-not-is_within-clause-full g c = λ full.
    too_much g.S.Shelf.Stands c.args.params.now c.args.used c.args.desk.now c.args.shelf.now c.args.moment c.args.caller c.args.call.now (is_untested c.in-Ok.asked) c.open_after-open.result c.open_after-open.ensures.reserve c.is_within.result c.if-not-is_within.true (rw c.entries.ensures at c.is_within.ensures)

pub returns-clause-fits : goal.returns-clause-fits
returns-clause-fits g c =
    has_fit g.S.Shelf.Stands c.args.params.now c.args.used c.args.desk.now c.args.shelf.now c.args.moment c.args.caller c.args.call.now (is_untested c.in-Ok.asked) c.open_after-open.result c.open_after-open.ensures.reserve
    (λ room caller moment stock. sym c.if-not-is_numbered.false ∙ c.is_numbered.ensures room caller moment stock) (search rules)

pub returns-in-Err-clause-wanting : goal.returns-in-Err-clause-wanting
returns-in-Err-clause-wanting g c = λ other no_memory. false≢true (c.in-Err.ensures.other other)
