use Rattle.std.proofs.Common.{true, false, sym, ◌∙◌}
use Rattle.cache_frame.specs.Asked.{is_untested}
use Rattle.cache_frame.proofs.Steps.{fits_if}
use Rattle.cache_frame.proofs.framed.fits_by_law.Goals as goal

pub returns-then-numbered : goal.returns-then-numbered
returns-then-numbered g c =
    fits_if g.S.Shelf.Stands c.args.params.now c.args.used c.args.desk.now c.args.shelf.now c.args.moment c.args.caller c.args.call.now (is_untested c.in_ok-asked.asked) c.open_after-open.result c.open_after-open.ensures.reserve true c.is_within-within.result
    (λ room caller moment stock. sym c.if-numbered.true ∙ c.is_numbered-numbered.ensures room caller moment stock) (rw c.entries.ensures at c.is_within-within.ensures) (sym c.is_untested.ensures ∙ c.if-is_untested.false)

pub returns-else-numbered : goal.returns-else-numbered
returns-else-numbered g c =
    rw c.if-numbered.false
    (fits_if g.S.Shelf.Stands c.args.params.now c.args.used c.args.desk.now c.args.shelf.now c.args.moment c.args.caller c.args.call.now (is_untested c.in_ok-asked.asked) c.open_after-open.result c.open_after-open.ensures.reserve false c.is_within-within.result
    (λ room caller moment stock. sym c.if-numbered.false ∙ c.is_numbered-numbered.ensures room caller moment stock) (rw c.entries.ensures at c.is_within-within.ensures) (sym c.is_untested.ensures ∙ c.if-is_untested.false))
