use Rattle.std.proofs.Common.{rules, Some, ◌∷◌, sym, ap, ◌∙◌}
use Rattle.atomic_table.specs.Table.{rest}
use Rattle.turnstile.proofs.lock.Turnstile.take.Goals as goal

pub exchange-found-requires : goal.exchange-found-requires
exchange-found-requires g c =
    let x = c.requires.has.1 in
    let carried = ap (λ m. m.1) c.requires.has.2 in
    (search rules, (Some x, carried ∙ ap (λ cs. (0, Some x) ∷ rest cs) (sym carried)))
