use Rattle.std.proofs.Common.{rules, Some, ◌∷◌, ap, ◌∙◌}
use Rattle.atomic_table.specs.Table.{rest}
use Rattle.turnstile.proofs.Turning.{passes_at}
use Rattle.turnstile.proofs.lock.Turnstile.put.Goals as goal

pub fetch_add-requires : goal.fetch_add-requires
fetch_add-requires g c =
    let t = g.T.Chronicle in
    let key = c.args.self.now.table.shared.key in
    let now = c.exchange-empty.ensures.3 ∙ ap (λ m. (m.0, (0, Some c.args.value) ∷ rest m.1)) c.requires.empty.1 in
    (search rules, search rules, passes_at t.caller t.history t.setting t.Sound key.first (t.setting key.value.value) _ _ _ _ c.requires.empty.0 c.args.value now c.requires.setting c.requires.sound c.requires.history)
