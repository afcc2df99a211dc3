use Rattle.std.proofs.Common.{rules}
use Rattle.turnstile.proofs.Turning.{draws_at}
use Rattle.turnstile.proofs.lock.Turnstile.draw.Goals as goal

pub fetch_add-requires : goal.fetch_add-requires
fetch_add-requires g c =
    let t = g.T.Chronicle in
    let key = c.args.self.now.table.shared.key in
    (search rules, search rules, draws_at t.caller t.history t.setting t.Sound key.first (t.setting key.value.value) _ _ _ _ c.requires.idle)
