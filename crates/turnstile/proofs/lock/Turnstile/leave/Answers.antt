use Rattle.std.proofs.Common.{rules}
use Rattle.turnstile.proofs.Turning.{leaves_at}
use Rattle.turnstile.proofs.lock.Turnstile.leave.Goals as goal

pub load-requires : goal.load-requires
load-requires g c =
    let t = g.T.Chronicle in
    let key = c.args.self.now.table.shared.key in
    (search rules, search rules, leaves_at t.caller t.history t.setting t.Sound key.first (t.setting key.value.value) _ _ _ _ c.requires.empty.0 c.requires.empty.1)
