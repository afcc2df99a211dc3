use Rattle.std.proofs.Common.{rules}
use Rattle.turnstile.proofs.Turning.{looks_at}
use Rattle.turnstile.proofs.lock.Turnstile.look.Goals as goal

pub load-requires : goal.load-requires
load-requires g c =
    let t = g.T.Chronicle in
    let key = c.args.self.now.table.shared.key in
    (search rules, search rules, looks_at t.caller t.history t.setting t.Sound key.first (t.setting key.value.value) _ _ _ _ c.requires.waits.0 c.requires.waits.2)
