use Rattle.std.proofs.Common.{rules, ap}
use Rattle.turnstile.proofs.Turning.{notes_at}
use Rattle.turnstile.proofs.Splitting.{splits_at}
use Rattle.turnstile.proofs.lock.Turnstile.cut.Goals as goal

pub compare_exchange-requires : goal.compare_exchange-requires
compare_exchange-requires g c =
    let t = g.T.Chronicle in
    let key = c.args.self.now.table.shared.key in
    (search rules, search rules, notes_at t.caller t.history t.setting t.Sound key.first (t.setting key.value.value) _ _ _ _ _ c.requires.idle)

pub split_seat-requires : goal.split_seat-requires
split_seat-requires g c =
    let t = g.T.Chronicle in
    let key = c.args.self.now.table.shared.key in
    let noted = ap (λ m. m.0) c.compare_exchange.ensures.2 in
    (search rules, search rules, splits_at t.caller t.history t.setting t.Sound key.first (t.setting key.value.value) _ _ _ _ noted (search rules) (search rules))
