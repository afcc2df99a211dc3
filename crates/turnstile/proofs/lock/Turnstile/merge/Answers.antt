use Rattle.std.proofs.Common.{rules, ap, ◌∙◌}
use Rattle.turnstile.specs.Steps.{joined}
use Rattle.turnstile.proofs.Turning.{tells_at}
use Rattle.turnstile.proofs.Joining.{joins_at}
use Rattle.turnstile.proofs.lock.Turnstile.merge.Goals as goal

pub join_seat-requires : goal.join_seat-requires
join_seat-requires g c =
    let t = g.T.Chronicle in
    let key = c.args.self.now.table.shared.key in
    let one = ap (λ m. m.0) c.requires.idle.0 in
    let two = ap (λ m. m.0) c.requires.idle.1 in
    (search rules, search rules, search rules, search rules, joins_at t.caller t.history t.setting t.Sound key.first (t.setting key.value.value) _ _ _ _ one two)

pub load-requires : goal.load-requires
load-requires g c =
    let t = g.T.Chronicle in
    let key = c.args.self.now.table.shared.key in
    let now = c.join_seat.ensures.2 ∙ ap (λ m. (joined t.caller c.args.seat.now.me.0 c.args.other.me.0, m.1)) c.requires.idle.0 in
    (search rules, search rules, tells_at t.caller t.history t.setting t.Sound key.first (t.setting key.value.value) _ _ _ _ _ _ now)
