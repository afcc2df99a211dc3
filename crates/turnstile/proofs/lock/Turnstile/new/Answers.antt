use Rattle.std.proofs.Common.{rules, ◌≡◌, ◌<◌, ◌^◌, [], ◌∷◌, Some, sym, ap}
use Rattle.turnstile.proofs.Splitting.{opens}
use Rattle.turnstile.proofs.lock.Turnstile.new.Goals as goal

pub new-requires : goal.new-requires
new-requires g c =
    let t = g.T.Chronicle in
    let items : c.in_ok-slots.slots.items ≡ Some c.args.value ∷ [] = search rules in
    let narrow : c.from.result < 2 ^ 32 = search rules in
    rw items (opens t.caller t.history t.setting t.Sound c.from.result (t.setting c.of.result.value) c.args.value narrow c.requires.empty (ap t.setting (sym c.of.ensures)) c.requires.sound)
