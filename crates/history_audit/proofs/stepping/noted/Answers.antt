use Rattle.std.proofs.Common.{◌≡◌, ◌++◌, ◌∙◌, ℕ, length, arith, ap}
use Rattle.history_audit.specs.Alongside.{issued_of}
use Rattle.history_audit.proofs.stepping.noted.Goals as goal

pub returns : goal.returns
returns c =
    let size : c.len.result ≡ length c.args.bans.items = omega (arith, c.args.bans.ok) in
    c.in_ok-note.ensures ∙ ap (λ l. l ++ c.args.bans.items) (c.in_ok-issued.ensures ∙ ap (λ (n : ℕ). issued_of c.args.call.now c.args.moment n) size)
