use Rattle.std.proofs.Common.{◌≡◌, ℕ, true, ap, sym, ◌∙◌}
use Rattle.lazy_store.specs.Settling.{is_sound}
use Rattle.lazy_store.proofs.Settles.{is_open_so, not_open, settled_as, settled_not}
use Rattle.lazy_store.proofs.store.Store.settle.Goals as goal

pub returns-in-None-clause-answer : goal.returns-in-None-clause-answer
returns-in-None-clause-answer c = sym (not_open c.args.verdict c.args.self.now c.in-None.ensures)

pub returns-in-None-clause-left : goal.returns-in-None-clause-left
returns-in-None-clause-left c = settled_not c.args.verdict c.args.self.now (not_open c.args.verdict c.args.self.now c.in-None.ensures)

pub returns-clause-answer : goal.returns-clause-answer
returns-clause-answer c =
    let yes : c.is_sound.result ≡ true = cc in
    sym (is_open_so c.args.verdict c.args.self.now c.in-Some.place (ap (λ (n : ℕ). is_sound n c.args.verdict) (sym c.issued.ensures.count) ∙ sym c.is_sound.ensures ∙ yes) c.in-Some.ensures)

pub returns-clause-left : goal.returns-clause-left
returns-clause-left c =
    let yes : c.is_sound.result ≡ true = cc in
    c.go_on_from.ensures ∙ c.close.ensures
    ∙ settled_as c.args.verdict c.args.self.now
    (is_open_so c.args.verdict c.args.self.now c.in-Some.place (ap (λ (n : ℕ). is_sound n c.args.verdict) (sym c.issued.ensures.count) ∙ sym c.is_sound.ensures ∙ yes) c.in-Some.ensures)
