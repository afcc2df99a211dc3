use Rattle.std.proofs.Common.{◌≡◌, Some, None, sym, ◌∙◌, ap}
use Rattle.std.proofs.lemmas.Bool.{not-true, not-false}
use Rattle.std.specs.BTreeMap.{get}
use Rattle.std.specs.Cmp.{booleans_Decides}
use Rattle.acl_match.specs.Signs.{network, network_cmp}
use Rattle.acl_match.proofs.SignLemmas.{Records-push, Clash-recorded}
use Rattle.acl_match.proofs.faults.clashes.Goals as goal

pub returns-in-Some-clause-clash : goal.returns-in-Some-clause-clash
returns-in-Some-clause-clash c = λ before records differs.
    let found : get network_cmp c.args.signs.now (network c.args.entry.now) ≡ Some c.in-Some.negated = ap (get network_cmp c.args.signs.now) (sym c.network_of-network.ensures) ∙ sym c.in_ok-negated.ensures.old ∙ c.in-Some.is in
    Clash-recorded before c.args.entry.now c.args.signs.now c.in-Some.negated records found (not-true _ differs)

pub returns-in-Some-clause-none : goal.returns-in-Some-clause-none
returns-in-Some-clause-none c = λ before records agrees.
    let found : get network_cmp c.args.signs.now (network c.args.entry.now) ≡ Some c.in-Some.negated = ap (get network_cmp c.args.signs.now) (sym c.network_of-network.ensures) ∙ sym c.in_ok-negated.ensures.old ∙ c.in-Some.is in
    let same : c.in-Some.negated ≡ c.args.entry.now.negated = (booleans_Decides _ _).0 (not-false _ agrees) in
    Records-push before c.args.entry.now c.args.signs.now c.insert.new.self records (rw c.network_of-network.ensures at c.in_ok-negated.ensures.updates) (λ negated other. cc)

pub returns-in-None-clause-none : goal.returns-in-None-clause-none
returns-in-None-clause-none c = λ before records agrees.
    let found : get network_cmp c.args.signs.now (network c.args.entry.now) ≡ None = ap (get network_cmp c.args.signs.now) (sym c.network_of-network.ensures) ∙ sym c.in_ok-negated.ensures.old ∙ c.in-None.is in
    Records-push before c.args.entry.now c.args.signs.now c.insert.new.self records (rw c.network_of-network.ensures at c.in_ok-negated.ensures.updates) (λ negated other. cc)
