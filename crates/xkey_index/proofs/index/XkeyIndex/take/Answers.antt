use Rattle.std.proofs.Common.{◌∙◌, ap, sym}
use Rattle.std.specs.Ordering.{nat_cmp}
use Rattle.std.specs.Map.{lookup}
use Rattle.std.specs.BTreeMap.{is_at}
use Rattle.xkey_index.proofs.MemberLemmas.{rest-without}
use Rattle.xkey_index.proofs.index.XkeyIndex.take.Goals as goal

pub returns-in_err-keys-clause-rest : goal.returns-in_err-keys-clause-rest
returns-in_err-keys-clause-rest c =
    let none = ap (λ es. lookup (is_at (nat_cmp c.args.handle)) es) (sym c.remove.ensures.entries) ∙ c.remove.ensures.updates.1 in
    let rest = c.remove.ensures.entries ∙ rest-without c.args.handle c.self.inside.keys.entries none in
    rw (← c.self.view_is) rest

pub returns-clause-rest : goal.returns-clause-rest
returns-clause-rest c =
    let none = ap (λ es. lookup (is_at (nat_cmp c.args.handle)) es) (sym c.remove.ensures.entries) ∙ c.remove.ensures.updates.1 in
    let rest = c.remove.ensures.entries ∙ rest-without c.args.handle c.self.inside.keys.entries none in
    rw (← c.self.view_is) rest
