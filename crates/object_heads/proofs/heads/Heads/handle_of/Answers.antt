use Rattle.std.proofs.Common.{◌∙◌, ap}
use Rattle.object_heads.specs.Indexes.{is_that}
use Rattle.object_heads.proofs.MemberLemmas.{found_by_number}
use Rattle.object_heads.proofs.heads.Heads.handle_of.Goals as goal

pub returns : goal.returns
returns g c =
    let at = c.copied.ensures ∙ c.get.ensures.value in
    let found = found_by_number c.self.inside.items c.args.number c.copied.result c.self.invariant.ordered (λ q. ap (λ o. is_that o q) at ∙ c.self.invariant.numbers c.args.number q) in
    rw (← c.self.view_is) found
