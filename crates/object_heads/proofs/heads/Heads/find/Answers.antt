use Rattle.std.proofs.Common.{◌∙◌, ap, []}
use Rattle.std.specs.List.Sorted.{IsStrictlySortedBy}
use Rattle.std.specs.BTreeSet.{BTreeSet}
use Rattle.std.proofs.Common.{ℕ}
use Rattle.object_heads.specs.Indexes.{is_held}
use Rattle.object_heads.proofs.MemberLemmas.{found_by_key}
use Rattle.object_heads.proofs.heads.Heads.find.Goals as goal

pub returns-in-Some : goal.returns-in-Some
returns-in-Some g c =
    let found = found_by_key c.self.inside.items c.in_ok-name.name c.args.key.now c.in-Some.handles.now c.in_ok-name.ensures c.self.invariant.ordered c.listed.ensures.ordered c.self.invariant.named
    (λ q. ap (λ o. is_held o q) c.in-Some.ensures.value ∙ c.self.invariant.heads c.in_ok-name.name q) in
    rw (← c.self.view_is, ← found) c.listed.ensures.items

pub returns : goal.returns
unfolding IsStrictlySortedBy
returns g c =
    let nothing : BTreeSet ℕ = record { keys = [] } in
    let found = found_by_key c.self.inside.items c.in_ok-name.name c.args.key.now nothing c.in_ok-name.ensures c.self.invariant.ordered tt c.self.invariant.named
    (λ q. ap (λ o. is_held o q) c.in-None.ensures.value ∙ c.self.invariant.heads c.in_ok-name.name q) in
    rw (← c.self.view_is, ← found) c.new.ensures.items
