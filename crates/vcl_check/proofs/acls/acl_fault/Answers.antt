use Rattle.std.proofs.Common.{◌≡◌, ◌<◌, ◌++◌, ◌∷◌, [], List, length, None, sym, subst, ap, ◌∙◌}
use Rattle.std.specs.Prelude.{IfSome}
use Rattle.acl_match.specs.Acl.{AllShort}
use Rattle.acl_match.specs.declared.entry.AclEntry.{AclEntry as Network}
use Rattle.vcl_tree.specs.declared.error.Refusal.TheVariants.{Twice}
use Rattle.vcl_check.specs.Acls.{address_place}
use Rattle.vcl_check.specs.Least.{fault_at}
use Rattle.vcl_check.proofs.AclLemmas.{networks-short, no-clash}
use Rattle.vcl_check.proofs.LeastLemmas.{neither}
use Rattle.vcl_check.proofs.acls.acl_fault.Goals as goal

pub first_clash-requires : goal.first_clash-requires
first_clash-requires c =
    let P : List Network → Type 0 = λ list. AllShort list in
    subst P (sym c.in_ok-networks.ensures) (networks-short c.args.entries.now)

pub returns-clause-kept : goal.returns-clause-kept
returns-clause-kept c = λ e.
    let clash = c.in_ok-clash.clash in
    let told = (neither c.among_entries.result c.fault_at.result (sym c.lesser.ensures ∙ e)).1 in
    let W : List Network → Type 0 = λ list. IfSome clash (λ k. k < length list) in
    let place : c.address_place.result ≡ address_place c.args.entries.now clash = c.address_place.ensures in
    let fault : fault_at Twice (address_place c.args.entries.now clash) ≡ None = ap (fault_at Twice) (sym place) ∙ sym c.fault_at.ensures ∙ told in
    let none : clash ≡ None = no-clash Twice c.args.entries.now clash (subst W c.in_ok-networks.ensures c.in_ok-clash.ensures.within) fault in
    c.in_ok-clash.ensures.kept none ∙ ap (λ (list : List Network). c.args.acls.now.items ++ list ∷ []) c.in_ok-networks.ensures
