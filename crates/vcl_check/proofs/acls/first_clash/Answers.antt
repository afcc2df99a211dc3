use Rattle.std.proofs.Common.{◌≡◌, ◌∙◌, ap, sym, Err}
use Rattle.std.proofs.lemmas.Option.{slice_get_within}
use Rattle.acl_match.specs.declared.acl.AclError.TheVariants as errors
use Rattle.acl_match.proofs.FirstClash.{sound-none, first-some}
use Rattle.vcl_check.proofs.AclLemmas.{all-short}
use Rattle.vcl_check.proofs.acls.first_clash.Goals as goal

pub unreachable-requires : goal.unreachable-requires
unreachable-requires c =
    all-short c.args.networks c.in-Err-Mask.field-0-0 c.requires ((c.of.ensures.mask c.in-Err-Mask.field-0-0).0 (c.in-Err-Mask.is ∙ ap Err c.in-Err-Mask.field-0-is))

pub returns-in_ok-push-in-Ok-clause-told : goal.returns-in_ok-push-in-Ok-clause-told
returns-in_ok-push-in-Ok-clause-told c = sym (sound-none c.args.networks c.in-Ok.ensures.ok.1)

pub returns-in-Err-Clash-clause-told : goal.returns-in-Err-Clash-clause-told
returns-in-Err-Clash-clause-told c =
    let is : c.of.result ≡ Err (errors.Clash c.in-Err-Clash.place) = cc in
    sym (first-some c.args.networks c.in-Err-Clash.place ((c.of.ensures.clash c.in-Err-Clash.place).0 is))

pub returns-in-Err-Clash-clause-within : goal.returns-in-Err-Clash-clause-within
returns-in-Err-Clash-clause-within c =
    let is : c.of.result ≡ Err (errors.Clash c.in-Err-Clash.place) = cc in
    let first = (c.of.ensures.clash c.in-Err-Clash.place).0 is in
    slice_get_within c.args.networks c.in-Err-Clash.place first.here.0 first.here.1
