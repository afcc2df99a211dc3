use Rattle.std.proofs.Common.{◌≡◌, ◌∙◌, ap, refl, subst, List, Some, slice_get}
use Rattle.std.proofs.lemmas.Option.{slice_get_read}
use Rattle.vmod_host.specs.declared.signature.Signature.{Signature}
use Rattle.vmod_host.specs.declared.signature.Stored.{Stored}
use Rattle.vcl_library.specs.Functions.{std_functions}
use Rattle.vcl_library.proofs.Tags.{passes-at, own-signature}
use Rattle.vcl_library.proofs.functions.std_vmods.Goals as goal

pub invariant_of-push-clause-callable : goal.invariant_of-push-clause-callable
invariant_of-push-clause-callable g c = λ memory arguments fit.
    let here : slice_get std_functions c.loop-stored.stored-index ≡ Some c.stored-item.result =
    subst (λ (l : List Stored). slice_get l c.loop-stored.stored-index ≡ Some c.stored-item.result) (c.as_slice-stored-items.ensures.value ∙ c.in_ok-entries.ensures)
    (slice_get_read c.as_slice-stored-items.result.now _ c.loop-stored.stored-index c.stored-item.result refl c.loop-stored-test.true c.stored-item.is) in
    c.requires.callable c.stored-item.result.tag memory arguments
    (passes-at c.loop-stored.stored-index c.stored-item.result _ here (fit ∙ ap (λ (s : Signature). s.takes) c.in_ok-signature.ensures))

pub invariant_of-push-clause-keeps : goal.invariant_of-push-clause-keeps
invariant_of-push-clause-keeps g c = λ memory arguments answer fit gave.
    let here : slice_get std_functions c.loop-stored.stored-index ≡ Some c.stored-item.result =
    subst (λ (l : List Stored). slice_get l c.loop-stored.stored-index ≡ Some c.stored-item.result) (c.as_slice-stored-items.ensures.value ∙ c.in_ok-entries.ensures)
    (slice_get_read c.as_slice-stored-items.result.now _ c.loop-stored.stored-index c.stored-item.result refl c.loop-stored-test.true c.stored-item.is) in
    c.requires.keeps c.stored-item.result.tag memory arguments answer
    (passes-at c.loop-stored.stored-index c.stored-item.result _ here (fit ∙ ap (λ (s : Signature). s.takes) c.in_ok-signature.ensures))
    gave c.in_ok-signature.signature (rw (c.in_ok-signature.ensures) (own-signature c.loop-stored.stored-index c.stored-item.result here))
