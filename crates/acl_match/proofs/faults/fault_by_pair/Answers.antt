use Rattle.std.proofs.Common.{◌≡◌, ℕ, [], false, subst, refl, arith}
use Rattle.std.proofs.lemmas.Bool.{false≢true}
use Rattle.std.proofs.lemmas.Option.{slice_get-get_or}
use Rattle.std.proofs.lemmas.List.{take_more, take_all}
use Rattle.acl_match.specs.Acl.{IsFirstMask, IsFirstClash}
use Rattle.acl_match.proofs.SoundnessLemmas.{IsSound-nil, IsSound-push}
use Rattle.acl_match.proofs.faults.fault_by_pair.Goals as goal

pub loop-place-init : goal.loop-place-init
loop-place-init c = IsSound-nil

pub returns-then-entry-gt-MAX_MASK-clause-mask : goal.returns-then-entry-gt-MAX_MASK-clause-mask
returns-then-entry-gt-MAX_MASK-clause-mask c = λ place is.
    let same : c.loop-place.place ≡ place = cc in
    let P : ℕ → Type 0 = λ i. IsFirstMask c.args.entries.now i in
    subst P same (record { before = c.loop-place.invariant; here = (_, slice_get-get_or _ _ _ c.loop-place-test.true, c.if-entry-gt-MAX_MASK.true) })

pub returns-then-clashes_with_any-clause-clash : goal.returns-then-clashes_with_any-clause-clash
returns-then-clashes_with_any-clause-clash c = λ place is.
    let same : c.loop-place.place ≡ place = cc in
    let P : ℕ → Type 0 = λ i. IsFirstClash c.args.entries.now i in
    subst P same (record { before = c.loop-place.invariant; here = (_, slice_get-get_or _ _ _ c.loop-place-test.true, c.if-clashes_with_any.ensures.0 refl) })

pub loop-place-preserved : goal.loop-place-preserved
loop-place-preserved c = rw (take_more c.args.entries.now c.loop-place.place (record { address = []; mask = 0; negated = false }) c.loop-place-test.true)
    (IsSound-push _ _ c.loop-place.invariant c.if-entry-gt-MAX_MASK.false (λ clash. false≢true (c.if-clashes_with_any.ensures.1 clash)))

pub returns-clause-ok : goal.returns-clause-ok
returns-clause-ok c =
    let whole = take_all c.loop-place.place c.args.entries.now (omega arith) in
    rw whole at c.loop-place.invariant
