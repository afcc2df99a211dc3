use Rattle.std.proofs.Common.{◌≡◌, ℕ, [], false, subst, arith}
use Rattle.std.proofs.lemmas.Option.{slice_get-get_or}
use Rattle.std.proofs.lemmas.List.{take_more, take_all}
use Rattle.acl_match.specs.Acl.{IsFirstMask, IsFirstClash}
use Rattle.acl_match.proofs.SignLemmas.{Records-nil}
use Rattle.acl_match.proofs.SoundnessLemmas.{AllShort-nil, AllShort-push, IsSound-recorded}
use Rattle.acl_match.proofs.faults.fault_by_network.Goals as goal

pub loop-place-init : goal.loop-place-init
loop-place-init c = record { short = AllShort-nil; recorded = Records-nil c.new-signs.result c.new-signs.ensures.empty }

pub returns-then-entry-gt-MAX_MASK-clause-mask : goal.returns-then-entry-gt-MAX_MASK-clause-mask
returns-then-entry-gt-MAX_MASK-clause-mask c = λ place is.
    let same : c.loop-place.place ≡ place = cc in
    let P : ℕ → Type 0 = λ i. IsFirstMask c.args.entries.now i in
    subst P same (record { before = IsSound-recorded _ c.loop-place.signs c.loop-place.invariant.short c.loop-place.invariant.recorded; here = (_, slice_get-get_or _ _ _ c.loop-place-test.true, c.if-entry-gt-MAX_MASK.true) })

pub returns-in-Ok-true-clause-clash : goal.returns-in-Ok-true-clause-clash
returns-in-Ok-true-clause-clash c = λ place is.
    let same : c.loop-place.place ≡ place = cc in
    let P : ℕ → Type 0 = λ i. IsFirstClash c.args.entries.now i in
    subst P same (record { before = IsSound-recorded _ c.loop-place.signs c.loop-place.invariant.short c.loop-place.invariant.recorded; here = (_, slice_get-get_or _ _ _ c.loop-place-test.true, c.in-Ok-true.ensures.clash _ c.loop-place.invariant.recorded c.in-Ok-true.field-0-test) })

pub loop-place-preserved : goal.loop-place-preserved
loop-place-preserved c = rw (take_more c.args.entries.now c.loop-place.place (record { address = []; mask = 0; negated = false }) c.loop-place-test.true) (record {
  short = AllShort-push _ _ c.loop-place.invariant.short (omega arith);
  recorded = c.in-Ok-false.ensures.none _ c.loop-place.invariant.recorded c.in-Ok-false.field-0-test;
})

pub returns-clause-ok : goal.returns-clause-ok
returns-clause-ok c =
    let whole = take_all c.loop-place.place c.args.entries.now (omega arith) in
    rw whole at (IsSound-recorded _ c.loop-place.signs c.loop-place.invariant.short c.loop-place.invariant.recorded)
