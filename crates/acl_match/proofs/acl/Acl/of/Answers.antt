use Rattle.std.proofs.Common.{Ok, Err}
use Rattle.acl_match.proofs.SoundnessLemmas.{mask_told, clash_told}
use Rattle.acl_match.proofs.acl.Acl.of.Goals as goal

pub returns-in-Ok-clause-mask : goal.returns-in-Ok-clause-mask
returns-in-Ok-clause-mask c = λ place. (λ is. absurd (cc), mask_told c.args.entries (Ok _) (rw c.as_slice.ensures at c.in-Ok.ensures.ok) (λ place is. absurd (cc)) (λ place is. absurd (cc)) (λ is. absurd (cc)) place)

pub returns-in-Ok-clause-clash : goal.returns-in-Ok-clause-clash
returns-in-Ok-clause-clash c = λ place. (λ is. absurd (cc), clash_told c.args.entries (Ok _) (rw c.as_slice.ensures at c.in-Ok.ensures.ok) (λ place is. absurd (cc)) (λ place is. absurd (cc)) (λ is. absurd (cc)) place)

pub returns-in-Err-clause-mask : goal.returns-in-Err-clause-mask
returns-in-Err-clause-mask c = λ place. (
  λ is. rw c.as_slice.ensures at (c.in-Err.ensures.mask place (cc)),
  mask_told c.args.entries (Err c.in-Err.fault) tt
      (λ place is. rw c.as_slice.ensures at (c.in-Err.ensures.mask place (cc))) (λ place is. rw c.as_slice.ensures at (c.in-Err.ensures.clash place (cc)))
      (λ is. rw c.as_slice.ensures at (c.in-Err.ensures.wanting (cc))) place,
)

pub returns-in-Err-clause-clash : goal.returns-in-Err-clause-clash
returns-in-Err-clause-clash c = λ place. (
  λ is. rw c.as_slice.ensures at (c.in-Err.ensures.clash place (cc)),
  clash_told c.args.entries (Err c.in-Err.fault) tt
      (λ place is. rw c.as_slice.ensures at (c.in-Err.ensures.mask place (cc))) (λ place is. rw c.as_slice.ensures at (c.in-Err.ensures.clash place (cc)))
      (λ is. rw c.as_slice.ensures at (c.in-Err.ensures.wanting (cc))) place,
)
