-- What is so of each worker at its place is so of all.
use Rattle.std.proofs.Common.{◌≡◌, ℕ, ◌++◌, length, take, drop, sym, ap, ◌∙◌}
use Rattle.std.proofs.Math.Seq.{take-append_seam}
use Rattle.crew.proofs.Leaving.{paired}
use Rattle.crew.proofs.working.work_together.Goals as goal

pub returns-clause-worked : goal.returns-clause-worked
returns-clause-worked g c =
    let old = c.args.workers.now.items in
    let new = c.work.new.workers in
    let kept : length new ≡ length c.as_mut_slice.result.now = c.work.auto.workers in
    let count : c.args.workers.now.len ≡ length new = sym (kept ∙ c.as_mut_slice.ensures.len) in
    let front : take c.args.workers.now.len (new ++ drop (length new) old) ≡ new =
    ap (λ (n : ℕ). take n (new ++ drop (length new) old)) count ∙ take-append_seam new (drop (length new) old) in
    rw (front, ← c.as_mut_slice.ensures.value) (paired _ c.as_mut_slice.result.now new kept c.work.ensures)
