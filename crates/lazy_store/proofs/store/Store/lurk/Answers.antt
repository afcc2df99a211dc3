use Rattle.std.proofs.Common.{◌≡◌, ◌+◌, false, ap, ◌∙◌, subst, arith}
use Rattle.lazy_law.specs.Placed.{Lazy, Placed, is_unswept, kept_bans, marked_at}
use Rattle.lazy_law.specs.Insertion.{has_number}
use Rattle.lazy_law.specs.Sweeping.{count_unswept, swept_lazy}
use Rattle.lazy_store.proofs.Fewer.{one_swept, swept_fewer}
use Rattle.lazy_store.proofs.store.Store.lurk.Goals as goal

pub loop-swept-preserved : goal.loop-swept-preserved
loop-swept-preserved c =
    let now : Lazy = c.loop-swept.self in
    let is : c.sweep.new.self ≡ swept_lazy (has_number c.in-Some.number) now =
    c.in_ok-sweep.ensures.ok ∙ ap (swept_lazy (has_number c.in-Some.number)) c.next_waiting.ensures.same in
    let done : (placed : Placed) → is_unswept (kept_bans now) (marked_at now.issued placed) ≡ false =
    subst (λ (lazy : Lazy). (placed : Placed) → is_unswept (kept_bans lazy) (marked_at lazy.issued placed) ≡ false) c.next_waiting.ensures.same c.newest_mark-mark.ensures.swept in
    let less : count_unswept (swept_lazy (has_number c.in-Some.number) now) + 1 ≡ count_unswept now =
    swept_fewer c.in-Some.number now c.in-Some.ensures.apart done c.in-Some.ensures.some in
    let same : count_unswept c.sweep.new.self ≡ count_unswept (swept_lazy (has_number c.in-Some.number) now) = ap count_unswept is in
    record {
      fewer = omega (arith, less, same, c.loop-swept.invariant.fewer);
      only = one_swept c.in-Some.number c.args.self.now now c.sweep.new.self c.loop-swept.invariant.only is;
    }
