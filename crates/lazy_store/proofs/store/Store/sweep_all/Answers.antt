use Rattle.std.proofs.Common.{◌≡◌, ◌+◌, false, ap, arith, ◌∙◌, subst}
use Rattle.lazy_law.specs.Placed.{Lazy, Placed, is_unswept, kept_bans, marked_at}
use Rattle.lazy_law.specs.Insertion.{has_number}
use Rattle.lazy_law.specs.Sweeping.{count_unswept, swept_lazy}
use Rattle.lazy_store.specs.Tidying.{swept_whole}
use Rattle.lazy_store.proofs.Fewer.{one_swept, swept_fewer}
use Rattle.lazy_store.proofs.Tidyings.{whole_none, whole_still}
use Rattle.lazy_store.proofs.store.Store.sweep_all.Goals as goal

pub loop-number-smaller : goal.loop-number-smaller
loop-number-smaller c =
    let now : Lazy = c.loop-number.self in
    let is : c.sweep.new.self ≡ swept_lazy (has_number c.in-Some.number) now = c.in_ok-sweep.ensures.ok ∙ ap (swept_lazy (has_number c.in-Some.number)) c.next_waiting.ensures.same in
    let done : (placed : Placed) → is_unswept (kept_bans now) (marked_at now.issued placed) ≡ false =
    subst (λ (lazy : Lazy). (placed : Placed) → is_unswept (kept_bans lazy) (marked_at lazy.issued placed) ≡ false) c.next_waiting.ensures.same c.newest_mark-mark.ensures.swept in
    let less : count_unswept (swept_lazy (has_number c.in-Some.number) now) + 1 ≡ count_unswept now = swept_fewer c.in-Some.number now c.in-Some.ensures.apart done c.in-Some.ensures.some in
    let same : count_unswept c.sweep.new.self ≡ count_unswept (swept_lazy (has_number c.in-Some.number) now) = ap count_unswept is in
    omega (arith, less, same)

pub loop-number-preserved : goal.loop-number-preserved
loop-number-preserved c =
    let now : Lazy = c.loop-number.self in
    let is : c.sweep.new.self ≡ swept_lazy (has_number c.in-Some.number) now = c.in_ok-sweep.ensures.ok ∙ ap (swept_lazy (has_number c.in-Some.number)) c.next_waiting.ensures.same in
    let done : (placed : Placed) → is_unswept (kept_bans now) (marked_at now.issued placed) ≡ false =
    subst (λ (lazy : Lazy). (placed : Placed) → is_unswept (kept_bans lazy) (marked_at lazy.issued placed) ≡ false) c.next_waiting.ensures.same c.newest_mark-mark.ensures.swept in
    record {
      whole = ap swept_whole is ∙ whole_still c.in-Some.number now c.in-Some.ensures.apart done c.in-Some.ensures.some ∙ c.loop-number.invariant.whole;
      only = one_swept c.in-Some.number c.args.self.now now c.sweep.new.self c.loop-number.invariant.only is;
    }

pub returns-clause-ok : goal.returns-clause-ok
returns-clause-ok c = c.next_waiting.ensures.same ∙ whole_none c.loop-number.self c.in_default.ensures.none ∙ c.loop-number.invariant.whole
