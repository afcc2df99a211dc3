use Rattle.std.proofs.Common.{◌≡◌, ℕ, true, List, Option, ap, sym, ◌∙◌, subst}
use Rattle.room_lru.specs.Room.{AreOut, LackRoom, others}
use Rattle.lazy_law.specs.Placed.{Lazy}
use Rattle.lazy_law.specs.Insertion.{lacks_room, others_late}
use Rattle.lazy_store.specs.Displaced.{AreDisplaced}
use Rattle.lazy_store.specs.Found.{last_use}
use Rattle.lazy_store.specs.Numbered.{numbers_at}
use Rattle.lazy_store.proofs.Displacing.{lack_displaced, out_displaced}
use Rattle.lazy_store.proofs.store.Store.least_out.Goals as goal

pub returns-in_ok-numbers_at-in-Some : goal.returns-in_ok-numbers_at-in-Some
returns-in_ok-numbers_at-in-Some c =
    let out : AreOut c.args.room c.args.size (others (last_use c.args.stale c.self.inside.heads) c.self.inside.room) c.in-Some.handles.items =
    subst (λ (but : Option ℕ). AreOut c.args.room c.args.size (others but c.self.inside.room) c.in-Some.handles.items) c.last_use-but.ensures (rw c.in-Some.is at c.in_ok-handles.ensures) in
    subst (λ (numbers : List ℕ). AreDisplaced c.args.room c.args.size c.args.stale c.args.self.now.objects numbers)
    (sym (c.in_ok-numbers_at-in-Some.ensures ∙ ap (numbers_at c.self.inside.heads) c.deref.ensures.value))
    (subst (λ (lazy : Lazy). AreDisplaced c.args.room c.args.size c.args.stale lazy.objects (numbers_at c.self.inside.heads c.in-Some.handles.items)) c.self.view_is
    (out_displaced c.args.room c.args.size c.args.stale c.self.inside.heads c.self.inside.room c.self.invariant.numbers c.self.invariant.uses c.self.invariant.room_ c.total-total.ensures.in_order
    c.in-Some.handles.items c.self.invariant.handles out))

pub returns-in-None : goal.returns-in-None
returns-in-None c =
    let lack : LackRoom c.args.room c.args.size (others (last_use c.args.stale c.self.inside.heads) c.self.inside.room) =
    subst (λ (but : Option ℕ). LackRoom c.args.room c.args.size (others but c.self.inside.room)) c.last_use-but.ensures (rw c.in-None.is at c.in_ok-handles.ensures) in
    subst (λ (lazy : Lazy). lacks_room c.args.room c.args.size (others_late c.args.stale lazy.objects) ≡ true) c.self.view_is
    (lack_displaced c.args.room c.args.size c.args.stale c.self.inside.heads c.self.inside.room c.self.invariant.numbers c.self.invariant.uses c.self.invariant.room_ c.total-total.ensures.in_order lack)
