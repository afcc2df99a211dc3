use Rattle.std.proofs.Common.{◌≡◌, ℕ, false, List, [], nat_eq, arith, ap, sym, subst}
use Rattle.std.specs.List.{list_any}
use Rattle.lazy_law.specs.Placed.{Lazy}
use Rattle.lazy_law.specs.Insertion.{has_number}
use Rattle.lazy_insert.specs.Inserted.{IsRoomy}
use Rattle.lazy_insert.proofs.Inserts.{still_before, still_own, stored_so}
use Rattle.lazy_insert.proofs.Roomy.{tidied_frame}
use Rattle.lazy_insert.proofs.inserting.store_in.Goals as goal

pub put_over-requires-clause-later : goal.put_over-requires-clause-later
put_over-requires-clause-later c = still_before c.args.used c.args.moment c.args.store.now c.make_room.new.store c.make_room.ensures.tidied c.requires.later

pub put_over-requires-clause-own : goal.put_over-requires-clause-own
put_over-requires-clause-own c = still_own c.args.token c.args.moment c.args.store.now c.make_room.new.store c.make_room.ensures.tidied c.requires.own

pub put_over-requires-clause-other : goal.put_over-requires-clause-other
put_over-requires-clause-other c =
    let roomy : IsRoomy c.args.room c.args.size c.args.moment c.args.stale c.args.store.now c.make_room.new.store c.in-Some.out.items = rw c.in-Some.is at c.in_ok-out.ensures.made in
    subst (λ (numbers : List ℕ). list_any (nat_eq c.args.token) numbers ≡ false) (sym c.deref.ensures.value)
    (roomy.stored c.args.token (still_own c.args.token c.args.moment c.args.store.now c.make_room.new.store c.make_room.ensures.tidied c.requires.own))

pub put_over-requires-clause-place : goal.put_over-requires-clause-place
put_over-requires-clause-place c =
    let same : c.make_room.new.store.issued ≡ c.args.store.now.issued =
    ap (λ (lazy : Lazy). lazy.issued) (tidied_frame [] c.args.moment c.args.store.now c.make_room.new.store c.make_room.ensures.tidied) in
    omega (arith, same, c.in_ok-place.ensures.within)

pub returns-in_ok-put_over-in-Some-clause-stored : goal.returns-in_ok-put_over-in-Some-clause-stored
returns-in_ok-put_over-in-Some-clause-stored c =
    let roomy : IsRoomy c.args.room c.args.size c.args.moment c.args.stale c.args.store.now c.make_room.new.store c.in-Some.out.items = rw c.in-Some.is at c.in_ok-out.ensures.made in
    let there : IsRoomy c.args.room c.args.size c.args.moment c.args.stale c.args.store.now c.make_room.new.store c.deref.result.now =
    subst (λ (numbers : List ℕ). IsRoomy c.args.room c.args.size c.args.moment c.args.stale c.args.store.now c.make_room.new.store numbers) (sym c.deref.ensures.value) roomy in
    λ e. (
      roomy.free,
      stored_so c.args.room c.args.size c.args.used c.args.moment c.args.token c.in_ok-place.place c.args.object.now c.args.stale c.args.store.now c.make_room.new.store c.put_over.new.store c.deref.result.now
          c.requires.size c.make_room.ensures.tidied there c.in_ok-place.ensures.value c.in_ok-put_over-in-Some.ensures.ok,
    )
