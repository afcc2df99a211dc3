use Rattle.std.proofs.Common.{◌≡◌, ◌≤◌, ◌<◌, ◌+◌, ◌-◌, ◌^◌, ℕ, false, List, ◌∷◌, ◌++◌, [], length, map, ap, arith, rules, sym, ◌∙◌, subst}
use Rattle.std.specs.Int.{w128}
use Rattle.std.specs.List.{list_any}
use Rattle.std.proofs.lemmas.Int.{to_z-of_z}
use Rattle.cache_law.specs.Purges.{xkeys_of}
use Rattle.xkey_index.specs.Members as xkeys
use Rattle.room_lru.specs.Members as rooms
use Rattle.room_lru.specs.Members.{Used}
use Rattle.room_lru.proofs.MemberLemmas.{err_given, ok_given}
use Rattle.ban_list.specs.Bans.{Bans}
use Rattle.lazy_law.specs.Placed.{Lazy}
use Rattle.lazy_law.specs.Insertion.{has_number, sizes_late}
use Rattle.lazy_law.proofs.Filters.{length_of_map}
use Rattle.lazy_store.specs.Members.{Member, end_of, placed_of, stand_of, used_of}
use Rattle.lazy_store.specs.Tied.{AreTied}
use Rattle.lazy_store.specs.Uses.{AreUsedBefore}
use Rattle.lazy_store.proofs.Again.{latest_there}
use Rattle.lazy_store.proofs.Puttings.{few_objects, free_end, keys_back, newest_handle, newest_tagged, own_number, put_room, room_back, size_some, tied_first, total_is}
use Rattle.lazy_store.proofs.store.Store.put_item.Goals as goal
use mir.Val.{SFits}

whole_sum : (used : ℕ) → used < 2 ^ 64 → (18446744073709551615 - used) + used + 1 ≡ 2 ^ 64
whole_sum used less = omega (arith, less)

pub put_last-requires-clause-latest : goal.put_last-requires-clause-latest
put_last-requires-clause-latest c =
    latest_there c.args.item.payload.used c.self.inside.room c.self.inside.heads c.self.invariant.room_
    (subst (λ (lazy : Lazy). AreUsedBefore c.args.item.payload.used lazy.objects) (sym c.self.view_is) c.requires.later)

pub put_last-requires-clause-free : goal.put_last-requires-clause-free
put_last-requires-clause-free c =
    let fits : c.args.item.payload.used < 2 ^ 64 = search rules in
    free_end _ _ c.self.inside.room c.self.inside.heads c.self.invariant.room_
    (newest_handle (18446744073709551615 - c.args.item.payload.used) c.args.item.payload.used c.self.inside.heads (whole_sum c.args.item.payload.used fits) c.self.invariant.ahead
    (subst (λ (lazy : Lazy). AreUsedBefore c.args.item.payload.used lazy.objects) (sym c.self.view_is) c.requires.later))

pub put_last-requires-clause-fits : goal.put_last-requires-clause-fits
put_last-requires-clause-fits c =
    let total = total_is c.self.inside.room c.self.inside.heads c.self.invariant.room_ in
    let same = ap (λ (lazy : Lazy). sizes_late lazy.objects) c.self.view_is in
    omega (arith, total, same, c.requires.fits)

pub put_first-requires : goal.put_first-requires
put_first-requires c =
    let fits : c.args.item.payload.used < 2 ^ 64 = search rules in
    newest_tagged (18446744073709551615 - c.args.item.payload.used) c.self.inside.heads c.self.inside.tagged c.self.invariant.tagged_
    (newest_handle (18446744073709551615 - c.args.item.payload.used) c.args.item.payload.used c.self.inside.heads (whole_sum c.args.item.payload.used fits) c.self.invariant.ahead
    (subst (λ (lazy : Lazy). AreUsedBefore c.args.item.payload.used lazy.objects) (sym c.self.view_is) c.requires.later))

pub invariant_of-self-then-is_err : goal.invariant_of-self-then-is_err
invariant_of-self-then-is_err c =
    let used : ℕ = c.args.item.payload.used in
    let before : AreUsedBefore used (map placed_of c.self.inside.heads) = subst (λ (lazy : Lazy). AreUsedBefore used lazy.objects) (sym c.self.view_is) c.requires.later in
    let latest : rooms.IsLatest used c.self.inside.room = latest_there used c.self.inside.room c.self.inside.heads c.self.invariant.room_ before in
    let tagged_same : c.put_first.new.self ≡ c.self.inside.tagged =
    err_given c.put_first.result (c.put_first.new.self ≡ c.self.inside.tagged) (sym c.is_err.ensures.value ∙ c.if-is_err.true) c.put_first.ensures.err in
    let room_same : c.take.new.self ≡ c.self.inside.room = c.take.ensures.rest ∙ ap (rooms.without used) c.in_ok-put_last.ensures.ok ∙ room_back used _ c.self.inside.room latest in
    subst (λ (xs : List (ℕ × List (List ℕ))). AreTied c.self.inside.heads xs c.take.new.self c.self.inside.bans c.self.inside.newest c.self.inside.unswept) (sym tagged_same)
    (subst (λ (xs : List Used). AreTied c.self.inside.heads c.self.inside.tagged xs c.self.inside.bans c.self.inside.newest c.self.inside.unswept) (sym room_same) c.self.invariant)

pub put_first-requires-2-clause-newest : goal.put_first-requires-2-clause-newest
put_first-requires-2-clause-newest c =
    let fits : c.args.item.payload.used < 2 ^ 64 = search rules in
    newest_handle (18446744073709551615 - c.args.item.payload.used) c.args.item.payload.used c.self.inside.heads (whole_sum c.args.item.payload.used fits) c.self.invariant.ahead
    (subst (λ (lazy : Lazy). AreUsedBefore c.args.item.payload.used lazy.objects) (sym c.self.view_is) c.requires.later)

pub put_first-requires-2-clause-own : goal.put_first-requires-2-clause-own
put_first-requires-2-clause-own c =
    own_number c.args.item.view.number c.self.inside.heads
    (subst (λ (lazy : Lazy). list_any (has_number c.args.item.view.number) lazy.objects ≡ false) (sym c.self.view_is) c.requires.own)

pub invariant_of-self-then-is_err-2 : goal.invariant_of-self-then-is_err-2
invariant_of-self-then-is_err-2 c =
    let used : ℕ = c.args.item.payload.used in
    let handle : ℕ = 18446744073709551615 - used in
    let fits : c.args.item.payload.used < 2 ^ 64 = search rules in
    let before : AreUsedBefore used (map placed_of c.self.inside.heads) = subst (λ (lazy : Lazy). AreUsedBefore used lazy.objects) (sym c.self.view_is) c.requires.later in
    let latest : rooms.IsLatest used c.self.inside.room = latest_there used c.self.inside.room c.self.inside.heads c.self.invariant.room_ before in
    let newest : xkeys.IsNewest handle c.self.inside.tagged =
    newest_tagged handle c.self.inside.heads c.self.inside.tagged c.self.invariant.tagged_ (newest_handle handle used c.self.inside.heads (whole_sum used fits) c.self.invariant.ahead before) in
    let heads_same : c.put_first-2.new.self ≡ c.self.inside.heads =
    err_given c.put_first-2.result (c.put_first-2.new.self ≡ c.self.inside.heads) (sym c.is_err-2.ensures.value ∙ c.if-is_err-2.true) c.put_first-2.ensures.err in
    let tagged_put = ok_given c.put_first.result _ (sym c.is_err.ensures.value ∙ c.if-is_err.false) c.put_first.ensures.ok in
    let tagged_same : c.take-then-is_err-2.new.self ≡ c.self.inside.tagged = c.take-then-is_err-2.ensures.rest ∙ ap (xkeys.without handle) tagged_put ∙ keys_back handle _ c.self.inside.tagged newest in
    let room_same : c.take-then-is_err-2-2.new.self ≡ c.self.inside.room =
    c.take-then-is_err-2-2.ensures.rest ∙ ap (rooms.without used) c.in_ok-put_last.ensures.ok ∙ room_back used _ c.self.inside.room latest in
    subst (λ (xs : List Member). AreTied xs c.take-then-is_err-2.new.self c.take-then-is_err-2-2.new.self c.self.inside.bans c.self.inside.newest c.self.inside.unswept) (sym heads_same)
    (subst (λ (xs : List (ℕ × List (List ℕ))). AreTied c.self.inside.heads xs c.take-then-is_err-2-2.new.self c.self.inside.bans c.self.inside.newest c.self.inside.unswept) (sym tagged_same)
    (subst (λ (xs : List Used). AreTied c.self.inside.heads c.self.inside.tagged xs c.self.inside.bans c.self.inside.newest c.self.inside.unswept) (sym room_same) c.self.invariant))

pub enter-requires : goal.enter-requires
enter-requires c =
    let all : c.self.inside.bans.objects ≡ length (map stand_of c.self.inside.heads) = c.self.invariant.stands.all in
    let long = length_of_map stand_of c.self.inside.heads in
    let few = few_objects c.self.inside.heads in
    let same = ap (λ (lazy : Lazy). sizes_late lazy.objects) c.self.view_is in
    let some = size_some c.args.item.view.object in
    omega (arith, all, long, few, same, some, c.requires.size, c.requires.fits)

pub invariant_of-self-2 : goal.invariant_of-self-2
invariant_of-self-2 c =
    let used : ℕ = c.args.item.payload.used in
    let handle : ℕ = 18446744073709551615 - used in
    let less : c.args.item.payload.used < 2 ^ 64 = search rules in
    let fits : SFits w128 c.end_of-end.result = search rules in
    let before : AreUsedBefore used (map placed_of c.self.inside.heads) = subst (λ (lazy : Lazy). AreUsedBefore used lazy.objects) (sym c.self.view_is) c.requires.later in
    let own : list_any (has_number c.args.item.view.number) (map placed_of c.self.inside.heads) ≡ false =
    subst (λ (lazy : Lazy). list_any (has_number c.args.item.view.number) lazy.objects ≡ false) (sym c.self.view_is) c.requires.own in
    let tied =
    tied_first c.args.item handle c.self.inside.heads c.self.inside.tagged c.self.inside.room c.self.inside.bans c.self.inside.newest c.self.inside.unswept c.self.invariant (whole_sum used less) before own
    (subst (λ (lazy : Lazy). c.args.item.payload.stand.place ≤ lazy.issued) (sym c.self.view_is) c.requires.place)
    (subst (λ (lazy : Lazy). c.args.item.payload.stand.mark ≡ lazy.issued) (sym c.self.view_is) c.requires.mark) c.issued-issued.ensures.in_order in
    let heads_put : c.put_first-2.new.self ≡ (handle, c.args.item) ∷ c.self.inside.heads = ok_given c.put_first-2.result _ (sym c.is_err-2.ensures.value ∙ c.if-is_err-2.false) c.put_first-2.ensures.ok in
    let tagged_put : c.put_first.new.self ≡ (handle, xkeys_of c.args.item.view.object) ∷ c.self.inside.tagged =
    ok_given c.put_first.result _ (sym c.is_err.ensures.value ∙ c.if-is_err.false) c.put_first.ensures.ok ∙ ap (λ (keys : List (List ℕ)). (handle, keys) ∷ c.self.inside.tagged) c.requires.keys in
    let room_put : c.put_last.new.self ≡ c.self.inside.room ++ used_of (handle, c.args.item) ∷ [] =
    put_room handle c.args.size _ c.args.item c.self.inside.room c.put_last.new.self c.in_ok-put_last.ensures.ok c.requires.size
    (to_z-of_z w128 c.end_of-end.result fits ∙ c.end_of-end.ensures ∙ ap end_of c.deref.ensures) in
    subst (λ (xs : List Member). AreTied xs c.put_first.new.self c.put_last.new.self c.enter.new.self c.self.inside.newest c.self.inside.unswept) (sym heads_put)
    (subst (λ (xs : List (ℕ × List (List ℕ))). AreTied ((handle, c.args.item) ∷ c.self.inside.heads) xs c.put_last.new.self c.enter.new.self c.self.inside.newest c.self.inside.unswept) (sym tagged_put)
    (subst (λ (xs : List Used). AreTied ((handle, c.args.item) ∷ c.self.inside.heads) ((handle, xkeys_of c.args.item.view.object) ∷ c.self.inside.tagged) xs c.enter.new.self c.self.inside.newest c.self.inside.unswept) (sym room_put)
    (subst (λ (bans : Bans). AreTied ((handle, c.args.item) ∷ c.self.inside.heads) ((handle, xkeys_of c.args.item.view.object) ∷ c.self.inside.tagged) (c.self.inside.room ++ used_of (handle, c.args.item) ∷ []) bans c.self.inside.newest c.self.inside.unswept)
    (sym c.enter.ensures) tied)))
