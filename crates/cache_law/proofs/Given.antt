-- What a lookup gives is one of the objects that its scan came to.
use Rattle.std.proofs.Common.{◌≡◌, ℕ, Bool, true, false, cond, List, Option, Some, None, refl, subst}
use Rattle.std.specs.List.{AllByRecursion}
use Rattle.cache_law.specs.declared.object.Object.{Object}
use Rattle.cache_law.specs.declared.object.Object.TheVariants.{Ordinary, HitForMiss, HitForPass}
use Rattle.cache_law.specs.declared.object.ObjectView.{ObjectView}
use Rattle.cache_law.specs.declared.call.Query.{Query}
use Rattle.cache_law.specs.declared.call.Reply.TheVariants.{NoRound}
use Rattle.cache_law.specs.State.{State, Held, has_round, least_token}
use Rattle.cache_law.specs.BansAtOnce.{is_met}
use Rattle.cache_law.specs.Lookup.{Scan, scanned, raised}
use Rattle.cache_law.specs.Law.{leaving, missed, found_fresh, found_grace, waited_or_missed, busy, found_other, found, found_by, sought, remembered, looked_up}
use Rattle.cache_law.specs.BanHistories.{given}
use Rattle.cache_law.proofs.Held.{fresh_is, grace_is}

module _ (P : ObjectView → Type 0) (up : (view : ObjectView) → P view → P (raised view)) where
  fresh_gives : (state : State) (caller : ℕ) (key : List (List ℕ)) (own : ObjectView) (object : Object) (view : ObjectView) → P own → given (found_fresh state caller key own object).reply ≡ Some view → P view
  fresh_gives state caller key own (Ordinary response) view p e = let same : raised own ≡ view = cc in subst P same (up own p)
  fresh_gives state caller key own (HitForMiss marker) view p e = cc
  fresh_gives state caller key own (HitForPass marker) view p e = cc

  grace_gives : (state : State) (caller : ℕ) (key : List (List ℕ)) (own : ObjectView) (open_ : Option ℕ) (view : ObjectView) → P own → given (found_grace state caller key own open_).reply ≡ Some view → P view
  grace_gives state caller key own None view p e = let same : raised own ≡ view = cc in subst P same (up own p)
  grace_gives state caller key own (Some token) view p e = let same : raised own ≡ view = cc in subst P same (up own p)

  none_gives : (state : State) (caller : ℕ) (key : List (List ℕ)) (stale : Option ObjectView) (open_ : Option ℕ) (view : ObjectView) → given (waited_or_missed state caller key stale open_).reply ≡ Some view → P view
  none_gives state caller key stale None view e = cc
  none_gives state caller key stale (Some token) view e = cc

  other_gives : (state : State) (caller : ℕ) (query : Query) (grace stale : Option ObjectView) (view : ObjectView) → ((own : ObjectView) → grace ≡ Some own → P own) → given (found_other state caller query grace stale).reply ≡ Some view → P view
  other_gives state caller query (Some own) stale view p e = grace_gives state caller query.key own (least_token query.key state.fetches) view (p own refl) e
  other_gives state caller query None stale view p e = none_gives state caller query.key stale (busy query (least_token query.key state.fetches)) view e

  found_gives : (state : State) (caller : ℕ) (query : Query) (fresh grace stale : Option ObjectView) (view : ObjectView)
      → ((own : ObjectView) → fresh ≡ Some own → P own) → ((own : ObjectView) → grace ≡ Some own → P own) → given (found state caller query fresh grace stale).reply ≡ Some view → P view
  found_gives state caller query (Some own) grace stale view p q e = fresh_gives state caller query.key own own.object view (p own refl) e
  found_gives state caller query None grace stale view p q e = other_gives state caller query grace stale view q e

  sought_gives : (state : State) (caller : ℕ) (query : Query) (misses : Bool) (view : ObjectView) → AllByRecursion (λ held. is_met query.request held ≡ false → P held.view) state.objects
      → given (cond misses (missed state caller query.key None) (found_by state caller query (scanned state.moment query state.objects))).reply ≡ Some view → P view
  sought_gives state caller query true view all e = cc
  sought_gives state caller query false view all e =
      let scan : Scan Held = scanned state.moment query state.objects in
      found_gives (record state { objects = scan.objects }) caller query scan.fresh scan.grace scan.stale view
      (fresh_is P state.moment query state.objects all) (grace_is P state.moment query state.objects all) e

  open_gives : (state : State) (caller : ℕ) (query : Query) (opened : Bool) (view : ObjectView) → AllByRecursion (λ held. is_met query.request held ≡ false → P held.view) state.objects
      → given (cond opened (remembered caller (sought state caller query)) (leaving state NoRound)).reply ≡ Some view → P view
  open_gives state caller query true view all e = sought_gives state caller query query.options.always_miss view all e
  open_gives state caller query false view all e = cc

  -- what is known of each object that no waiting ban meets is known of what a lookup gives
  pub looked_gives : (state : State) (caller : ℕ) (query : Query) (view : ObjectView) → AllByRecursion (λ held. is_met query.request held ≡ false → P held.view) state.objects
      → given (looked_up state caller query).reply ≡ Some view → P view
  looked_gives state caller query view all e = open_gives state caller query (has_round state.rounds caller) view all e
