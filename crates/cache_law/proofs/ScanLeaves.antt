-- What holds of each reply to a lookup over objects of which a fact holds, holds of what a lookup answers whose scan
-- keeps the fact.
use Rattle.std.proofs.Common.{ℕ, List, Option, Some, None}
use Rattle.cache_law.specs.declared.object.Object.{Object}
use Rattle.cache_law.specs.declared.object.Object.TheVariants.{Ordinary, HitForMiss, HitForPass}
use Rattle.cache_law.specs.declared.object.ObjectView.{ObjectView}
use Rattle.cache_law.specs.declared.call.Query.{Query}
use Rattle.cache_law.specs.declared.call.Reply.TheVariants.{NoRound, Hit, HitMiss, HitPass, Grace, Wait}
use Rattle.cache_law.specs.State.{State, Held, has_round, least_token}
use Rattle.cache_law.specs.Lookup.{Scan, scanned, raised}
use Rattle.cache_law.specs.Law.{Step, leaving, fetching, missed, with_hit, with_use, found_fresh, found_grace, waited_or_missed, busy, found_other, found, sought, remembered, looked_up}
use Rattle.cache_law.proofs.Leaves.{either}

-- each reply to a lookup in an open round, over objects of which Q holds
pub record LookupsOf (P : Step → Type 0) (Q : List Held → Type 0) (state : State) (caller : ℕ) (key : List (List ℕ)) : Type 0 where
  pub misses : (objects : List Held) → Q objects → (stale : Option ObjectView) → P (missed (record state { objects = objects }) caller key stale)
  pub hits : (objects : List Held) → Q objects → (view : ObjectView) → P (leaving (with_hit (record state { objects = objects }) view) (Hit (raised view)))
  pub hits_miss : (objects : List Held) → Q objects → (view : ObjectView) → P (record { reply = HitMiss state.next; state = fetching (with_use (record state { objects = objects }) view) caller key })
  pub passes : (objects : List Held) → Q objects → (view : ObjectView) → P (leaving (with_use (record state { objects = objects }) view) HitPass)
  pub graces : (objects : List Held) → Q objects → (view : ObjectView) → P (record { reply = Grace (raised view) (Some state.next); state = fetching (with_hit (record state { objects = objects }) view) caller key })
  pub graces_alone : (objects : List Held) → Q objects → (view : ObjectView) → P (leaving (with_hit (record state { objects = objects }) view) (Grace (raised view) None))
  pub waits : (objects : List Held) → Q objects → (token : ℕ) → P (leaving (record state { objects = objects }) (Wait token))

module _ (P : Step → Type 0) (Q : List Held → Type 0) (state : State) (caller : ℕ) (query : Query) (leaves : LookupsOf P Q state caller query.key) where
  fresh_leaf : (objects : List Held) → Q objects → (view : ObjectView) (object : Object) → P (found_fresh (record state { objects = objects }) caller query.key view object)
  fresh_leaf objects q view (Ordinary response) = leaves.hits objects q view
  fresh_leaf objects q view (HitForMiss marker) = leaves.hits_miss objects q view
  fresh_leaf objects q view (HitForPass marker) = leaves.passes objects q view

  grace_leaf : (objects : List Held) → Q objects → (view : ObjectView) (open_ : Option ℕ) → P (found_grace (record state { objects = objects }) caller query.key view open_)
  grace_leaf objects q view None = leaves.graces objects q view
  grace_leaf objects q view (Some token) = leaves.graces_alone objects q view

  wait_leaf : (objects : List Held) → Q objects → (stale : Option ObjectView) (open_ : Option ℕ) → P (waited_or_missed (record state { objects = objects }) caller query.key stale open_)
  wait_leaf objects q stale None = leaves.misses objects q stale
  wait_leaf objects q stale (Some token) = leaves.waits objects q token

  other_leaf : (objects : List Held) → Q objects → (grace stale : Option ObjectView) → P (found_other (record state { objects = objects }) caller query grace stale)
  other_leaf objects q (Some view) stale = grace_leaf objects q view (least_token query.key state.fetches)
  other_leaf objects q None stale = wait_leaf objects q stale (busy query (least_token query.key state.fetches))

  found_leaf : (objects : List Held) → Q objects → (fresh grace stale : Option ObjectView) → P (found (record state { objects = objects }) caller query fresh grace stale)
  found_leaf objects q (Some view) grace stale = fresh_leaf objects q view view.object
  found_leaf objects q None grace stale = other_leaf objects q grace stale

  pub sought_leaf : Q state.objects → Q (scanned state.moment query state.objects).objects → P (sought state caller query)
  sought_leaf whole scan_keeps =
      let scan : Scan Held = scanned state.moment query state.objects in
      either P query.options.always_miss _ _ (leaves.misses state.objects whole None) (found_leaf scan.objects scan_keeps scan.fresh scan.grace scan.stale)

pub looked_leaf_of : (P : Step → Type 0) (Q : List Held → Type 0) (state : State) (caller : ℕ) (query : Query) → P (leaving state NoRound)
    → Q state.objects → Q (scanned state.moment query state.objects).objects
    → LookupsOf (λ step. P (remembered caller step)) Q state caller query.key → P (looked_up state caller query)
looked_leaf_of P Q state caller query closed whole scan_keeps leaves =
    either P (has_round state.rounds caller) _ _ (sought_leaf (λ step. P (remembered caller step)) Q state caller query leaves whole scan_keeps) closed
