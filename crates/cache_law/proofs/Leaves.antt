-- What holds of each reply that a rule can give, with the state behind it, holds of what the law answers.
use Rattle.std.proofs.Common.{◌≡◌, ℕ, Bool, true, false, cond, List, Option, Some, None, ◌==◌, refl}
use Rattle.std.specs.List.{list_any}
use Rattle.std.specs.Str.{bytes_eq}
use Rattle.cache_law.specs.declared.object.Object.{Object}
use Rattle.cache_law.specs.declared.object.Object.TheVariants.{Ordinary, HitForMiss, HitForPass}
use Rattle.cache_law.specs.declared.object.ObjectView.{ObjectView}
use Rattle.directors.specs.declared.target.Target.{Target}
use Rattle.cache_law.specs.declared.vcl.Health.{Health}
use Rattle.cache_law.specs.declared.vcl.Vcl.{Vcl}
use Rattle.cache_law.specs.declared.vcl.VclSource.{VclSource}
use Rattle.cache_law.specs.declared.vcl.LoadedVcl.{LoadedVcl}
use Rattle.cache_law.specs.declared.call.Query.{Query}
use Rattle.cache_law.specs.declared.call.Reply.TheVariants.{NoRound, Hit, HitMiss, HitPass, Grace, Wait, Picked, NotOpen, StaleGone, NotInTime, NoRoom, HealthSet, NameTaken, Switched, NoVcl, Discarded, IsActive}
use Rattle.cache_law.specs.Object.{in_time, size_of}
use Rattle.cache_law.specs.State.{State, Held, has_round, has_fetch, least_token, is_gone, without_stale}
use Rattle.cache_law.specs.Room.{has_no_room}
use Rattle.cache_law.specs.Lookup.{Scan, scanned, raised}
use Rattle.cache_law.specs.Targets.{chosen, counted_on, name_at, with_health}
use Rattle.cache_law.specs.Vcls.{called, is_taken, numbered, without_vcl}
use Rattle.cache_law.specs.Law.{Step, leaving, fetching, missed, with_hit, with_use, found_fresh, found_grace, waited_or_missed, busy, found_other, found, sought, remembered, looked_up, closing, stored, inserted, picked, picked_at, health_set, loaded, loaded_as, switched, switched_to, discarded, discarded_of}

pub either : (P : Step → Type 0) (b : Bool) (one two : Step) → P one → P two → P (cond b one two)
either P true one two p q = p
either P false one two p q = q

-- each reply to a lookup in an open round, over the objects that a scan left
pub record Lookups (P : Step → Type 0) (state : State) (caller : ℕ) (key : List (List ℕ)) : Type 0 where
  pub misses : (objects : List Held) (stale : Option ObjectView) → P (missed (record state { objects = objects }) caller key stale)
  pub hits : (objects : List Held) (view : ObjectView) → P (leaving (with_hit (record state { objects = objects }) view) (Hit (raised view)))
  pub hits_miss : (objects : List Held) → (view : ObjectView) → P (record { reply = HitMiss state.next; state = fetching (with_use (record state { objects = objects }) view) caller key })
  pub passes : (objects : List Held) → (view : ObjectView) → P (leaving (with_use (record state { objects = objects }) view) HitPass)
  pub graces : (objects : List Held) (view : ObjectView) → P (record { reply = Grace (raised view) (Some state.next); state = fetching (with_hit (record state { objects = objects }) view) caller key })
  pub graces_alone : (objects : List Held) (view : ObjectView) → P (leaving (with_hit (record state { objects = objects }) view) (Grace (raised view) None))
  pub waits : (objects : List Held) (token : ℕ) → P (leaving (record state { objects = objects }) (Wait token))

module _ (P : Step → Type 0) (state : State) (caller : ℕ) (query : Query) (leaves : Lookups P state caller query.key) where
  fresh_leaf : (objects : List Held) (view : ObjectView) (object : Object) → P (found_fresh (record state { objects = objects }) caller query.key view object)
  fresh_leaf objects view (Ordinary response) = leaves.hits objects view
  fresh_leaf objects view (HitForMiss marker) = leaves.hits_miss objects view
  fresh_leaf objects view (HitForPass marker) = leaves.passes objects view

  grace_leaf : (objects : List Held) (view : ObjectView) (open_ : Option ℕ) → P (found_grace (record state { objects = objects }) caller query.key view open_)
  grace_leaf objects view None = leaves.graces objects view
  grace_leaf objects view (Some token) = leaves.graces_alone objects view

  wait_leaf : (objects : List Held) (stale : Option ObjectView) (open_ : Option ℕ) → P (waited_or_missed (record state { objects = objects }) caller query.key stale open_)
  wait_leaf objects stale None = leaves.misses objects stale
  wait_leaf objects stale (Some token) = leaves.waits objects token

  other_leaf : (objects : List Held) (grace stale : Option ObjectView) → P (found_other (record state { objects = objects }) caller query grace stale)
  other_leaf objects (Some view) stale = grace_leaf objects view (least_token query.key state.fetches)
  other_leaf objects None stale = wait_leaf objects stale (busy query (least_token query.key state.fetches))

  found_leaf : (objects : List Held) (fresh grace stale : Option ObjectView) → P (found (record state { objects = objects }) caller query fresh grace stale)
  found_leaf objects (Some view) grace stale = fresh_leaf objects view view.object
  found_leaf objects None grace stale = other_leaf objects grace stale

  pub sought_leaf : P (sought state caller query)
  sought_leaf =
      let scan : Scan Held = scanned state.moment query state.objects in
      either P query.options.always_miss _ _ (leaves.misses state.objects None) (found_leaf scan.objects scan.fresh scan.grace scan.stale)

pub looked_leaf : (P : Step → Type 0) (state : State) (caller : ℕ) (query : Query) → P (leaving state NoRound) → Lookups (λ step. P (remembered caller step)) state caller query.key → P (looked_up state caller query)
looked_leaf P state caller query closed leaves =
    either P (has_round state.rounds caller) _ _ (sought_leaf (λ step. P (remembered caller step)) state caller query leaves) closed

-- each reply to an insertion
pub record Insertions (P : Step → Type 0) (room : ℕ) (state : State) (token : ℕ) (object : Object) (stale : Option ℕ) : Type 0 where
  pub opens_not : P (leaving state NotOpen)
  pub gone : P (leaving state StaleGone)
  pub late : P (closing token state NotInTime)
  pub full : P (closing token state NoRoom)
  pub stores : P (stored room state token object stale)

pub inserted_leaf : (P : Step → Type 0) (room : ℕ) (state : State) (caller token : ℕ) (object : Object) (stale : Option ℕ) → Insertions P room state token object stale → P (inserted room state caller token object stale)
inserted_leaf P room state caller token object stale leaves =
    either P (has_fetch state.fetches caller token) _ _
    (either P (is_gone stale state.objects) _ _ leaves.gone
    (either P (in_time state.moment object) _ _
    (either P (has_no_room room (size_of object) (without_stale stale state.objects)) _ _ leaves.full leaves.stores) leaves.late)) leaves.opens_not

-- each reply to a pick
pub picked_leaf : (P : Step → Type 0) (state : State) (vcl : ℕ) (target : Target) (word : ℕ) → P (leaving state (Picked None))
    → ((place : ℕ) → P (record { reply = Picked (name_at place target.members); state = record state { counters = counted_on target.kind vcl target.name place state.counters } }))
    → P (picked state vcl target word)
picked_leaf P state vcl target word none_ some_ = by_place (chosen state.health state.counters vcl target word)
  where
    by_place : (place : Option ℕ) → P (picked_at state vcl target place)
    by_place None = none_
    by_place (Some place) = some_ place

-- each reply to a health that is set
pub health_leaf : (P : Step → Type 0) (state : State) (backend : List ℕ) (given : Health)
    → P (record { reply = HealthSet true; state = record state { health = with_health state.active.number backend given state.health } })
    → P (leaving state (HealthSet false)) → P (health_set state backend given)
health_leaf P state backend given set_ other = either P (list_any (bytes_eq backend) state.active.backends) _ _ set_ other

-- each reply to a load
pub loaded_leaf : (P : Step → Type 0) (state : State) (source : VclSource) → P (leaving state NameTaken) → P (loaded_as state (numbered state.next_vcl source)) → P (loaded state source)
loaded_leaf P state source taken free = either P (is_taken source.name state.vcls) _ _ taken free

-- each reply to a switch
pub switched_leaf : (P : Step → Type 0) (state : State) (name : List ℕ) → P (leaving state NoVcl)
    → ((vcl : Vcl) → P (record { reply = Switched; state = record state { active = vcl } })) → P (switched state name)
switched_leaf P state name none_ some_ = by_found (called name state.vcls)
  where
    by_found : (found_ : Option LoadedVcl) → P (switched_to state found_)
    by_found None = none_
    by_found (Some found_) = some_ found_.vcl

-- each reply to a discard
pub discarded_leaf : (P : Step → Type 0) (state : State) (name : List ℕ) → P (leaving state NoVcl) → P (leaving state IsActive)
    → ((number : ℕ) → P (record { reply = Discarded; state = record state { vcls = without_vcl state.rounds number state.vcls } })) → P (discarded state name)
discarded_leaf P state name none_ active some_ = by_found (called name state.vcls)
  where
    by_found : (found_ : Option LoadedVcl) → P (discarded_of state found_)
    by_found None = none_
    by_found (Some found_) = either P (found_.vcl.number == state.active.number) _ _ active (some_ found_.vcl.number)

-- a choice, where it is known which way it goes
pub either_known : (P : Step → Type 0) (b : Bool) (one two : Step) → (b ≡ true → P one) → (b ≡ false → P two) → P (cond b one two)
either_known P true one two p q = p refl
either_known P false one two p q = q refl

-- each reply to an insertion, where it is known that the fetch is open and that the stale object is there
pub record KnownInsertions (P : Step → Type 0) (room : ℕ) (state : State) (caller token : ℕ) (object : Object) (stale : Option ℕ) : Type 0 where
  pub opens_not : P (leaving state NotOpen)
  pub gone : P (leaving state StaleGone)
  pub late : P (closing token state NotInTime)
  pub full : P (closing token state NoRoom)
  pub stores : has_fetch state.fetches caller token ≡ true → is_gone stale state.objects ≡ false → P (stored room state token object stale)

pub known_leaf : (P : Step → Type 0) (room : ℕ) (state : State) (caller token : ℕ) (object : Object) (stale : Option ℕ) → KnownInsertions P room state caller token object stale → P (inserted room state caller token object stale)
known_leaf P room state caller token object stale leaves =
    either_known P (has_fetch state.fetches caller token) _ _
    (λ opened. either_known P (is_gone stale state.objects) _ _ (λ gone. leaves.gone)
    (λ stays. either P (in_time state.moment object) _ _
    (either P (has_no_room room (size_of object) (without_stale stale state.objects)) _ _ leaves.full (leaves.stores opened stays)) leaves.late))
    (λ shut. leaves.opens_not)
