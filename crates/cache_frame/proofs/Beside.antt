-- A call that concerns the desk alone is answered as with nothing on the shelf, and leaves the shelf as it is.
use Rattle.std.proofs.Common.{◌≡◌, ◌==◌, ℕ, Bool, true, false, cond, Option, Some, None, refl}
use Rattle.std.proofs.lemmas.Bool.{false≢true}
use Rattle.cache_law.specs.declared.call.Call.{Call}
use Rattle.cache_law.specs.declared.call.Call.TheVariants.{Begin, Draw, Lookup, Pick, Insert, Ban, BanList, Purge, Xkey, SetHealth, Load, Switch, Discard, VclList, Drop, End}
use Rattle.cache_law.specs.declared.call.Reply.{Reply}
use Rattle.cache_law.specs.declared.call.Reply.TheVariants.{Discarded, IsActive, Refused}
use Rattle.cache_law.specs.declared.vcl.LoadedVcl.{LoadedVcl}
use Rattle.directors.specs.declared.target.Target.{Target}
use Rattle.cache_law.specs.State.{State, has_fetch, has_round}
use Rattle.cache_law.specs.Targets.{chosen}
use Rattle.cache_law.specs.Vcls.{called, is_taken, without_vcl}
use Rattle.cache_law.specs.Law.{Step, MayAnswer, answered, behind, discarded_of, leaving, picked_at, refused, switched_to}
use Rattle.std.specs.List.{list_any}
use Rattle.std.specs.Str.{bytes_eq}
use Rattle.cache_frame.specs.Shelves.{is_beside}
use Rattle.cache_desk.specs.Stock.{stock_of, without_stock}

-- the call concerns the desk alone
abbrev pub is_desk_call : Call → Bool
is_desk_call (Lookup query) = false
is_desk_call (Insert token object stale) = false
is_desk_call (Ban ban) = false
is_desk_call BanList = false
is_desk_call (Purge key) = false
is_desk_call (Xkey keys soft) = false
is_desk_call call = true

abbrev pub bare_step : Step → Step
bare_step step = record { reply = step.reply; state = without_stock step.state }

-- this is what the law says with nothing on the shelf, and the shelf stays as it is
pub record IsBeside (state : State) (law alone : Step) : Type 0 where
  pub bare_ : alone ≡ bare_step law
  pub stock : stock_of law.state ≡ stock_of state

either : (state : State) (b : Bool) (one two alone other : Step) → IsBeside state one alone → IsBeside state two other → IsBeside state (cond b one two) (cond b alone other)
either state true one two alone other p q = p
either state false one two alone other p q = q

picks : (state : State) (vcl : ℕ) (target : Target) (place : Option ℕ) → IsBeside state (picked_at state vcl target place) (picked_at (without_stock state) vcl target place)
picks state vcl target None = record { bare_ = refl; stock = refl }
picks state vcl target (Some place) = record { bare_ = refl; stock = refl }

switches : (state : State) (found : Option LoadedVcl) → IsBeside state (switched_to state found) (switched_to (without_stock state) found)
switches state None = record { bare_ = refl; stock = refl }
switches state (Some found) = record { bare_ = refl; stock = refl }

discards_one : (state : State) (number : ℕ) (active : Bool) → IsBeside state (cond active (leaving state IsActive) (record { reply = Discarded; state = record state { vcls = without_vcl state.rounds number state.vcls } }))
    (cond active (leaving (without_stock state) IsActive) (record { reply = Discarded; state = record (without_stock state) { vcls = without_vcl state.rounds number state.vcls } }))
discards_one state number true = record { bare_ = refl; stock = refl }
discards_one state number false = record { bare_ = refl; stock = refl }

discards : (state : State) (found : Option LoadedVcl) → IsBeside state (discarded_of state found) (discarded_of (without_stock state) found)
discards state None = record { bare_ = refl; stock = refl }
discards state (Some found) = discards_one state found.vcl.number (found.vcl.number == state.active.number)

pub beside : (room : ℕ) (state : State) (caller : ℕ) (call : Call) → is_desk_call call ≡ true → IsBeside state (answered room state caller call) (answered room (without_stock state) caller call)
beside room state caller Begin e = either state (has_round state.rounds caller) _ _ _ _ (record { bare_ = refl; stock = refl }) (record { bare_ = refl; stock = refl })
beside room state caller Draw e = either state (has_round state.rounds caller) _ _ _ _ (record { bare_ = refl; stock = refl }) (record { bare_ = refl; stock = refl })
beside room state caller (Pick vcl target word) e = picks state vcl target (chosen state.health state.counters vcl target word)
beside room state caller (SetHealth backend given) e =
    either state (list_any (bytes_eq backend) state.active.backends) _ _ _ _ (record { bare_ = refl; stock = refl }) (record { bare_ = refl; stock = refl })
beside room state caller (Load source) e = either state (is_taken source.name state.vcls) _ _ _ _ (record { bare_ = refl; stock = refl }) (record { bare_ = refl; stock = refl })
beside room state caller (Switch name) e = switches state (called name state.vcls)
beside room state caller (Discard name) e = discards state (called name state.vcls)
beside room state caller VclList e = record { bare_ = refl; stock = refl }
beside room state caller (Drop token) e = either state (has_fetch state.fetches caller token) _ _ _ _ (record { bare_ = refl; stock = refl }) (record { bare_ = refl; stock = refl })
beside room state caller End e = either state (has_round state.rounds caller) _ _ _ _ (record { bare_ = refl; stock = refl }) (record { bare_ = refl; stock = refl })
beside room state caller (Lookup query) e = absurd (false≢true e)
beside room state caller (Insert token object stale) e = absurd (false≢true e)
beside room state caller (Ban ban) e = absurd (false≢true e)
beside room state caller BanList e = absurd (false≢true e)
beside room state caller (Purge key) e = absurd (false≢true e)
beside room state caller (Xkey keys soft) e = absurd (false≢true e)

-- its shelf isn't asked
pub beside_call : (call : Call) (reply : Reply) → is_desk_call call ≡ true → is_beside call reply ≡ true
beside_call (Lookup query) reply e = absurd (false≢true e)
beside_call (Insert token object stale) reply e = absurd (false≢true e)
beside_call (Ban ban) reply e = absurd (false≢true e)
beside_call (Purge key) reply e = absurd (false≢true e)
beside_call (Xkey keys soft) reply e = absurd (false≢true e)
beside_call call reply e = refl

-- what it may be answered doesn't go by the state
pub desk_told : (one two : State) (call : Call) (law told : Reply) → is_desk_call call ≡ true → MayAnswer one call law told → MayAnswer two call law told
desk_told one two (Insert token object stale) law told e may = absurd (false≢true e)
desk_told one two BanList law told e may = absurd (false≢true e)
desk_told one two call law told e may = may

pub behind_map : (f : State → State) (reply : Reply) (one two : State) → f (behind reply one two) ≡ behind reply (f one) (f two)
behind_map f Refused one two = refl
behind_map f reply one two = refl

pub refused_bare : (state : State) (call : Call) → refused (without_stock state) call ≡ without_stock (refused state call)
refused_bare state (Insert token object stale) = refl
refused_bare state call = refl

pub refused_stock : (state : State) (call : Call) → stock_of (refused state call) ≡ stock_of state
refused_stock state (Insert token object stale) = refl
refused_stock state call = refl
