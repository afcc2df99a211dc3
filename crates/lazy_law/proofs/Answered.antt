-- Each call, answered over what is kept, has a reply that the law allows, and leaves what stands for the law's next state.
use Rattle.std.proofs.Common.{◌≡◌, ◌≤◌, ℕ, Bool, true, false, cond, List, Option, Some, None, refl, sym, ap, ◌∙◌, subst}
use Rattle.std.specs.List.{list_any}
use Rattle.std.specs.Str.{bytes_eq}
use Rattle.cache_law.specs.declared.call.Call.{Call}
use Rattle.cache_law.specs.declared.call.Call.TheVariants.{Begin, Draw, Lookup, Pick, Insert, Ban, BanList, Purge, Xkey, SetHealth, Load, Switch, Discard, VclList, Drop, End}
use Rattle.directors.specs.declared.target.Target.{Target}
use Rattle.cache_law.specs.declared.vcl.LoadedVcl.{LoadedVcl}
use Rattle.cache_law.specs.declared.vcl.Health.{Health}
use Rattle.cache_law.specs.declared.vcl.VclSource.{VclSource}
use Rattle.cache_law.specs.Targets.{chosen}
use Rattle.cache_law.specs.Vcls.{called, is_taken}
use Rattle.cache_law.specs.State.{Held, State, at_moment, has_fetch, has_round, those_in_time}
use Rattle.cache_law.specs.Law.{MayAnswer, Step, answered, discarded_of, picked_at, refused, switched_to}
use Rattle.cache_law.proofs.Lawful.{MayAnswer-lawful, answers_lawfully, asks_bans, is_refusal}
use Rattle.lazy_law.specs.Placed.{Lazy, seen}
use Rattle.lazy_law.specs.Stands.{IsKept, Stands, StandsFor}
use Rattle.lazy_law.specs.Late.{LateStep, answered_late, desk_of}
use Rattle.lazy_law.proofs.Shown.{lines_show}
use Rattle.lazy_law.proofs.Staying.{standing}
use Rattle.lazy_law.proofs.Steps.{ban_stands, held_over, insertion_stands, later_same, lookup_stands, purge_stands, xkey_stands}

-- the late reply is one that the law allows, and what is left stands
pub record IsAnswered (state : State) (call : Call) (late : LateStep) (law : Step) : Type 0 where
  pub answer : MayAnswer state call law.reply late.reply
  -- memory is never wanting by the law
  pub lawful : is_refusal late.reply ≡ false
  pub stands : StandsFor late.lazy state.moment law.state.issued law.state.bans law.state.objects

-- of a call that has nothing to do with bans and objects: the reply at the desk, and the law's step
abbrev LeavesAll : Lazy → ℕ → Step → Step → Type 0
LeavesAll lazy moment desk law = (desk.reply ≡ law.reply) × StandsFor lazy moment law.state.issued law.state.bans law.state.objects

either_step : (lazy : Lazy) (moment : ℕ) (b : Bool) (one two three four : Step) → LeavesAll lazy moment one three → LeavesAll lazy moment two four → LeavesAll lazy moment (cond b one two) (cond b three four)
either_step lazy moment true one two three four here there = here
either_step lazy moment false one two three four here there = there

module _ (lazy : Lazy) (state : State) (all : StandsFor lazy state.moment state.issued state.bans (seen state.moment state.bans lazy.objects)) where
  picked_so : (vcl : ℕ) (target : Target) (place : Option ℕ) → LeavesAll lazy state.moment (picked_at (desk_of state) vcl target place) (picked_at (held_over lazy state) vcl target place)
  picked_so vcl target None = (refl, all)
  picked_so vcl target (Some place) = (refl, all)

  switched_so : (found : Option LoadedVcl) → LeavesAll lazy state.moment (switched_to (desk_of state) found) (switched_to (held_over lazy state) found)
  switched_so None = (refl, all)
  switched_so (Some found) = (refl, all)

  discarded_so : (found : Option LoadedVcl) → LeavesAll lazy state.moment (discarded_of (desk_of state) found) (discarded_of (held_over lazy state) found)
  discarded_so None = (refl, all)
  discarded_so (Some found) = either_step lazy state.moment _ _ _ _ _ (refl, all) (refl, all)

  begin_so : (room caller : ℕ) → LeavesAll lazy state.moment (answered room (desk_of state) caller Begin) (answered room (held_over lazy state) caller Begin)
  begin_so room caller = either_step lazy state.moment (has_round state.rounds caller) _ _ _ _ (refl, all) (refl, all)

  draw_so : (room caller : ℕ) → LeavesAll lazy state.moment (answered room (desk_of state) caller Draw) (answered room (held_over lazy state) caller Draw)
  draw_so room caller = either_step lazy state.moment (has_round state.rounds caller) _ _ _ _ (refl, all) (refl, all)

  health_so : (room caller : ℕ) (backend : List ℕ) (given : Health) → LeavesAll lazy state.moment (answered room (desk_of state) caller (SetHealth backend given)) (answered room (held_over lazy state) caller (SetHealth backend given))
  health_so room caller backend given = either_step lazy state.moment (list_any (bytes_eq backend) state.active.backends) _ _ _ _ (refl, all) (refl, all)

  load_so : (room caller : ℕ) (source : VclSource) → LeavesAll lazy state.moment (answered room (desk_of state) caller (Load source)) (answered room (held_over lazy state) caller (Load source))
  load_so room caller source = either_step lazy state.moment (is_taken source.name state.vcls) _ _ _ _ (refl, all) (refl, all)

  drop_so : (room caller token : ℕ) → LeavesAll lazy state.moment (answered room (desk_of state) caller (Drop token)) (answered room (held_over lazy state) caller (Drop token))
  drop_so room caller token = either_step lazy state.moment (has_fetch state.fetches caller token) _ _ _ _ (refl, all) (refl, all)

  end_so : (room caller : ℕ) → LeavesAll lazy state.moment (answered room (desk_of state) caller End) (answered room (held_over lazy state) caller End)
  end_so room caller = either_step lazy state.moment (has_round state.rounds caller) _ _ _ _ (refl, all) (refl, all)

-- the late reply is the law's
so : (room : ℕ) (lazy : Lazy) (state : State) (caller : ℕ) (call : Call) → asks_bans call ≡ false → (answered_late room (desk_of state) caller call lazy).reply ≡ (answered room (held_over lazy state) caller call).reply
    → StandsFor (answered_late room (desk_of state) caller call lazy).lazy state.moment (answered room (held_over lazy state) caller call).state.issued (answered room (held_over lazy state) caller call).state.bans (answered room (held_over lazy state) caller call).state.objects
    → IsAnswered (held_over lazy state) call (answered_late room (desk_of state) caller call lazy) (answered room (held_over lazy state) caller call)
so room lazy state caller call one e stands =
    record {
      answer = MayAnswer-lawful (held_over lazy state) call _ _ one e;
      lawful = ap is_refusal e ∙ answers_lawfully room (held_over lazy state) caller call;
      stands = stands;
    }

by_call : (room : ℕ) (lazy : Lazy) (state : State) → lazy.issued ≡ state.issued → IsKept lazy state.bans → StandsFor lazy state.moment state.issued state.bans (seen state.moment state.bans lazy.objects) → (caller : ℕ) (call : Call)
    → IsAnswered (held_over lazy state) call (answered_late room (desk_of state) caller call lazy) (answered room (held_over lazy state) caller call)
by_call room lazy state count kept all caller Begin = let both = begin_so lazy state all room caller in so room lazy state caller Begin refl both.0 both.1
by_call room lazy state count kept all caller Draw = let both = draw_so lazy state all room caller in so room lazy state caller Draw refl both.0 both.1
by_call room lazy state count kept all caller (Lookup query) = let step = lookup_stands lazy state count kept caller query in so room lazy state caller (Lookup query) refl step.reply step.stands
by_call room lazy state count kept all caller (Pick vcl target word) = let both = picked_so lazy state all vcl target (chosen state.health state.counters vcl target word) in so room lazy state caller (Pick vcl target word) refl both.0 both.1
by_call room lazy state count kept all caller (Insert token object stale) = let step = insertion_stands lazy state count kept room caller token object stale in so room lazy state caller (Insert token object stale) refl step.reply step.stands
by_call room lazy state count kept all caller (Ban ban) = so room lazy state caller (Ban ban) refl refl (ban_stands lazy state.moment state.issued state.bans ban count kept)
by_call room lazy state count kept all caller BanList = record { answer = lines_show lazy state.moment state.bans kept; lawful = refl; stands = all }
by_call room lazy state count kept all caller (Purge key) = let step = purge_stands lazy state count kept key in so room lazy state caller (Purge key) refl step.reply step.stands
by_call room lazy state count kept all caller (Xkey keys soft) = let step = xkey_stands lazy state count kept keys soft in so room lazy state caller (Xkey keys soft) refl step.reply step.stands
by_call room lazy state count kept all caller (SetHealth backend given) = let both = health_so lazy state all room caller backend given in so room lazy state caller (SetHealth backend given) refl both.0 both.1
by_call room lazy state count kept all caller (Load source) = let both = load_so lazy state all room caller source in so room lazy state caller (Load source) refl both.0 both.1
by_call room lazy state count kept all caller (Switch name) = let both = switched_so lazy state all (called name state.vcls) in so room lazy state caller (Switch name) refl both.0 both.1
by_call room lazy state count kept all caller (Discard name) = let both = discarded_so lazy state all (called name state.vcls) in so room lazy state caller (Discard name) refl both.0 both.1
by_call room lazy state count kept all caller VclList = so room lazy state caller VclList refl refl all
by_call room lazy state count kept all caller (Drop token) = let both = drop_so lazy state all room caller token in so room lazy state caller (Drop token) refl both.0 both.1
by_call room lazy state count kept all caller End = let both = end_so lazy state all room caller in so room lazy state caller End refl both.0 both.1

-- what stands for a state stands for it as it is later
pub later_stands : (lazy : Lazy) (moment : ℕ) (state : State) → state.moment ≤ moment → Stands lazy state → Stands lazy (at_moment moment state)
later_stands lazy moment state less stands =
    standing lazy moment state.issued state.bans (those_in_time moment state.objects) stands.count stands.kept (later_same lazy state.moment moment state.issued state.bans state.objects less stands)

pub each_stands : (room : ℕ) (lazy : Lazy) (state : State) (moment caller : ℕ) (call : Call) → state.moment ≤ moment → Stands lazy state
    → IsAnswered (at_moment moment state) call (answered_late room (desk_of (at_moment moment state)) caller call lazy) (answered room (at_moment moment state) caller call)
each_stands room lazy state moment caller call less stands =
    let now : State = at_moment moment state in
    let exact : now.objects ≡ seen moment state.bans lazy.objects = later_same lazy state.moment moment state.issued state.bans state.objects less stands in
    let all : StandsFor lazy moment state.issued state.bans (seen moment state.bans lazy.objects) = standing lazy moment state.issued state.bans (seen moment state.bans lazy.objects) stands.count stands.kept refl in
    subst (λ (objects : List Held). IsAnswered (record now { objects = objects }) call (answered_late room (desk_of now) caller call lazy) (answered room (record now { objects = objects }) caller call)) (sym exact)
    (by_call room lazy now stands.count stands.kept all caller call)

-- and behind a refusal
refused_as : (lazy : Lazy) (state : State) (call : Call) → Stands lazy state → Stands lazy (refused state call)
refused_as lazy state (Insert token object stale) stands = stands
refused_as lazy state call stands = stands

pub refused_stands : (lazy : Lazy) (state : State) (moment : ℕ) (call : Call) → state.moment ≤ moment → Stands lazy state → Stands lazy (refused (at_moment moment state) call)
refused_stands lazy state moment call less stands = refused_as lazy (at_moment moment state) call (later_stands lazy moment state less stands)
