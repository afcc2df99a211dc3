-- The VCLs stand in the order of their numbers, so no two have one number.
use Rattle.std.proofs.Common.{◌≡◌, ℕ, Bool, true, false, cond, List, [], ◌∷◌, ◌++◌, ◌+◌, ◌<◌, ◌==◌, filter, map, refl, arith, sym, ap, ◌∙◌, inl, inr}
use Rattle.std.specs.List.{AllByRecursion}
use Rattle.cache_law.specs.declared.setting.Params.{Params}
use Rattle.cache_law.specs.declared.vcl.LoadedVcl.{LoadedVcl}
use Rattle.cache_law.specs.declared.call.Call.{Call}
use Rattle.cache_law.specs.declared.call.Call.TheVariants.{Begin, Draw, Lookup, Pick, Insert, Ban, BanList, Purge, Xkey, SetHealth, Load, Switch, Discard, VclList, Drop, End}
use Rattle.cache_law.specs.declared.call.Entry.{Entry}
use Rattle.cache_law.specs.State.{State, at_moment, has_round, has_fetch, without_round_of}
use Rattle.cache_law.specs.Vcls.{stays, discarding, numbered}
use Rattle.cache_law.specs.Law.{Step, answered, refused}
use Rattle.cache_law.specs.History.{next_state, reached_from}
use Rattle.cache_law.specs.RoundVcls.{IsOneOf}
use Rattle.cache_law.specs.Bases.{AreRising}
use Rattle.cache_law.proofs.Growth.{behind_either}
use Rattle.cache_law.proofs.Held.{all-filter, all-weaken}
use Rattle.cache_law.proofs.Leaves.{either, looked_leaf, inserted_leaf, picked_leaf, health_leaf, loaded_leaf, switched_leaf, discarded_leaf}

-- the numbers of all are below
abbrev Below : ℕ → List LoadedVcl → Type 0
Below number vcls = AllByRecursion (λ (l : LoadedVcl). l.vcl.number < number) vcls

abbrev Above : LoadedVcl → List LoadedVcl → Type 0
Above loaded vcls = AllByRecursion (λ (l : LoadedVcl). loaded.vcl.number < l.vcl.number) vcls

above_more : (loaded new : LoadedVcl) (vcls : List LoadedVcl) → Above loaded vcls → loaded.vcl.number < new.vcl.number → Above loaded (vcls ++ new ∷ [])
above_more loaded new [] all here = (here, tt)
above_more loaded new (l ∷ ls) all here = (all.0, above_more loaded new ls all.1 here)

rising_more : (new : LoadedVcl) (vcls : List LoadedVcl) → AreRising vcls → Below new.vcl.number vcls → AreRising (vcls ++ new ∷ [])
rising_more new [] rising below = (tt, tt)
rising_more new (l ∷ ls) rising below = (above_more l new ls rising.0 below.0, rising_more new ls rising.1 below.1)

below_more : (number : ℕ) (new : LoadedVcl) (vcls : List LoadedVcl) → Below number vcls → new.vcl.number < number → Below number (vcls ++ new ∷ [])
below_more number new [] all here = (here, tt)
below_more number new (l ∷ ls) all here = (all.0, below_more number new ls all.1 here)

kept_step : (b : Bool) (loaded : LoadedVcl) (kept : List LoadedVcl) → Above loaded kept → AreRising kept → AreRising (cond b (loaded ∷ kept) kept)
kept_step true loaded kept above rising = (above, rising)
kept_step false loaded kept above rising = rising

rising-filter : (test : LoadedVcl → Bool) (vcls : List LoadedVcl) → AreRising vcls → AreRising (filter test vcls)
rising-filter test [] rising = tt
rising-filter test (l ∷ ls) rising =
    kept_step (test l) l (filter test ls) (all-filter (λ (o : LoadedVcl). l.vcl.number < o.vcl.number) test ls rising.0) (rising-filter test ls rising.1)

discarding_number : (number : ℕ) (l : LoadedVcl) → (discarding number l).vcl.number ≡ l.vcl.number
discarding_number number l = by_own (l.vcl.number == number)
  where
    by_own : (b : Bool) → (cond b (record l { is_discarded = true }) l).vcl.number ≡ l.vcl.number
    by_own true = refl
    by_own false = refl

above-discard : (number : ℕ) (loaded : LoadedVcl) (vcls : List LoadedVcl) → Above loaded vcls → Above (discarding number loaded) (map (discarding number) vcls)
above-discard number loaded [] above = tt
above-discard number loaded (l ∷ ls) above = (omega (arith, above.0, discarding_number number l, discarding_number number loaded), above-discard number loaded ls above.1)

rising-discard : (number : ℕ) (vcls : List LoadedVcl) → AreRising vcls → AreRising (map (discarding number) vcls)
rising-discard number [] rising = tt
rising-discard number (l ∷ ls) rising = (above-discard number l ls rising.0, rising-discard number ls rising.1)

below-discard : (bound number : ℕ) (vcls : List LoadedVcl) → Below bound vcls → Below bound (map (discarding number) vcls)
below-discard bound number [] below = tt
below-discard bound number (l ∷ ls) below = (omega (arith, below.0, discarding_number number l), below-discard bound number ls below.1)

-- what holds of the VCLs in each state that a run reaches
pub record VclsRise (state : State) : Type 0 where
  pub rising : AreRising state.vcls
  pub below : Below state.next_vcl state.vcls

abbrev RiseBehind : Step → Type 0
RiseBehind step = VclsRise step.state

rise_on : (old new : State) → VclsRise old → new.vcls ≡ old.vcls → new.next_vcl ≡ old.next_vcl → VclsRise new
rise_on old new is vcls next =
    record {
      rising = rw (vcls) is.rising;
      below = rw (vcls, next) is.below;
    }

rise_behind : (room : ℕ) (state : State) (caller : ℕ) (call : Call) → VclsRise state → RiseBehind (answered room state caller call)
rise_behind room state caller Begin is = either RiseBehind (has_round state.rounds caller) _ _ is (rise_on state _ is refl refl)
rise_behind room state caller Draw is = either RiseBehind (has_round state.rounds caller) _ _ (rise_on state _ is refl refl) is
rise_behind room state caller (Lookup query) is =
    looked_leaf RiseBehind state caller query is (record {
      misses = λ objects stale. rise_on state _ is refl refl;
      hits = λ objects view. rise_on state _ is refl refl;
      hits_miss = λ objects view. rise_on state _ is refl refl;
      passes = λ objects view. rise_on state _ is refl refl;
      graces = λ objects view. rise_on state _ is refl refl;
      graces_alone = λ objects view. rise_on state _ is refl refl;
      waits = λ objects token. rise_on state _ is refl refl;
    })
rise_behind room state caller (Pick number target word) is = picked_leaf RiseBehind state number target word is (λ place. rise_on state _ is refl refl)
rise_behind room state caller (Insert token object stale) is =
    inserted_leaf RiseBehind room state caller token object stale (record {
      opens_not = is;
      gone = is;
      late = rise_on state _ is refl refl;
      full = rise_on state _ is refl refl;
      stores = rise_on state _ is refl refl;
    })
rise_behind room state caller (Ban ban) is = rise_on state _ is refl refl
rise_behind room state caller BanList is = is
rise_behind room state caller (Purge key) is = rise_on state _ is refl refl
rise_behind room state caller (Xkey keys soft) is = rise_on state _ is refl refl
rise_behind room state caller (SetHealth backend given) is = health_leaf RiseBehind state backend given (rise_on state _ is refl refl) is
rise_behind room state caller (Load source) is =
    let new : LoadedVcl = record { vcl = numbered state.next_vcl source; is_discarded = false } in
    loaded_leaf RiseBehind state source is (record {
      rising = rising_more new state.vcls is.rising is.below;
      below = below_more (state.next_vcl + 1) new state.vcls (all-weaken (λ (l : LoadedVcl). l.vcl.number < state.next_vcl) (λ (l : LoadedVcl). l.vcl.number < state.next_vcl + 1) (λ l less. omega (arith, less)) state.vcls is.below) (omega arith);
    })
rise_behind room state caller (Switch name) is = switched_leaf RiseBehind state name is (λ own. rise_on state _ is refl refl)
rise_behind room state caller (Discard name) is =
    discarded_leaf RiseBehind state name is is (λ number. record {
      rising = rising-filter (stays state.rounds) (map (discarding number) state.vcls) (rising-discard number state.vcls is.rising);
      below = all-filter (λ (l : LoadedVcl). l.vcl.number < state.next_vcl) (stays state.rounds) (map (discarding number) state.vcls) (below-discard state.next_vcl number state.vcls is.below);
    })
rise_behind room state caller VclList is = is
rise_behind room state caller (Drop token) is = either RiseBehind (has_fetch state.fetches caller token) _ _ (rise_on state _ is refl refl) is
rise_behind room state caller End is =
    either RiseBehind (has_round state.rounds caller) _ _ (record {
      rising = rising-filter (stays (without_round_of caller state.rounds)) state.vcls is.rising;
      below = all-filter (λ (l : LoadedVcl). l.vcl.number < state.next_vcl) (stays (without_round_of caller state.rounds)) state.vcls is.below;
    }) is

rise_refused : (state : State) (call : Call) → VclsRise state → VclsRise (refused state call)
rise_refused state (Insert token object stale) is = rise_on state _ is refl refl
rise_refused state call is = is

pub rise_from : (params : Params) (state : State) (entries : List Entry) → VclsRise state → VclsRise (reached_from params state entries)
rise_from params state [] is = is
rise_from params state (e ∷ es) is =
    let now : VclsRise (at_moment e.moment state) = rise_on state _ is refl refl in
    rise_from params (next_state params state e) es
    (rise_on _ _ (behind_either VclsRise e.reply _ _ (rise_refused (at_moment e.moment state) e.call now) (rise_behind params.room (at_moment e.moment state) e.caller e.call now)) refl refl)

above_one : (loaded other : LoadedVcl) (vcls : List LoadedVcl) → Above loaded vcls → IsOneOf other vcls → loaded.vcl.number < other.vcl.number
above_one loaded other [] above one = absurd one
above_one loaded other (l ∷ ls) above (inl same) = omega (arith, above.0, ap (λ (o : LoadedVcl). o.vcl.number) same)
above_one loaded other (l ∷ ls) above (inr one) = above_one loaded other ls above.1 one

-- no two VCLs have one number
pub same_vcl : (one other : LoadedVcl) (vcls : List LoadedVcl) → AreRising vcls → IsOneOf one vcls → IsOneOf other vcls → one.vcl.number ≡ other.vcl.number → one ≡ other
same_vcl one other [] rising first second e = absurd first
same_vcl one other (l ∷ ls) rising (inl here) (inl there) e = here ∙ sym there
same_vcl one other (l ∷ ls) rising (inl here) (inr there) e = absurd (omega (arith, above_one l other ls rising.0 there, ap (λ (o : LoadedVcl). o.vcl.number) here, e))
same_vcl one other (l ∷ ls) rising (inr here) (inl there) e = absurd (omega (arith, above_one l one ls rising.0 here, ap (λ (o : LoadedVcl). o.vcl.number) there, e))
same_vcl one other (l ∷ ls) rising (inr here) (inr there) e = same_vcl one other ls rising.1 here there e
