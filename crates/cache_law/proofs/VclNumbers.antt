-- The numbers of VCLs rise.
use Rattle.std.proofs.Common.{◌≡◌, ℕ, List, [], ◌∷◌, ◌++◌, ◌<◌, ◌≤◌, arith, sym, ap, ◌∙◌, subst, inl, inr}
use Rattle.cache_law.specs.declared.call.Call.{Call}
use Rattle.cache_law.specs.declared.call.Call.TheVariants.{Begin, Draw, Lookup, Pick, Insert, Ban, BanList, Purge, Xkey, SetHealth, Load, Switch, Discard, VclList, Drop, End}
use Rattle.cache_law.specs.declared.call.Reply.{Reply}
use Rattle.cache_law.specs.declared.call.Reply.TheVariants.{Loaded, Bans}
use Rattle.cache_law.specs.declared.call.Entry.{Entry}
use Rattle.cache_law.specs.State.{State, at_moment, has_round, has_fetch}
use Rattle.cache_law.specs.declared.setting.Params.{Params}
use Rattle.cache_law.specs.Beginning.{Beginning}
use Rattle.cache_law.specs.Law.{Step, answered, refused, after, step_of, MayAnswer, IsBanList}
use Rattle.cache_law.specs.History.{Follows, Legal, next_state, reached_from, reached}
use Rattle.cache_law.proofs.Growth.{behind_either}
use Rattle.cache_law.proofs.Numbers.{reached-append}
use Rattle.cache_law.proofs.Leaves.{either, looked_leaf, inserted_leaf, picked_leaf, health_leaf, loaded_leaf, switched_leaf, discarded_leaf}
use Rattle.cache_law.proofs.Serving.{follows_from}
use Rattle.cache_law.proofs.Struck.{append_behind}

-- a step leaves no lesser number, and a VCL that it loads has the number that was next
record LoadsNext (state : State) (step : Step) : Type 0 where
  pub rises : state.next_vcl ≤ step.state.next_vcl
  pub next : (number : ℕ) → step.reply ≡ Loaded number → (number ≡ state.next_vcl) × (number < step.state.next_vcl)

loads_next : (room : ℕ) (state : State) (caller : ℕ) (call : Call) → LoadsNext state (answered room state caller call)
loads_next room state caller Begin = either (LoadsNext state) (has_round state.rounds caller) _ _ (record { rises = omega arith; next = λ n e. cc }) (record { rises = omega arith; next = λ n e. cc })
loads_next room state caller Draw = either (LoadsNext state) (has_round state.rounds caller) _ _ (record { rises = omega arith; next = λ n e. cc }) (record { rises = omega arith; next = λ n e. cc })
loads_next room state caller (Lookup query) =
    looked_leaf (LoadsNext state) state caller query (record { rises = omega arith; next = λ n e. cc }) (record {
      misses = λ objects stale. record { rises = omega arith; next = λ n e. cc };
      hits = λ objects view. record { rises = omega arith; next = λ n e. cc };
      hits_miss = λ objects view. record { rises = omega arith; next = λ n e. cc };
      passes = λ objects view. record { rises = omega arith; next = λ n e. cc };
      graces = λ objects view. record { rises = omega arith; next = λ n e. cc };
      graces_alone = λ objects view. record { rises = omega arith; next = λ n e. cc };
      waits = λ objects token. record { rises = omega arith; next = λ n e. cc };
    })
loads_next room state caller (Pick vcl target word) = picked_leaf (LoadsNext state) state vcl target word (record { rises = omega arith; next = λ n e. cc }) (λ place. record { rises = omega arith; next = λ n e. cc })
loads_next room state caller (Insert token object stale) =
    inserted_leaf (LoadsNext state) room state caller token object stale (record {
      opens_not = record { rises = omega arith; next = λ n e. cc };
      gone = record { rises = omega arith; next = λ n e. cc };
      late = record { rises = omega arith; next = λ n e. cc };
      full = record { rises = omega arith; next = λ n e. cc };
      stores = record { rises = omega arith; next = λ n e. cc };
    })
loads_next room state caller (Ban ban) = record { rises = omega arith; next = λ n e. cc }
loads_next room state caller BanList = record { rises = omega arith; next = λ n e. cc }
loads_next room state caller (Purge key) = record { rises = omega arith; next = λ n e. cc }
loads_next room state caller (Xkey keys soft) = record { rises = omega arith; next = λ n e. cc }
loads_next room state caller (SetHealth backend given) = health_leaf (LoadsNext state) state backend given (record { rises = omega arith; next = λ n e. cc }) (record { rises = omega arith; next = λ n e. cc })
loads_next room state caller (Load source) =
    loaded_leaf (LoadsNext state) state source (record { rises = omega arith; next = λ n e. cc })
    (record {
      rises = omega arith;
      next = λ n e. let same : n ≡ state.next_vcl = cc in (same, omega (arith, same));
    })
loads_next room state caller (Switch name) = switched_leaf (LoadsNext state) state name (record { rises = omega arith; next = λ n e. cc }) (λ vcl. record { rises = omega arith; next = λ n e. cc })
loads_next room state caller (Discard name) =
    discarded_leaf (LoadsNext state) state name (record { rises = omega arith; next = λ n e. cc }) (record { rises = omega arith; next = λ n e. cc }) (λ number. record { rises = omega arith; next = λ n e. cc })
loads_next room state caller VclList = record { rises = omega arith; next = λ n e. cc }
loads_next room state caller (Drop token) = either (LoadsNext state) (has_fetch state.fetches caller token) _ _ (record { rises = omega arith; next = λ n e. cc }) (record { rises = omega arith; next = λ n e. cc })
loads_next room state caller End = either (LoadsNext state) (has_round state.rounds caller) _ _ (record { rises = omega arith; next = λ n e. cc }) (record { rises = omega arith; next = λ n e. cc })

refused_vcl : (state : State) (call : Call) → state.next_vcl ≤ (refused state call).next_vcl
refused_vcl state (Insert token object stale) = omega arith
refused_vcl state call = omega arith

vcl_rises : (params : Params) (state : State) (entry : Entry) → state.next_vcl ≤ (next_state params state entry).next_vcl
vcl_rises params state entry =
    behind_either (λ (s : State). state.next_vcl ≤ s.next_vcl) entry.reply _ _ (refused_vcl (at_moment entry.moment state) entry.call) (loads_next params.room (at_moment entry.moment state) entry.caller entry.call).rises

vcl_rises_from : (params : Params) (state : State) (entries : List Entry) → state.next_vcl ≤ (reached_from params state entries).next_vcl
vcl_rises_from params state [] = omega arith
vcl_rises_from params state (e ∷ es) = omega (arith, vcl_rises params state e, vcl_rises_from params (next_state params state e) es)

no_list : (state : State) (answer : Reply) (n : ℕ) → IsBanList state answer → answer ≡ Loaded n → ⊥
no_list state (Bans lines) n shows e = cc
no_list state answer n shows e = shows

-- what is answered to be loaded is loaded by the law
loaded_by_law : (state : State) (call : Call) (law answer : Reply) (n : ℕ) → MayAnswer state call law answer → answer ≡ Loaded n → law ≡ Loaded n
loaded_by_law state (Insert token object stale) law answer n (inl same) e = sym same ∙ e
loaded_by_law state (Insert token object stale) law answer n (inr free) e = cc
loaded_by_law state BanList law answer n may e = absurd (no_list state answer n may e)
loaded_by_law state call law answer n may e = sym may ∙ e

loaded_at : (params : Params) (state : State) (entry : Entry) (n : ℕ) → Follows params state entry → entry.reply ≡ Loaded n → (n ≡ state.next_vcl) × (n < (next_state params state entry).next_vcl)
loaded_at params state entry n follows told =
    let now : State = at_moment entry.moment state in
    let law = loaded_by_law now entry.call (step_of params state entry.caller entry.moment entry.call).reply entry.reply n follows.answer told in
    let both = (loads_next params.room now entry.caller entry.call).next n law in
    (both.0, subst (λ (r : Reply). n < (after params state entry.caller entry.moment entry.call r).next_vcl) (sym told) both.1)

pub loads_rise : (beginning : Beginning) (before between behind : List Entry) (first second : Entry) (number other : ℕ)
    → Legal beginning (before ++ first ∷ (between ++ second ∷ behind)) → first.reply ≡ Loaded number → second.reply ≡ Loaded other → number < other
loads_rise beginning before between behind first second number other legal one two =
    let state : State = reached beginning before in
    let here = loaded_at beginning.params state first number (follows_from beginning.params beginning.base before (between ++ second ∷ behind) first legal.follow) one in
    let later = subst (Legal beginning) (sym (append_behind before between first (second ∷ behind))) legal in
    let there = loaded_at beginning.params (reached beginning (before ++ first ∷ between)) second other (follows_from beginning.params beginning.base (before ++ first ∷ between) behind second later.follow) two in
    let rises = vcl_rises_from beginning.params (next_state beginning.params state first) between in
    omega (arith, here.1, there.0, rises, ap (λ (s : State). s.next_vcl) (reached-append beginning before (first ∷ between)))
