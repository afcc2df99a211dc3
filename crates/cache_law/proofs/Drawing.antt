-- Each number is drawn once: those that are drawn rise.
use Rattle.std.proofs.Common.{◌≡◌, ℕ, false, List, ◌∷◌, ◌++◌, ◌<◌, ◌≤◌, Some, arith, sym, ap, ◌∙◌, subst, inl, inr}
use Rattle.cache_law.specs.declared.call.Call.{Call}
use Rattle.cache_law.specs.declared.call.Call.TheVariants.{Begin, Draw, Lookup, Pick, Insert, Ban, BanList, Purge, Xkey, SetHealth, Load, Switch, Discard, VclList, Drop, End}
use Rattle.cache_law.specs.declared.call.Reply.{Reply}
use Rattle.cache_law.specs.declared.call.Reply.TheVariants.{Bans}
use Rattle.cache_law.specs.declared.call.Entry.{Entry}
use Rattle.cache_law.specs.State.{State, at_moment, has_round, has_fetch}
use Rattle.cache_law.specs.declared.setting.Params.{Params}
use Rattle.cache_law.specs.Beginning.{Beginning}
use Rattle.cache_law.specs.Law.{Step, answered, after, step_of, MayAnswer, IsBanList}
use Rattle.cache_law.specs.History.{Follows, Legal, next_state, reached}
use Rattle.cache_law.proofs.Numbers.{reached-append, rises_from}
use Rattle.cache_law.proofs.Leaves.{either, looked_leaf, inserted_leaf, picked_leaf, health_leaf, loaded_leaf, switched_leaf, discarded_leaf}
use Rattle.cache_law.proofs.Lawful.{after-lawful, answers_lawfully, behind_lawful, is_refusal}
use Rattle.cache_law.proofs.Serving.{follows_from}
use Rattle.cache_law.proofs.Struck.{append_behind}
use Rattle.cache_law.specs.Drawing.{drawn_in}

-- a step leaves no lesser number, and one that its reply says was drawn is the number that was next
record DrawsNext (state : State) (step : Step) : Type 0 where
  pub rises : state.next ≤ step.state.next
  pub next : (number : ℕ) → drawn_in step.reply ≡ Some number → (number ≡ state.next) × (number < step.state.next)

draws_next : (room : ℕ) (state : State) (caller : ℕ) (call : Call) → DrawsNext state (answered room state caller call)
draws_next room state caller Begin = either (DrawsNext state) (has_round state.rounds caller) _ _ (record { rises = omega arith; next = λ n e. cc }) (record { rises = omega arith; next = λ n e. let same : n ≡ state.next = cc in (same, omega (arith, same)) })
draws_next room state caller Draw = either (DrawsNext state) (has_round state.rounds caller) _ _ (record { rises = omega arith; next = λ n e. let same : n ≡ state.next = cc in (same, omega (arith, same)) }) (record { rises = omega arith; next = λ n e. cc })
draws_next room state caller (Lookup query) =
    looked_leaf (DrawsNext state) state caller query (record { rises = omega arith; next = λ n e. cc }) (record {
      misses = λ objects stale. record { rises = omega arith; next = λ n e. let same : n ≡ state.next = cc in (same, omega (arith, same)) };
      hits = λ objects view. record { rises = omega arith; next = λ n e. cc };
      hits_miss = λ objects view. record { rises = omega arith; next = λ n e. let same : n ≡ state.next = cc in (same, omega (arith, same)) };
      passes = λ objects view. record { rises = omega arith; next = λ n e. cc };
      graces = λ objects view. record { rises = omega arith; next = λ n e. let same : n ≡ state.next = cc in (same, omega (arith, same)) };
      graces_alone = λ objects view. record { rises = omega arith; next = λ n e. cc };
      waits = λ objects token. record { rises = omega arith; next = λ n e. cc };
    })
draws_next room state caller (Pick vcl target word) = picked_leaf (DrawsNext state) state vcl target word (record { rises = omega arith; next = λ n e. cc }) (λ place. record { rises = omega arith; next = λ n e. cc })
draws_next room state caller (Insert token object stale) =
    inserted_leaf (DrawsNext state) room state caller token object stale (record {
      opens_not = record { rises = omega arith; next = λ n e. cc };
      gone = record { rises = omega arith; next = λ n e. cc };
      late = record { rises = omega arith; next = λ n e. cc };
      full = record { rises = omega arith; next = λ n e. cc };
      stores = record { rises = omega arith; next = λ n e. cc };
    })
draws_next room state caller (Ban ban) = record { rises = omega arith; next = λ n e. cc }
draws_next room state caller BanList = record { rises = omega arith; next = λ n e. cc }
draws_next room state caller (Purge key) = record { rises = omega arith; next = λ n e. cc }
draws_next room state caller (Xkey keys soft) = record { rises = omega arith; next = λ n e. cc }
draws_next room state caller (SetHealth backend given) = health_leaf (DrawsNext state) state backend given (record { rises = omega arith; next = λ n e. cc }) (record { rises = omega arith; next = λ n e. cc })
draws_next room state caller (Load source) = loaded_leaf (DrawsNext state) state source (record { rises = omega arith; next = λ n e. cc }) (record { rises = omega arith; next = λ n e. cc })
draws_next room state caller (Switch name) = switched_leaf (DrawsNext state) state name (record { rises = omega arith; next = λ n e. cc }) (λ vcl. record { rises = omega arith; next = λ n e. cc })
draws_next room state caller (Discard name) =
    discarded_leaf (DrawsNext state) state name (record { rises = omega arith; next = λ n e. cc }) (record { rises = omega arith; next = λ n e. cc }) (λ number. record { rises = omega arith; next = λ n e. cc })
draws_next room state caller VclList = record { rises = omega arith; next = λ n e. cc }
draws_next room state caller (Drop token) = either (DrawsNext state) (has_fetch state.fetches caller token) _ _ (record { rises = omega arith; next = λ n e. cc }) (record { rises = omega arith; next = λ n e. cc })
draws_next room state caller End = either (DrawsNext state) (has_round state.rounds caller) _ _ (record { rises = omega arith; next = λ n e. cc }) (record { rises = omega arith; next = λ n e. cc })

no_list : (state : State) (answer : Reply) (n : ℕ) → IsBanList state answer → drawn_in answer ≡ Some n → ⊥
no_list state (Bans lines) n shows e = cc
no_list state answer n shows e = shows

-- what is answered to be drawn is drawn by the law
drawn_by_law : (state : State) (call : Call) (law answer : Reply) (n : ℕ) → MayAnswer state call law answer → drawn_in answer ≡ Some n → drawn_in law ≡ Some n
drawn_by_law state (Insert token object stale) law answer n (inl same) e = sym (ap drawn_in same) ∙ e
drawn_by_law state (Insert token object stale) law answer n (inr free) e = let none_ = sym (ap drawn_in free.0) ∙ e in cc
drawn_by_law state BanList law answer n may e = absurd (no_list state answer n may e)
drawn_by_law state call law answer n may e = sym (ap drawn_in may) ∙ e

drawn_at : (params : Params) (state : State) (entry : Entry) (n : ℕ) → Follows params state entry → drawn_in entry.reply ≡ Some n → n ≡ state.next
drawn_at params state entry n follows told =
    let now : State = at_moment entry.moment state in
    let law = drawn_by_law now entry.call (step_of params state entry.caller entry.moment entry.call).reply entry.reply n follows.answer told in
    ((draws_next params.room now entry.caller entry.call).next n law).0

left_by_law : (params : Params) (state : State) (caller moment : ℕ) (call : Call) (answer : Reply) (n : ℕ) → MayAnswer (at_moment moment state) call (step_of params state caller moment call).reply answer → drawn_in answer ≡ Some n → n < (after params state caller moment call answer).next
left_by_law params state caller moment (Insert token object stale) answer n (inl same) told =
    subst (λ (r : Reply). n < (after params state caller moment (Insert token object stale) r).next) (sym same)
    (left_behind (answers_lawfully params.room (at_moment moment state) caller (Insert token object stale)) ((draws_next params.room (at_moment moment state) caller (Insert token object stale)).next n (sym (ap drawn_in same) ∙ told)).1)
  where
    left_behind : is_refusal (step_of params state caller moment (Insert token object stale)).reply ≡ false → n < (step_of params state caller moment (Insert token object stale)).state.next → n < (after params state caller moment (Insert token object stale) (step_of params state caller moment (Insert token object stale)).reply).next
    left_behind lawful less = subst (λ (s : State). n < s.next) (sym (behind_lawful _ _ _ lawful)) less
left_by_law params state caller moment (Insert token object stale) answer n (inr free) told = let none_ = sym (ap drawn_in free.0) ∙ told in cc
left_by_law params state caller moment BanList answer n may told = absurd (no_list (at_moment moment state) answer n may told)
left_by_law params state caller moment call answer n may told =
    let less = ((draws_next params.room (at_moment moment state) caller call).next n (sym (ap drawn_in may) ∙ told)).1 in
    subst (λ (s : State). n < s.next) (sym (after-lawful params state caller moment call answer may)) less

pub draws_rise : (beginning : Beginning) (before between behind : List Entry) (first second : Entry) (number other : ℕ)
    → Legal beginning (before ++ first ∷ (between ++ second ∷ behind)) → drawn_in first.reply ≡ Some number → drawn_in second.reply ≡ Some other → number < other
draws_rise beginning before between behind first second number other legal one two =
    let params : Params = beginning.params in
    let state : State = reached beginning before in
    let follows = follows_from params beginning.base before (between ++ second ∷ behind) first legal.follow in
    let here = left_by_law params state first.caller first.moment first.call first.reply number follows.answer one in
    let later = subst (Legal beginning) (sym (append_behind before between first (second ∷ behind))) legal in
    let there = drawn_at params (reached beginning (before ++ first ∷ between)) second other (follows_from params beginning.base (before ++ first ∷ between) behind second later.follow) two in
    let rises = rises_from params (next_state params state first) between in
    omega (arith, here, there, rises, ap (λ (s : State). s.next) (reached-append beginning before (first ∷ between)))
