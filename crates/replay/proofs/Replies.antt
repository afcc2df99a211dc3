-- A reply that the law allows is one of the call's, and an entry's moment is the state's behind it.
use Rattle.std.proofs.Common.{◌≡◌, inl, inr, ℕ, true, refl, ◌∙◌, ap}
use Rattle.cache_law.specs.declared.call.Call.{Call}
use Rattle.cache_law.specs.declared.call.Call.TheVariants.{Begin, Draw, Lookup, Pick, Insert, Ban, BanList, Purge, Xkey, SetHealth, Load, Switch, Discard, VclList, Drop, End}
use Rattle.cache_law.specs.declared.call.Reply.{Reply}
use Rattle.cache_law.specs.declared.call.Reply.TheVariants.{Bans}
use Rattle.cache_law.specs.declared.call.Entry.{Entry}
use Rattle.cache_law.specs.State.{State, has_round, has_fetch}
use Rattle.cache_law.specs.Law.{Step, answered, MayAnswer, IsBanList}
use Rattle.cache_law.specs.Beginning.{Beginning}
use Rattle.cache_law.specs.History.{next_state}
use Rattle.cache_law.proofs.Growth.{after_grows}
use Rattle.cache_law.proofs.Leaves.{either, looked_leaf, inserted_leaf, picked_leaf, health_leaf, loaded_leaf, switched_leaf, discarded_leaf}
use Rattle.replay.specs.Policy.{is_reply_to}

-- the step's reply is one of the call's
abbrev Replies : Call → Step → Type 0
Replies call step = is_reply_to call step.reply ≡ true

law_replies : (room : ℕ) (state : State) (caller : ℕ) (call : Call) → is_reply_to call (answered room state caller call).reply ≡ true
law_replies room state caller Begin = either (Replies Begin) (has_round state.rounds caller) _ _ refl refl
law_replies room state caller Draw = either (Replies Draw) (has_round state.rounds caller) _ _ refl refl
law_replies room state caller (Lookup query) =
    looked_leaf (Replies (Lookup query)) state caller query refl (record {
      misses = λ objects stale. refl;
      hits = λ objects view. refl;
      hits_miss = λ objects view. refl;
      passes = λ objects view. refl;
      graces = λ objects view. refl;
      graces_alone = λ objects view. refl;
      waits = λ objects token. refl;
    })
law_replies room state caller (Pick vcl target word) = picked_leaf (Replies (Pick vcl target word)) state vcl target word refl (λ place. refl)
law_replies room state caller (Ban ban) = refl
law_replies room state caller BanList = refl
law_replies room state caller (Purge key) = refl
law_replies room state caller (Xkey keys soft) = refl
law_replies room state caller (SetHealth backend given) = health_leaf (Replies (SetHealth backend given)) state backend given refl refl
law_replies room state caller (Load source) = loaded_leaf (Replies (Load source)) state source refl refl
law_replies room state caller (Switch name) = switched_leaf (Replies (Switch name)) state name refl (λ vcl. refl)
law_replies room state caller (Discard name) = discarded_leaf (Replies (Discard name)) state name refl refl (λ number. refl)
law_replies room state caller VclList = refl
law_replies room state caller (Insert token object stale) =
    inserted_leaf (Replies (Insert token object stale)) room state caller token object stale (record { opens_not = refl; gone = refl; late = refl; full = refl; stores = refl })
law_replies room state caller (Drop token) = either (Replies (Drop token)) (has_fetch state.fetches caller token) _ _ refl refl
law_replies room state caller End = either (Replies End) (has_round state.rounds caller) _ _ refl refl

same_reply : (call : Call) (law answer : Reply) → answer ≡ law → is_reply_to call law ≡ true → is_reply_to call answer ≡ true
same_reply call law answer e p = ap (λ (r : Reply). is_reply_to call r) e ∙ p

-- a list of bans is a reply to the call that asks for it
listed_reply : (state : State) (answer : Reply) → IsBanList state answer → is_reply_to BanList answer ≡ true
listed_reply state (Bans lines) shows = refl
listed_reply state answer shows = absurd shows

pub may_reply : (state : State) (call : Call) (law answer : Reply) → MayAnswer state call law answer → is_reply_to call law ≡ true → is_reply_to call answer ≡ true
may_reply state (Insert token object stale) law answer (inl e) p = same_reply (Insert token object stale) law answer e p
may_reply state (Insert token object stale) law answer (inr refused) p = ap (λ (r : Reply). is_reply_to (Insert token object stale) r) refused.0
may_reply state BanList law answer may p = listed_reply state answer may
may_reply state call law answer may p = same_reply call law answer may p

pub lawful_reply : (room : ℕ) (state : State) (caller : ℕ) (call : Call) (answer : Reply) → MayAnswer state call (answered room state caller call).reply answer → is_reply_to call answer ≡ true
lawful_reply room state caller call answer may = may_reply state call _ answer may (law_replies room state caller call)

-- behind an entry the state's moment is the entry's
pub entered_moment : (beginning : Beginning) (state : State) (entry : Entry) → (next_state beginning.params state entry).moment ≡ entry.moment
entered_moment beginning state entry = (after_grows beginning.params state entry.caller entry.moment entry.call entry.reply).moment
