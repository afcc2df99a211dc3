-- Behind an entry the bans are those before it, or one more with the next number.
use Rattle.std.proofs.Common.{◌≡◌, ℕ, ◌+◌, ◌⊎◌, List, ◌∷◌, refl, inl, inr}
use Rattle.cache_law.specs.declared.setting.Params.{Params}
use Rattle.cache_law.specs.declared.ban.Issued.{Issued}
use Rattle.cache_law.specs.declared.call.Call.{Call}
use Rattle.cache_law.specs.declared.call.Call.TheVariants.{Begin, Draw, Lookup, Pick, Insert, Ban, BanList, Purge, Xkey, SetHealth, Load, Switch, Discard, VclList, Drop, End}
use Rattle.cache_law.specs.declared.call.Entry.{Entry}
use Rattle.cache_law.specs.State.{State, at_moment, has_round, has_fetch}
use Rattle.cache_law.specs.BansAtOnce.{issued_behind}
use Rattle.cache_law.specs.Law.{Step, answered, refused}
use Rattle.cache_law.specs.History.{next_state}
use Rattle.cache_law.proofs.Growth.{behind_either}
use Rattle.cache_law.proofs.Leaves.{either, looked_leaf, inserted_leaf, picked_leaf, health_leaf, loaded_leaf, switched_leaf, discarded_leaf}

pub record HasSameBans (old new : State) : Type 0 where
  pub bans : new.bans ≡ old.bans
  pub issued : new.issued ≡ old.issued

pub record HasOneMoreBan (old new : State) : Type 0 where
  pub ban : Issued
  pub numbered : ban.number ≡ old.issued + 1
  pub bans : new.bans ≡ ban ∷ old.bans
  pub issued : new.issued ≡ old.issued + 1

abbrev pub BansGrow : State → State → Type 0
BansGrow old new = HasSameBans old new ⊎ HasOneMoreBan old new

abbrev BansGrowBehind : State → Step → Type 0
BansGrowBehind old step = BansGrow old step.state

answered_grow : (room : ℕ) (state : State) (caller : ℕ) (call : Call) → BansGrowBehind state (answered room state caller call)
answered_grow room state caller call = by_call call
  where
    same : BansGrow state state
    same = inl (record { bans = refl; issued = refl })

    by_call : (call : Call) → BansGrowBehind state (answered room state caller call)
    by_call Begin = either (BansGrowBehind state) (has_round state.rounds caller) _ _ same (inl (record { bans = refl; issued = refl }))
    by_call Draw = either (BansGrowBehind state) (has_round state.rounds caller) _ _ (inl (record { bans = refl; issued = refl })) same
    by_call (Lookup query) =
        looked_leaf (BansGrowBehind state) state caller query same (record {
          misses = λ objects stale. inl (record { bans = refl; issued = refl });
          hits = λ objects view. inl (record { bans = refl; issued = refl });
          hits_miss = λ objects view. inl (record { bans = refl; issued = refl });
          passes = λ objects view. inl (record { bans = refl; issued = refl });
          graces = λ objects view. inl (record { bans = refl; issued = refl });
          graces_alone = λ objects view. inl (record { bans = refl; issued = refl });
          waits = λ objects token. inl (record { bans = refl; issued = refl });
        })
    by_call (Pick vcl target word) = picked_leaf (BansGrowBehind state) state vcl target word same (λ place. inl (record { bans = refl; issued = refl }))
    by_call (Insert token object stale) =
        inserted_leaf (BansGrowBehind state) room state caller token object stale (record {
          opens_not = same;
          gone = same;
          late = inl (record { bans = refl; issued = refl });
          full = inl (record { bans = refl; issued = refl });
          stores = inl (record { bans = refl; issued = refl });
        })
    by_call (Ban ban) = inr (record { ban = issued_behind state.issued state.moment ban; numbered = refl; bans = refl; issued = refl })
    by_call BanList = same
    by_call (Purge key) = inl (record { bans = refl; issued = refl })
    by_call (Xkey keys soft) = inl (record { bans = refl; issued = refl })
    by_call (SetHealth backend given) = health_leaf (BansGrowBehind state) state backend given (inl (record { bans = refl; issued = refl })) same
    by_call (Load source) = loaded_leaf (BansGrowBehind state) state source same (inl (record { bans = refl; issued = refl }))
    by_call (Switch name) = switched_leaf (BansGrowBehind state) state name same (λ vcl. inl (record { bans = refl; issued = refl }))
    by_call (Discard name) = discarded_leaf (BansGrowBehind state) state name same same (λ number. inl (record { bans = refl; issued = refl }))
    by_call VclList = same
    by_call (Drop token) = either (BansGrowBehind state) (has_fetch state.fetches caller token) _ _ (inl (record { bans = refl; issued = refl })) same
    by_call End = either (BansGrowBehind state) (has_round state.rounds caller) _ _ (inl (record { bans = refl; issued = refl })) same

refused_grow : (state : State) (call : Call) → BansGrow state (refused state call)
refused_grow state (Insert token object stale) = inl (record { bans = refl; issued = refl })
refused_grow state call = inl (record { bans = refl; issued = refl })

once_more : (state : State) (moment : ℕ) (new : State) → BansGrow (at_moment moment state) new → BansGrow state new
once_more state moment new (inl same) = inl (record { bans = same.bans; issued = same.issued })
once_more state moment new (inr more) = inr (record { ban = more.ban; numbered = more.numbered; bans = more.bans; issued = more.issued })

counted_grow : (old new : State) (entries : ℕ) → BansGrow old new → BansGrow old (record new { entries = entries })
counted_grow old new entries (inl same) = inl (record { bans = same.bans; issued = same.issued })
counted_grow old new entries (inr more) = inr (record { ban = more.ban; numbered = more.numbered; bans = more.bans; issued = more.issued })

pub next_grow : (params : Params) (state : State) (entry : Entry) → BansGrow state (next_state params state entry)
next_grow params state entry =
    counted_grow state _ (state.entries + 1) (once_more state entry.moment _
    (behind_either (BansGrow (at_moment entry.moment state)) entry.reply _ _ (refused_grow (at_moment entry.moment state) entry.call) (answered_grow params.room (at_moment entry.moment state) entry.caller entry.call)))
