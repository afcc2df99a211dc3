-- A cache goes on alongside of a journal with one entry more.
use Rattle.std.proofs.Common.{◌≡◌, ℕ, Bool, true, false, ◌+◌, ◌<◌, ◌^◌, List, [], ◌∷◌, ◌++◌, length, refl, arith, sym, ap, ◌∙◌, subst, length-append}
use Rattle.std.proofs.lemmas.Bool.{true≢false}
use Rattle.cache_law.specs.declared.ban.Issued.{Issued}
use Rattle.cache_law.specs.declared.call.Call.{Call}
use Rattle.cache_law.specs.declared.call.Call.TheVariants.{Begin, Draw, Lookup, Pick, Insert, Ban, BanList, Purge, Xkey, SetHealth, Load, Switch, Discard, VclList, Drop, End}
use Rattle.cache_law.specs.declared.call.Entry.{Entry}
use Rattle.cache_law.specs.declared.call.Reply.{Reply}
use Rattle.cache_law.specs.declared.call.Reply.TheVariants.{Banned}
use Rattle.cache_law.specs.declared.setting.Params.{Params}
use Rattle.cache_law.specs.Bases.{AreAlike}
use Rattle.cache_law.specs.Beginning.{Beginning}
use Rattle.cache_law.specs.History.{Fits, Follows, bytes_of, next_state, reached}
use Rattle.cache_law.specs.Law.{MayAnswer, Step, after, answered, refused, step_of}
use Rattle.cache_law.specs.State.{State, at_moment, has_fetch, has_round}
use Rattle.cache_law.proofs.Growth.{behind_either}
use Rattle.cache_law.proofs.Histories.{reached-push}
use Rattle.cache_law.proofs.Leaves.{discarded_leaf, either, health_leaf, inserted_leaf, loaded_leaf, looked_leaf, picked_leaf, switched_leaf}
use Rattle.cache_law.proofs.Sound.{sound_next}
use Rattle.cache_frame.specs.Framed.{Plain}
use Rattle.cache_frame.specs.Shelves.{entry_of}
use Rattle.journal_text.specs.declared.line.Said.{Said}
use Rattle.journal_text.specs.Grammar.{said_of}
use Rattle.audit_laws.specs.Faults.{judged_entry}
use Rattle.audit_laws.proofs.Judging.{judged_fits}
use Rattle.history_audit.specs.Alongside.{HasJoined, IsAlongside, issued_of}

-- ---- the bans of a run

abbrev is_ban : Call → Bool
is_ban (Ban ban) = true
is_ban call = false

-- the bans are as before
abbrev Keeps : State → State → Type 0
Keeps old new = (new.issued ≡ old.issued) × (new.bans ≡ old.bans)

abbrev KeepsBehind : State → Step → Type 0
KeepsBehind old step = Keeps old step.state

keeps : (room : ℕ) (state : State) (caller : ℕ) (call : Call) → is_ban call ≡ false → KeepsBehind state (answered room state caller call)
keeps room state caller call other = by_call call other
  where
    same : Keeps state state
    same = (refl, refl)

    by_call : (call : Call) → is_ban call ≡ false → KeepsBehind state (answered room state caller call)
    by_call Begin other = either (KeepsBehind state) (has_round state.rounds caller) _ _ same same
    by_call Draw other = either (KeepsBehind state) (has_round state.rounds caller) _ _ same same
    by_call (Lookup query) other =
        looked_leaf (KeepsBehind state) state caller query same (record {
          misses = λ objects stale. same;
          hits = λ objects view. same;
          hits_miss = λ objects view. same;
          passes = λ objects view. same;
          graces = λ objects view. same;
          graces_alone = λ objects view. same;
          waits = λ objects token. same;
        })
    by_call (Pick vcl target word) other = picked_leaf (KeepsBehind state) state vcl target word same (λ place. same)
    by_call (Insert token object stale) other =
        inserted_leaf (KeepsBehind state) room state caller token object stale (record { opens_not = same; gone = same; late = same; full = same; stores = same })
    by_call (Ban ban) other = absurd (true≢false other)
    by_call BanList other = same
    by_call (Purge key) other = same
    by_call (Xkey keys soft) other = same
    by_call (SetHealth backend given) other = health_leaf (KeepsBehind state) state backend given same same
    by_call (Load source) other = loaded_leaf (KeepsBehind state) state source same same
    by_call (Switch name) other = switched_leaf (KeepsBehind state) state name same (λ vcl. same)
    by_call (Discard name) other = discarded_leaf (KeepsBehind state) state name same same (λ number. same)
    by_call VclList other = same
    by_call (Drop token) other = either (KeepsBehind state) (has_fetch state.fetches caller token) _ _ same same
    by_call End other = either (KeepsBehind state) (has_round state.rounds caller) _ _ same same

keeps_refused : (state : State) (call : Call) → Keeps state (refused state call)
keeps_refused state (Insert token object stale) = (refl, refl)
keeps_refused state call = (refl, refl)

keeps_next : (params : Params) (state : State) (caller moment : ℕ) (call : Call) (reply : Reply) → is_ban call ≡ false → Keeps state (after params state caller moment call reply)
keeps_next params state caller moment call reply other =
    behind_either (Keeps state) reply _ _ (keeps_refused (at_moment moment state) call) (keeps params.room (at_moment moment state) caller call other)

-- the bans of the run with one entry more
pub record IsNoted (state next : State) (call : Call) (moment : ℕ) : Type 0 where
  pub bans : next.bans ≡ issued_of call moment state.issued ++ state.bans
  pub issued : next.issued ≡ length (issued_of call moment state.issued) + state.issued

not_noted : (state next : State) (call : Call) (moment : ℕ) → issued_of call moment state.issued ≡ [] → Keeps state next → IsNoted state next call moment
not_noted state next call moment none kept =
    let same = kept.0 in
    let size = ap length none in
    record { bans = kept.1 ∙ ap (λ (b : List Issued). b ++ state.bans) (sym none); issued = omega (arith, same, size) }

ban_noted : (params : Params) (state : State) (caller moment : ℕ) (ban : Call) (reply : Reply) → reply ≡ Banned → IsNoted state (after params state caller moment ban Banned) ban moment → IsNoted state (after params state caller moment ban reply) ban moment
ban_noted params state caller moment ban reply is noted = subst (λ (r : Reply). IsNoted state (after params state caller moment ban r) ban moment) (sym is) noted

noted_next : (params : Params) (state : State) (caller moment : ℕ) (call : Call) (reply : Reply) → MayAnswer (at_moment moment state) call (step_of params state caller moment call).reply reply
    → IsNoted state (after params state caller moment call reply) call moment
noted_next params state caller moment (Ban ban) reply may = ban_noted params state caller moment (Ban ban) reply may (record { bans = refl; issued = omega arith })
noted_next params state caller moment call reply may = not_noted state (after params state caller moment call reply) call moment refl (keeps_next params state caller moment call reply refl)

-- ---- one entry more

module _ (old new : Plain) (spent : ℕ) (bans : List Issued) (params : Params) (state : State) (used : ℕ) (along : IsAlongside old spent bans params state used) where
  -- what the cache reached
  pub reached_new : (caller moment : ℕ) (call : Call) (reply : Reply) → HasJoined old new caller moment call reply → reached new.beginning new.entries ≡ next_state params (reached old.beginning old.entries) (entry_of caller moment call reply)
  reached_new caller moment call reply joins =
      ap (λ (b : Beginning). reached b new.entries) joins.same
      ∙ (ap (λ (es : List Entry). reached old.beginning es) joins.joined
      ∙ (reached-push old.beginning old.entries (entry_of caller moment call reply)
      ∙ ap (λ (p : Params). next_state p (reached old.beginning old.entries) (entry_of caller moment call reply)) along.limits))

  pub follows_here : (caller moment : ℕ) (call : Call) (reply : Reply) → HasJoined old new caller moment call reply → Follows params (reached old.beginning old.entries) (entry_of caller moment call reply)
  follows_here caller moment call reply joins = subst (λ (p : Params). Follows p (reached old.beginning old.entries) (entry_of caller moment call reply)) along.limits joins.follows

  -- the cache is alongside of one entry more
  pub along_next : (entry : Entry) (spends : ℕ) (noted : List Issued) → new.beginning ≡ old.beginning → AreAlike (reached new.beginning new.entries) (next_state params state entry)
      → MayAnswer (at_moment entry.moment state) entry.call (step_of params state entry.caller entry.moment entry.call).reply entry.reply
      → noted ≡ issued_of entry.call entry.moment (length bans) ++ bans → spends ≡ used + bytes_of entry.call → IsAlongside new spends noted params (next_state params state entry) (used + bytes_of entry.call)
  along_next entry spends noted same alike may notes spent_is =
      let next = noted_next params state entry.caller entry.moment entry.call entry.reply may in
      let count : length bans ≡ state.issued = ap length along.bans_are ∙ sym along.issued in
      let first : noted ≡ issued_of entry.call entry.moment state.issued ++ state.bans =
      notes ∙ (ap (λ (n : ℕ). issued_of entry.call entry.moment n ++ bans) count ∙ ap (λ (b : List Issued). issued_of entry.call entry.moment state.issued ++ b) along.bans_are) in
      let size = ap length next.bans in
      let parts = length-append (issued_of entry.call entry.moment state.issued) state.bans in
      let issued = next.issued in
      let before = along.issued in
      record {
        limits = ap (λ (b : Beginning). b.params) same ∙ along.limits;
        bound = along.bound;
        alike = alike;
        sound = sound_next params state entry along.sound;
        issued = omega (arith, size, parts, issued, before);
        bans_are = first ∙ sym next.bans;
        spent_is = spent_is;
      }

  pub fits_entry : (said : Said) (entry : Entry) → said_of entry ≡ said → Follows params state entry → Fits params state used (judged_entry params state said) → Fits params state used entry
  fits_entry said entry says follows fits =
      judged_fits params state used entry follows.answer (subst (λ (s : Said). Fits params state used (judged_entry params state s)) (sym says) fits)

-- what the entries take with one of this call, where it fits
pub spends_with : (params : Params) (state : State) (used spent : ℕ) (said : Said) (spends : ℕ) → params.history < 2 ^ 64 → spent ≡ used → Fits params state used (judged_entry params state said)
    → (spent + bytes_of said.call < 2 ^ 64 → spends ≡ spent + bytes_of said.call) → spends ≡ used + bytes_of said.call
spends_with params state used spent said spends bound same fits counted =
    let within = fits.within in
    let few : spent + bytes_of said.call < 2 ^ 64 = omega (arith, within, bound, same) in
    let here = counted few in
    omega (arith, here, same)
