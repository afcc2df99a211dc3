-- What is open behind entries.
use Rattle.std.proofs.Common.{◌≡◌, ℕ, Bool, true, false, List, [], ◌∷◌, ◌||◌, ◌==◌, refl, sym, ap, ◌∙◌, subst}
use Rattle.std.specs.List.{AllByRecursion, list_any}
use Rattle.std.proofs.lemmas.Bool.{eqb-false, eqb-true, true≢false}
use Rattle.cache_law.specs.declared.setting.Params.{Params}
use Rattle.cache_law.specs.declared.call.Entry.{Entry}
use Rattle.cache_law.specs.declared.state.OpenFetch.{OpenFetch}
use Rattle.cache_law.specs.declared.state.OpenRound.{OpenRound}
use Rattle.cache_law.specs.State.{State, has_round}
use Rattle.cache_law.specs.History.{next_state, reached_from}
use Rattle.cache_law.specs.Bases.{IsClosed}
use Rattle.idle_laws.specs.Idle.{AllIdle, HaveRounds}
use Rattle.idle_laws.proofs.Keeping.{call_keeps}
use Rattle.idle_laws.proofs.Lists.{own_round}

pub have_rounds : (params : Params) (state : State) (entries : List Entry) → HaveRounds state → HaveRounds (reached_from params state entries)
have_rounds params state [] have = have
have_rounds params state (entry ∷ entries) have =
    have_rounds params (next_state params state entry) entries ((call_keeps params state entry.caller entry.moment entry.call entry.reply).rounds have)

-- who makes no call opens no round
none_opened : (params : Params) (state : State) (entries : List Entry) (caller : ℕ) → list_any (λ (entry : Entry). entry.caller == caller) entries ≡ false → has_round state.rounds caller ≡ false
    → has_round (reached_from params state entries).rounds caller ≡ false
none_opened params state [] caller others none = none
none_opened params state (entry ∷ entries) caller others none =
    let parts = both_false (entry.caller == caller) _ others in
    none_opened params (next_state params state entry) entries caller parts.1
    ((call_keeps params state entry.caller entry.moment entry.call entry.reply).others caller (λ same. eqb-false entry.caller caller parts.0 (sym same)) none)
  where
    both_false : (a b : Bool) → (a || b) ≡ false → (a ≡ false) × (b ≡ false)
    both_false true b e = absurd (true≢false e)
    both_false false b e = (refl, e)

-- one of the entries is the caller's, and so it has no open round
is_idle : (rounds : List OpenRound) (entries : List Entry) (caller : ℕ) → AllByRecursion (λ (entry : Entry). has_round rounds entry.caller ≡ false) entries
    → list_any (λ (entry : Entry). entry.caller == caller) entries ≡ true → has_round rounds caller ≡ false
is_idle rounds [] caller idle e = absurd (true≢false (sym e))
is_idle rounds (entry ∷ entries) caller idle e = by_own (entry.caller == caller) refl e (is_idle rounds entries caller idle.1)
  where
    by_own : (own : Bool) → (entry.caller == caller) ≡ own → (own || list_any (λ (other : Entry). other.caller == caller) entries) ≡ true
        → (list_any (λ (other : Entry). other.caller == caller) entries ≡ true → has_round rounds caller ≡ false) → has_round rounds caller ≡ false
    by_own true is e rest = subst (λ (who : ℕ). has_round rounds who ≡ false) (eqb-true entry.caller caller is) idle.0
    by_own false is e rest = rest e

no_round : (params : Params) (state : State) (entries : List Entry) (caller : ℕ) → state.rounds ≡ [] → AllIdle (reached_from params state entries) entries
    → has_round (reached_from params state entries).rounds caller ≡ false
no_round params state entries caller none idle = by_made (list_any (λ (entry : Entry). entry.caller == caller) entries) refl
  where
    by_made : (made : Bool) → list_any (λ (entry : Entry). entry.caller == caller) entries ≡ made → has_round (reached_from params state entries).rounds caller ≡ false
    by_made true is = is_idle (reached_from params state entries).rounds entries caller idle is
    by_made false is = none_opened params state entries caller is (ap (λ (rounds : List OpenRound). has_round rounds caller) none)

no_rounds : (rounds : List OpenRound) → ((caller : ℕ) → has_round rounds caller ≡ false) → rounds ≡ []
no_rounds [] none = refl
no_rounds (round ∷ rounds) none = absurd (true≢false (sym (own_round round.caller (has_round rounds round.caller)) ∙ none round.caller))

no_fetches : (rounds : List OpenRound) (fetches : List OpenFetch) → ((caller : ℕ) → has_round rounds caller ≡ false) → AllByRecursion (λ (f : OpenFetch). has_round rounds f.caller ≡ true) fetches → fetches ≡ []
no_fetches rounds [] none have = refl
no_fetches rounds (fetch ∷ fetches) none have = absurd (true≢false (sym have.0 ∙ none fetch.caller))

pub all_closed : (params : Params) (state : State) (entries : List Entry) → IsClosed state → AllIdle (reached_from params state entries) entries → IsClosed (reached_from params state entries)
all_closed params state entries closed idle =
    let behind_ = reached_from params state entries in
    let none : (caller : ℕ) → has_round behind_.rounds caller ≡ false = λ caller. no_round params state entries caller closed.rounds idle in
    let have : HaveRounds state = subst (λ (fetches : List OpenFetch). AllByRecursion (λ (f : OpenFetch). has_round state.rounds f.caller ≡ true) fetches) (sym closed.fetches) tt in
    record { rounds = no_rounds behind_.rounds none; fetches = no_fetches behind_.rounds behind_.fetches none (have_rounds params state entries have) }
