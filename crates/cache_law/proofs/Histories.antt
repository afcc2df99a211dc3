-- What one more entry does to a history.
use Rattle.std.proofs.Common.{◌≡◌, ℕ, List, [], ◌∷◌, ◌++◌, ◌+◌, ◌*◌, ◌≤◌, length, refl, arith, subst}
use Rattle.std.proofs.lemmas.List.Sums.{sum_by_push, sum_by-cons}
use Rattle.cache_law.specs.declared.setting.Params.{Params}
use Rattle.cache_law.specs.declared.setting.Boot.{Boot}
use Rattle.cache_law.specs.declared.call.Entry.{Entry}
use Rattle.cache_law.specs.State.{State}
use Rattle.cache_law.specs.Beginning.{Beginning, beginning_of}
use Rattle.cache_law.specs.History.{bytes_of, bytes_of_all, Fits, FollowAll, Follows, Legal, WithinAll, next_state, reached_from, reached}

pub reached_from-push : (params : Params) (state : State) (entries : List Entry) (entry : Entry) → reached_from params state (entries ++ entry ∷ []) ≡ next_state params (reached_from params state entries) entry
reached_from-push params state [] entry = refl
reached_from-push params state (e ∷ es) entry = reached_from-push params (next_state params state e) es entry

pub reached-push : (beginning : Beginning) (entries : List Entry) (entry : Entry) → reached beginning (entries ++ entry ∷ []) ≡ next_state beginning.params (reached beginning entries) entry
reached-push beginning entries entry = reached_from-push beginning.params beginning.base entries entry

pub bytes_of_all-push : (entries : List Entry) (entry : Entry) → bytes_of_all (entries ++ entry ∷ []) ≡ bytes_of_all entries + bytes_of entry.call
bytes_of_all-push entries entry = sum_by_push (λ (e : Entry). bytes_of e.call) entries entry

pub bytes_of_all-cons : (entry : Entry) (entries : List Entry) → bytes_of_all (entry ∷ entries) ≡ bytes_of entry.call + bytes_of_all entries
bytes_of_all-cons entry entries = sum_by-cons (λ (e : Entry). bytes_of e.call) entry entries

-- each entry takes 64 bytes at least
pub bytes_of_all-least : (entries : List Entry) → 64 * length entries ≤ bytes_of_all entries
bytes_of_all-least [] = omega arith
bytes_of_all-least (e ∷ es) = omega (arith, bytes_of_all-least es, bytes_of_all-cons e es)

pub FollowAll-push : (params : Params) (state : State) (entries : List Entry) (entry : Entry) → FollowAll params state entries → Follows params (reached_from params state entries) entry → FollowAll params state (entries ++ entry ∷ [])
FollowAll-push params state [] entry follow follows = (follows, tt)
FollowAll-push params state (e ∷ es) entry follow follows = (follow.0, FollowAll-push params (next_state params state e) es entry follow.1 follows)

pub WithinAll-push : (params : Params) (state : State) (used : ℕ) (entries : List Entry) (entry : Entry) → WithinAll params state used entries → Fits params (reached_from params state entries) (used + bytes_of_all entries) entry → WithinAll params state used (entries ++ entry ∷ [])
WithinAll-push params state used [] entry within fits =
    let e : used + bytes_of_all [] ≡ used = omega arith in
    (subst (λ (n : ℕ). Fits params state n entry) e fits, tt)
WithinAll-push params state used (e ∷ es) entry within fits =
    let same : used + bytes_of_all (e ∷ es) ≡ used + bytes_of e.call + bytes_of_all es = omega (arith, bytes_of_all-cons e es) in
    (within.0, WithinAll-push params (next_state params state e) (used + bytes_of e.call) es entry within.1 (subst (λ (n : ℕ). Fits params (reached_from params state (e ∷ es)) n entry) same fits))

pub Legal-push : (beginning : Beginning) (entries : List Entry) (entry : Entry) → Legal beginning entries → Follows beginning.params (reached beginning entries) entry → Fits beginning.params (reached beginning entries) (bytes_of_all entries) entry → Legal beginning (entries ++ entry ∷ [])
Legal-push beginning entries entry legal follows fits =
    let e : bytes_of_all entries ≡ 0 + bytes_of_all entries = omega arith in
    record {
      opens = legal.opens;
      counts = legal.counts;
      follow = FollowAll-push beginning.params beginning.base entries entry legal.follow follows;
      within = WithinAll-push beginning.params beginning.base 0 entries entry legal.within (subst (λ (n : ℕ). Fits beginning.params (reached beginning entries) n entry) e fits);
    }

-- the empty history of a run is legal
pub Legal-beginning_of : (params : Params) (boot : Boot) → Legal (beginning_of params boot) []
Legal-beginning_of params boot = record { opens = omega arith; counts = omega arith; follow = tt; within = tt }
