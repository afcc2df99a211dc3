-- How many entries a run has made.
use Rattle.std.proofs.Common.{◌≡◌, ◌≤◌, ◌<◌, ◌^◌, ℕ, ◌+◌, List, [], ◌∷◌, length, refl, ap, ◌∙◌, arith}
use Rattle.cache_law.specs.declared.call.Entry.{Entry}
use Rattle.cache_law.specs.declared.setting.Params.{Params}
use Rattle.cache_law.specs.State.{State}
use Rattle.cache_law.specs.Beginning.{Beginning}
use Rattle.cache_law.specs.History.{Legal, WithinAll, most_entries, next_state, reached, reached_from}
use Rattle.cache_law.specs.Bases.{AreAlike}

-- each entry raises the count of entries by one
pub entries_reached : (params : Params) (state : State) (entries : List Entry) → (reached_from params state entries).entries ≡ state.entries + length entries
entries_reached params state [] = omega arith
entries_reached params state (entry ∷ entries) =
    let one : (next_state params state entry).entries ≡ state.entries + 1 = refl in
    let rest = entries_reached params (next_state params state entry) entries in
    omega (arith, one, rest)

within_counts : (params : Params) (state : State) (used : ℕ) (entries : List Entry) → WithinAll params state used entries → state.entries ≤ most_entries
    → (reached_from params state entries).entries ≤ most_entries
within_counts params state used [] within few = few
within_counts params state used (entry ∷ entries) within few =
    let one : (next_state params state entry).entries ≡ state.entries + 1 = refl in
    let counted = within.0.counted in
    within_counts params (next_state params state entry) _ entries within.1 (omega (arith, one, counted))

-- a legal history reaches a state whose count has 64 bits
pub few_entries : (beginning : Beginning) (entries : List Entry) → Legal beginning entries → beginning.base.entries + length entries < 2 ^ 64
few_entries beginning entries legal =
    let counts = legal.counts in
    let few = within_counts beginning.params beginning.base 0 entries legal.within (omega (arith, counts)) in
    let is = entries_reached beginning.params beginning.base entries in
    omega (arith, few, is)

-- states that are alike have the same count
pub entries_of_alike : (beginning : Beginning) (entries : List Entry) (next : State) → AreAlike next (reached beginning entries) → next.entries ≡ beginning.base.entries + length entries
entries_of_alike beginning entries next alike = ap (λ (state : State). state.entries) alike.rest ∙ entries_reached beginning.params beginning.base entries
