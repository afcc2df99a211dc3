-- Places among all entries of a run.
use Rattle.std.proofs.Common.{◌≡◌, ℕ, suc, ◌+◌, ◌==◌, Bool, true, false, List, [], ◌∷◌, ◌++◌, length, map, if◌then◌else◌, Option, Some, refl, sym, ap, ◌∙◌, arith}
use Rattle.std.proofs.lemmas.List.{map-append}
use Rattle.cache_law.specs.declared.call.Entry.{Entry}
use Rattle.cache_law.specs.declared.setting.Params.{Params}
use Rattle.cache_law.specs.State.{State}
use Rattle.cache_law.specs.Beginning.{Beginning}
use Rattle.std.specs.Option.{option_map_or}
use Rattle.cache_law.specs.History.{next_state, reached_from}
use Rattle.turnstile.specs.Knowledge.{mine, places_from}
use Rattle.shared_cache.specs.Sharing.{CallerKnows, caller_of, made_before, numbers}

-- each entry raises the count of entries by one
pub entries_reached : (params : Params) (state : State) (entries : List Entry) → (reached_from params state entries).entries ≡ state.entries + length entries
entries_reached params state [] = omega arith
entries_reached params state (entry ∷ entries) =
    let one : (next_state params state entry).entries ≡ state.entries + 1 = refl in
    let rest = entries_reached params (next_state params state entry) entries in
    omega (arith, one, rest)

moved : (b : Bool) (from at : ℕ) (further places : List ℕ) → further ≡ map (λ place. from + place) places
    → (if b then (from + at) ∷ further else further) ≡ map (λ place. from + place) (if b then at ∷ places else places)
moved true from at further places same = ap (λ (l : List ℕ). (from + at) ∷ l) same
moved false from at further places same = same

places_further : (number from at : ℕ) (entries : List Entry) → places_from caller_of number (from + at) entries ≡ map (λ place. from + place) (places_from caller_of number at entries)
places_further number from at [] = refl
places_further number from at (entry ∷ entries) =
    let z : from + at + 1 ≡ from + (at + 1) = omega arith in
    let rest : places_from caller_of number (from + at + 1) entries ≡ map (λ place. from + place) (places_from caller_of number (at + 1) entries) =
    ap (λ (k : ℕ). places_from caller_of number k entries) z ∙ places_further number from (at + 1) entries in
    moved (entry.caller == number) from at _ _ rest

-- where its history begins
pub before_is : (k : CallerKnows) (beginning : Beginning) → k.setting ≡ Some beginning → made_before k ≡ beginning.base.entries
before_is k beginning begins = ap (λ (setting : Option Beginning). option_map_or (λ (b : Beginning). b.base.entries) setting 0) begins

-- before the first history of a run no entry was made
pub numbers_mine : (k : CallerKnows) → made_before k ≡ 0 → numbers k ≡ mine caller_of k
numbers_mine k none = ap (λ (at : ℕ). places_from caller_of k.number at k.seen) none

-- they are the places in the history, further on by the entries before it
pub numbers_are : (k : CallerKnows) → numbers k ≡ map (λ place. made_before k + place) (mine caller_of k)
numbers_are k =
    let z : made_before k ≡ made_before k + 0 = omega arith in
    ap (λ (at : ℕ). places_from caller_of k.number at k.seen) z ∙ places_further k.number (made_before k) 0 k.seen
