-- What a lookup does to the desk: the next number, and the fetches that are open, where it opens one or not.
use Rattle.std.specs.Prelude.{ℕ, Bool, List, [], ◌∷◌, ◌+◌, if◌then◌else◌}
use Rattle.cache_law.specs.declared.state.OpenFetch.{OpenFetch}

abbrev pub next_after : Bool → ℕ → ℕ
next_after opens next = if opens then next + 1 else next

abbrev pub opened_for : Bool → ℕ → ℕ → List (List ℕ) → List OpenFetch → List OpenFetch
opened_for opens token caller key fetches =
    if opens then record { token = token; caller = caller; key = key } ∷ fetches else fetches

abbrev pub tail : List OpenFetch → List OpenFetch
tail [] = []
tail (fetch ∷ fetches) = fetches

-- the fetches without the one that was opened last, if one was
abbrev pub without_newest : Bool → List OpenFetch → List OpenFetch
without_newest opened fetches = if opened then tail fetches else fetches
