-- What a pass knows: the history that it has seen, and the numbers that it answers for.
use Rattle.std.specs.Prelude.{◌≡◌, ◌⊎◌, ℕ, ◌+◌, ◌^◌, ◌<◌, ◌≤◌, ◌==◌, List, [], ◌∷◌, ◌++◌, map, length, nat_lt, if◌then◌else◌, Some, None, All, Contains}
use Rattle.turnstile.specs.declared.knowledge.Ended.{Ended}
use Rattle.turnstile.specs.declared.knowledge.Known.{Known}

module _ {E G : Type 0} where
  -- of no pass at all
  abbrev pub nobody : Known E G
  nobody = record { first = 0; setting = None; number = 0; upto = 0; seen = []; made = []; ended = [] }

  -- of the first pass, which has every number from its own upwards
  abbrev pub opened : ℕ → G → Known E G
  opened first setting = record { first = first; setting = Some setting; number = first; upto = 2 ^ 32; seen = []; made = []; ended = [] }

  -- the same, and the history as it is now
  abbrev pub saw : Known E G → List E → Known E G
  saw k history = record k { seen = history }

  -- the caller c was split off from it, with the span from c upwards
  abbrev pub cut_off : Known E G → ℕ → Known E G
  cut_off k c = record k { upto = c; made = k.made ++ c ∷ [] }

  -- of the pass that was split off
  abbrev pub branch : Known E G → ℕ → Known E G
  branch k c = record k { number = c; made = []; ended = [] }

  abbrev pub ended_numbers : Known E G → List ℕ
  ended_numbers k = map (λ (e : Ended). e.number) k.ended

  -- the number is the pass's, or was that of a pass that was joined into it
  abbrev pub Owns : Known E G → ℕ → Type 0
  Owns k n = (n ≡ k.number) ⊎ Contains (ended_numbers k) n

  -- the number lies in the span of the pass, or was that of a pass that was joined into it
  abbrev pub Covers : Known E G → ℕ → Type 0
  Covers k n = ((k.number ≤ n) × (n < k.upto)) ⊎ Contains (ended_numbers k) n

module _ {E : Type 0} where
  abbrev pub longer : List E → List E → List E
  longer xs ys = if nat_lt (length xs) (length ys) then ys else xs

module _ {E : Type 0} (caller : E → ℕ) where
  -- the places, counted from `at`, of the entries of one caller
  abbrev pub places_from : ℕ → ℕ → List E → List ℕ
  places_from n at [] = []
  places_from n at (e ∷ es) = if caller e == n then at ∷ places_from n (at + 1) es else places_from n (at + 1) es

  abbrev pub places : ℕ → List E → List ℕ
  places n es = places_from n 0 es

module _ {E G : Type 0} (caller : E → ℕ) where
  -- the places of the pass's own entries in what it has seen
  abbrev pub mine : Known E G → List ℕ
  mine k = places caller k.number k.seen

  -- no entry is by a caller that the pass owns
  abbrev pub Silent : Known E G → List E → Type 0
  Silent k es = All (λ e. ¬ (Owns k (caller e))) es

  -- the history begins with all that the pass has seen, and nothing that it owns was entered since
  abbrev pub Grown : Known E G → List E → Type 0
  Grown k history = (rest : List E) × (history ≡ k.seen ++ rest) × Silent k rest

  -- each ended caller has the places that it had
  abbrev pub EndedStay : Known E G → List E → Type 0
  EndedStay k history = All (λ (e : Ended). places caller e.number history ≡ e.places) k.ended

  -- where the pass is the first, and all that were split off are joined again, every entry is by a caller that it owns
  abbrev pub Whole : Known E G → List E → Type 0
  Whole k history =
      k.number ≡ k.first → ((n : ℕ) → Contains k.made n → Contains (ended_numbers k) n) → All (λ e. Owns k (caller e)) history

  -- what a pass learns of the history when its turn comes
  pub record Meets (k : Known E G) (history : List E) : Type 0 where
    pub grown : Grown k history
    pub mine : places caller k.number history ≡ mine k
    pub ended : EndedStay k history
    pub whole : Whole k history

  -- what may be done in a turn: nothing, or one entry of the pass's caller
  abbrev pub Leaves : Known E G → List E → Type 0
  Leaves k history = (history ≡ k.seen) ⊎ ((e : E) × (history ≡ k.seen ++ e ∷ []) × (caller e ≡ k.number))

  -- the pass has as many places more as it has seen entries more: one at most, the last
  pub record GainsPlaces (k k' : Known E G) : Type 0 where
    pub same : k'.seen ≡ k.seen → mine k' ≡ mine k
    pub one_more : (e : E) → k'.seen ≡ k.seen ++ e ∷ [] → mine k' ≡ mine k ++ length k.seen ∷ []

  -- the pass that takes in another: the longer of the two histories, and the other's number with its places
  abbrev pub merged : Known E G → Known E G → Known E G
  merged k o = record k {
    seen = longer k.seen o.seen;
    made = k.made ++ o.made;
    ended = (k.ended ++ o.ended) ++ record { number = o.number; places = mine o } ∷ [];
  }
