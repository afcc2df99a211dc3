-- What a caller's pass sees of its calls: their places in the history, and whether its round is open.
use Rattle.std.specs.Prelude.{◌≡◌, ⊤, ℕ, suc, ◌+◌, ◌≤◌, Bool, false, not, ◌||◌, ◌&&◌, List, [], ◌∷◌, ◌++◌, length}
use Rattle.std.specs.Option.{option_map_or}
use Rattle.cache_law.specs.declared.call.Call.{Call}
use Rattle.cache_law.specs.declared.call.Call.TheVariants.{Begin, End}
use Rattle.cache_law.specs.declared.call.Entry.{Entry}
use Rattle.cache_law.specs.History.{reached}
use Rattle.cache_law.specs.State.{has_round}
use Rattle.turnstile.specs.Knowledge.{saw}
use Rattle.shared_cache.specs.Sharing.{CallerKnows, made_before, numbers}

-- The history grew behind what the pass had seen, and the pass has gained these places.
pub record HasCalled (k after : CallerKnows) (places : List ℕ) : Type 0 where
  pub between : List Entry
  pub knows : after ≡ saw k (k.seen ++ between)
  pub gained : numbers after ≡ numbers k ++ places

-- how many entries of the run there are behind what the pass has seen
abbrev pub count_seen : CallerKnows → ℕ
count_seen k = made_before k + length k.seen

-- the entry stands at this place, of a history before which so many entries of the run were made
pub record StandsAt (from : ℕ) (history : List Entry) (place : ℕ) (entry : Entry) : Type 0 where
  pub before : List Entry
  pub behind : List Entry
  pub is : history ≡ before ++ entry ∷ behind
  pub place_is : from + length before ≡ place

-- these entries stand at these places, one by one
abbrev pub StandAt : ℕ → List Entry → List ℕ → List Entry → Type 0
StandAt from history [] [] = ⊤
StandAt from history (place ∷ places) (entry ∷ entries) = StandsAt from history place entry × StandAt from history places entries
StandAt from history places entries = ⊥

-- places that rise from one number on, and stay below another
abbrev pub RiseIn : ℕ → ℕ → List ℕ → Type 0
RiseIn low high [] = low ≤ high
RiseIn low high (place ∷ places) = (low ≤ place) × RiseIn (suc place) high places

-- the caller has an open round behind all that its pass has seen
abbrev pub has_open : CallerKnows → Bool
has_open k = option_map_or (λ beginning. has_round (reached beginning k.seen).rounds k.number) k.setting false

-- whether a caller's round is open behind a call, its own or another's
abbrev pub opened_by : Call → Bool → Bool → Bool
opened_by Begin own before = own || before
opened_by End own before = not own && before
opened_by call own before = before
