-- Who waits for a fetch, as the cache's state and the schedule have it.
use Rattle.std.specs.Prelude.{◌≡◌, ℕ, ◌≤◌, ◌+◌, ◌==◌, ◌&&◌, Bool, Option, Some, List, filter, length}
use Rattle.cache_law.specs.declared.call.Entry.{Entry}
use Rattle.cache_law.specs.Beginning.{Beginning}
use Rattle.cache_law.specs.History.{reached}
use Rattle.cache_law.specs.State.{told_to_wait}
use Rattle.replay.specs.declared.policy.Want.{Want}
use Rattle.replay.specs.declared.policy.Want.TheVariants.{Await}
use Rattle.replay.specs.declared.rounds.Pending.{Pending}
use Rattle.replay.specs.declared.rounds.Kept.{Kept}
use Rattle.replay.specs.Went.{Stage}

-- what the client was told to wait for behind these entries
abbrev pub wait_of : Beginning → List Entry → ℕ → Option ℕ
wait_of beginning history client = told_to_wait (reached beginning history).rounds client

abbrev pub count_of : {X : Type 0} → (X → Bool) → List X → ℕ
count_of test items = length (filter test items)

abbrev pub is_pending_of : {P : Type 0} → ℕ → Pending P → Bool
is_pending_of client pending = pending.client == client

abbrev pub is_kept_of : {P : Type 0} → ℕ → Kept P → Bool
is_kept_of client kept = kept.client == client

-- it is the client's, and waits for this
abbrev pub is_kept_for : {P : Type 0} → ℕ → ℕ → Kept P → Bool
is_kept_for client token kept = (kept.client == client) && (kept.token == token)

-- how many rounds of the client wait
abbrev pub rounds_of : {P : Type 0} → Stage P → ℕ → ℕ
rounds_of stage client = count_of (is_pending_of client) stage.waiting + count_of (is_kept_of client) stage.parked

-- No client has two rounds that wait, and who was told to wait is parked until that fetch is closed.
pub record IsSettled {P : Type 0} (beginning : Beginning) (stage : Stage P) : Type 0 where
  pub once : (client : ℕ) → rounds_of stage client ≤ 1
  pub told : (client token : ℕ) → wait_of beginning stage.history client ≡ Some token → 1 ≤ count_of (is_kept_for client token) stage.parked

-- The client's round runs and wants this: it has no other round, and waits exactly where it was just told to.
pub record RunsAlone {P : Type 0} (beginning : Beginning) (stage : Stage P) (client : ℕ) (want : Want) : Type 0 where
  pub once : (other : ℕ) → rounds_of stage other ≤ 1
  pub alone : rounds_of stage client ≡ 0
  pub own : (token : ℕ) → wait_of beginning stage.history client ≡ Some token → want ≡ Await token
  pub others : (other token : ℕ) → (other ≡ client → ⊥) → wait_of beginning stage.history other ≡ Some token → 1 ≤ count_of (is_kept_for other token) stage.parked

-- the call of a client leaves what the others were told
abbrev pub KeepsOthers : Beginning → List Entry → Beginning → List Entry → ℕ → Type 0
KeepsOthers before old after new client = (other : ℕ) → (other ≡ client → ⊥) → wait_of after new other ≡ wait_of before old other
