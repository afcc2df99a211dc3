-- Workers over a cache, from their hiring to their leave.
use Rattle.std.specs.Prelude.{◌≡◌, ℕ, List, [], ◌∷◌, ◌++◌, Option, Some}
use Rattle.cache_law.specs.declared.call.Entry.{Entry}
use Rattle.cache_law.specs.Beginning.{Beginning}
use Rattle.turnstile.specs.declared.handles.Pass.{Pass}
use Rattle.turnstile.specs.declared.knowledge.Ended.{Ended}
use Rattle.turnstile.specs.Handles.{known}
use Rattle.turnstile.specs.Knowledge.{mine}
use Rattle.shared_cache.specs.Sharing.{CallerKnows, caller_of}
use Rattle.wire.specs.Tapes.{Tape}
use Rattle.wire.specs.declared.peer.Talk.{Talk}
use Rattle.world.specs.Keeping.{IsNothingYet, IsUntold}
use Rattle.world.specs.declared.kit.Kit.{Kit}
use Rattle.workers.specs.declared.post.Post.{Post}
use Rattle.workers.specs.declared.worker.Worker.{Worker}
use Rattle.crew.specs.Places.{AllAbove, AtMostOnce}

-- Nothing was asked of the kit yet, as its dialer and its clock tell.
pub record IsUnused {D K L : Type 0} (talks : D → Option (List (Talk L))) (dial_faults read_faults write_faults : D → ℕ) (readings words : K → Option Tape)
    (kit : Kit D K) : Type 0 where
  pub no_talk : IsNothingYet (talks kit.dialer)
  pub no_failed_dial : dial_faults kit.dialer ≡ 0
  pub no_failed_read : read_faults kit.dialer ≡ 0
  pub no_failed_write : write_faults kit.dialer ≡ 0
  pub no_reading : IsUntold (readings kit.clock)
  pub no_word : IsUntold (words kit.clock)

-- The pass was split off under this number, and has seen no entry yet.
pub record IsFresh (setting : Option Beginning) (number : ℕ) (k : CallerKnows) : Type 0 where
  pub number_is : k.number ≡ number
  pub setting_is : k.setting ≡ setting
  pub unseen : k.seen ≡ []
  pub none_made : k.made ≡ []
  pub none_ended : k.ended ≡ []

module _ {H N E A B D K : Type 0} (IsPass : Pass Entry Beginning → Type 0) (Unused : Kit D K → Type 0) (pass_of : H → Pass Entry Beginning) (kit_of : H → Kit D K)
    (Told : N → List E → Type 0) (setting : Option Beginning) where
  -- a worker that was just hired, under this number
  pub record IsHired (number : ℕ) (worker : Worker H N A B) : Type 0 where
    pub post : Post H N
    pub has : worker.post ≡ Some post
    pub pass : IsPass (pass_of post.shift)
    pub fresh : IsFresh setting number (known (pass_of post.shift))
    pub unused : Unused (kit_of post.shift)
    pub untold : Told post.keeper []
    pub accepted : (worker.accepted.parts ≡ 1) × (worker.accepted.amount ≡ 0)
    pub left : (worker.left.parts ≡ 1) × (worker.left.amount ≡ 0)

  -- One worker was hired under this number, behind the others.
  pub record HiresOne (number : ℕ) (old new : List (Worker H N A B)) : Type 0 where
    pub worker : Worker H N A B
    pub items : new ≡ old ++ worker ∷ []
    pub hired : IsHired number worker

  -- one worker for each number, in order
  abbrev pub AllHired : List ℕ → List (Worker H N A B) → Type 0
  AllHired [] [] = Unit {0}
  AllHired (n ∷ ns) (w ∷ ws) = IsHired n w × AllHired ns ws
  AllHired ns ws = ⊥

  -- Workers were hired under numbers above this one, each under its own, and these were split off from the first pass.
  pub record Hires (low : ℕ) (before after : CallerKnows) (workers : List (Worker H N A B)) : Type 0 where
    pub numbers : List ℕ
    pub hired : AllHired numbers workers
    pub knows : after ≡ record before { upto = after.upto; made = before.made ++ numbers }
    pub above : AllAbove low numbers
    pub once : AtMostOnce numbers

-- the number of a pass with its places, as of one that is ended
abbrev pub ended_of : CallerKnows → Ended
ended_of k = record { number = k.number; places = mine caller_of k }

-- the history begins with what each of these passes has seen
abbrev pub AllFronts : List Entry → List CallerKnows → Type 0
AllFronts history [] = Unit {0}
AllFronts history (k ∷ ks) = ((rest : List Entry) × (history ≡ k.seen ++ rest)) × AllFronts history ks
