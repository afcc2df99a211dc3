-- Workers over a cache that have left, and what a run of them comes to.
use Rattle.std.specs.Prelude.{◌≡◌, ℕ, List, [], ◌∷◌, ◌++◌, Option, Some, length}
use Rattle.std.specs.List.{AllZip}
use Rattle.cache_law.specs.declared.call.Entry.{Entry}
use Rattle.cache_law.specs.Beginning.{Beginning}
use Rattle.turnstile.specs.declared.handles.Pass.{Pass}
use Rattle.turnstile.specs.Handles.{known}
use Rattle.turnstile.specs.Knowledge.{mine, opened, saw}
use Rattle.shared_cache.specs.Sharing.{CallerKnows, caller_of}
use Rattle.wire.specs.Telling.{LinkTold}
use Rattle.world.specs.declared.kit.Kit.{Kit}
use Rattle.workers.specs.Working.{HasWorked}
use Rattle.workers.specs.declared.post.Post.{Post}
use Rattle.workers.specs.declared.worker.Worker.{Worker}
use Rattle.crew.specs.Opening.{IsFirst}
use Rattle.crew.specs.Hiring.{Hires}
use Rattle.crew.specs.Places.{AllAbove, AtMostOnce}
use Rattle.crew.specs.Parts.{Part, AllTold, PartTold, HasPlaces, all_events, all_places}

-- Below, this is told of connections over a history.
module _ {H N E A B D K : Type 0} (IsPass : Pass Entry Beginning → Type 0) (Unused : Kit D K → Type 0) (pass_of : H → Pass Entry Beginning) (kit_of : H → Kit D K)
    (Told : N → List E → Type 0) (setting : Option Beginning) (places_of : List E → List ℕ) (Tells : List Entry → ℕ → Kit D K → Kit D K → LinkTold → List E → Type 0) where
  -- A worker that was hired under this number has left: its pass and its kit are to be handed back, its connections were served
  -- over what the pass has seen, by calls that are all of its number, and its keeper was told of them and of nothing else.
  pub record HasLeft (number : ℕ) (worker : Worker H N A B) : Type 0 where
    pub post : Post H N
    pub has : worker.post ≡ Some post
    pub pass : IsPass (pass_of post.shift)
    pub number_is : (known (pass_of post.shift)).number ≡ number
    pub setting_is : (known (pass_of post.shift)).setting ≡ setting
    pub none_made : (known (pass_of post.shift)).made ≡ []
    pub none_ended : (known (pass_of post.shift)).ended ≡ []
    pub came : List (List E)
    pub mine_is : mine caller_of (known (pass_of post.shift)) ≡ all_places places_of came
    pub first : Kit D K
    pub unused : Unused first
    pub is_told : AllTold places_of (Tells (known (pass_of post.shift)).seen) number (record { kit = first; seen = [] })
        (record { kit = kit_of post.shift; seen = (known (pass_of post.shift)).seen }) came
    pub told : Told post.keeper (all_events came)
    pub counted : worker.accepted.amount ≡ length came
    pub accepted : worker.accepted.parts ≡ 1
    pub left : worker.left.parts ≡ 1

  -- one worker for each number, in order
  abbrev pub AllLeft : List ℕ → List (Worker H N A B) → Type 0
  AllLeft [] [] = Unit {0}
  AllLeft (n ∷ ns) (w ∷ ws) = HasLeft n w × AllLeft ns ws
  AllLeft ns ws = ⊥

module _ {H N E A B D K : Type 0} (IsPass : Pass Entry Beginning → Type 0) (Unused : Kit D K → Type 0) (pass_of : H → Pass Entry Beginning) (kit_of : H → Kit D K)
    (Told : N → List E → Type 0) (places_of : List E → List ℕ) (Tells : Beginning → List Entry → ℕ → Kit D K → Kit D K → LinkTold → List E → Type 0) where
  -- All workers have left whose passes were split off from the first one, which knows nothing else but what it has seen.
  pub record HaveLeft (k : CallerKnows) (workers : List (Worker H N A B)) : Type 0 where
    pub beginning : Beginning
    pub numbers : List ℕ
    pub left : AllLeft IsPass Unused pass_of kit_of Told (Some beginning) places_of (Tells beginning) numbers workers
    pub knows : k ≡ record (opened 0 beginning) { upto = k.upto; seen = k.seen; made = numbers }
    pub above : AllAbove 0 numbers
    pub once : AtMostOnce numbers

module _ {H N E A B D K : Type 0} (IsPass : Pass Entry Beginning → Type 0) (Unused : Kit D K → Type 0) (pass_of : H → Pass Entry Beginning) (kit_of : H → Kit D K)
    (Told : N → List E → Type 0) (Ready : H → Type 0) (Serves : H → H → LinkTold → List E → Type 0) where
  -- Workers were hired whose passes were split off from the first one, which knows nothing else but what it has seen since, and each
  -- has worked.
  pub record HaveWorked (k : CallerKnows) (workers : List (Worker H N A B)) : Type 0 where
    pub before : CallerKnows
    pub first : IsFirst before
    pub hired : CallerKnows
    pub olds : List (Worker H N A B)
    pub hires : Hires IsPass Unused pass_of kit_of Told before.setting 0 before hired olds
    pub knows : k ≡ saw hired k.seen
    pub worked : AllZip (HasWorked Ready Serves Told) olds workers

module _ {N E D K : Type 0} (Unused : Kit D K → Type 0) (Told : N → List E → Type 0) (places_of : List E → List ℕ) (Tells : ℕ → Kit D K → Kit D K → LinkTold → List E → Type 0) where
  -- A worker began with a kit of which nothing was asked, served its connections, and made all the calls of its number for them. What it
  -- has seen is a front of the history. Its keeper was told of its connections, in their order, and of nothing else.
  pub record IsWhole (history : List Entry) (part : Part (Kit D K) N E) : Type 0 where
    pub unused : Unused part.first
    pub is_told : PartTold places_of Tells part
    pub told : Told part.keeper (all_events part.came)
    pub front : (rest : List Entry) × (history ≡ part.seen ++ rest)
    pub places : HasPlaces places_of history part

  abbrev pub AllWhole : List Entry → List (Part (Kit D K) N E) → Type 0
  AllWhole history [] = Unit {0}
  AllWhole history (part ∷ parts) = IsWhole history part × AllWhole history parts
