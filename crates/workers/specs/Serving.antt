-- What workers do.
use Rattle.std.specs.Prelude.{◌≡◌, ℕ, ◌+◌, List, [], ◌∷◌, ◌++◌, length, Option, Some}
use Rattle.std.specs.List.{flat_map}
use Rattle.entrance.specs.Arriving.{IsNew}
use Rattle.wire.specs.Telling.{LinkTold}
use Rattle.workers.specs.declared.post.Post.{Post}

-- A keeper was told these events, behind all that it was told before.
abbrev pub IsTold : {N E : Type 0} → (N → List E → Type 0) → N → N → List E → Type 0
IsTold {E = E} Told old new events = (before : List E) → Told old before → Told new (before ++ events)

-- Below, a connection is served in this way, and has these events.
module _ {H E : Type 0} (Serves : H → H → LinkTold → List E → Type 0) where
  -- One connection was accepted and served.
  pub record Served (before after : H) (events : List E) : Type 0 where
    pub opening : LinkTold
    pub address : List ℕ
    pub is_new : IsNew opening address
    pub serves : Serves before after opening events

  -- Connections were served, one behind another, each from the shift that the one before it left. Each has a list of events.
  abbrev pub AllServed : H → H → List (List E) → Type 0
  AllServed before after [] = after ≡ before
  AllServed before after (events ∷ others) = (mid : H) × Served before mid events × AllServed mid after others

  -- A worker has served connections: its keeper was told of them, in their order, and its share has grown by their number.
  pub record Works {N : Type 0} (Told : N → List E → Type 0) (post post' : Option (Post H N)) (amount amount' : ℕ) : Type 0 where
    pub before : Post H N
    pub after : Post H N
    pub had : post ≡ Some before
    pub has : post' ≡ Some after
    pub came : List (List E)
    pub served : AllServed before.shift after.shift came
    pub told : IsTold Told before.keeper after.keeper (flat_map (λ events. events) came)
    pub counted : amount' ≡ amount + length came
