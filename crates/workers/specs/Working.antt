-- What a worker has when it begins, and when it has left.
use Rattle.std.specs.Prelude.{◌≡◌, ◌<◌, ℕ, ◌+◌, List, Option, Some, None, Result, Ok, Err, IsSomeAnd}
use Rattle.std.specs.declared.alloc.AllocError.{AllocError}
use Rattle.wire.specs.Telling.{LinkTold}
use Rattle.workers.specs.Serving.{Works}
use Rattle.workers.specs.declared.worker.Leave.{Leave}
use Rattle.workers.specs.declared.worker.Worker.{Worker}

-- how a worker left, with its amount in the book of those who found the door shut, before and after
abbrev pub LeavesSo : Option (Result Leave AllocError) → ℕ → ℕ → Type 0
LeavesSo None before after = ⊥
LeavesSo (Some (Ok leave)) before after = after ≡ before + 1
LeavesSo (Some (Err error)) before after = after ≡ before

module _ {H N A B : Type 0} where
  -- it may begin: it may serve a connection with its shift, and has a part of each book
  pub record IsReady (Ready : H → Type 0) (worker : Worker H N A B) : Type 0 where
    pub shift : IsSomeAnd worker.post (λ post. Ready post.shift)
    pub accepted : 0 < worker.accepted.parts
    pub left : 0 < worker.left.parts

  -- what it did from its beginning until it left
  pub record HasWorked {E : Type 0} (Ready : H → Type 0) (Serves : H → H → LinkTold → List E → Type 0) (Told : N → List E → Type 0) (old new : Worker H N A B) : Type 0 where
    pub works : Works Serves Told old.post new.post old.accepted.amount new.accepted.amount
    pub ready : IsSomeAnd new.post (λ post. Ready post.shift)
    pub leaves : LeavesSo new.leave old.left.amount new.left.amount
    pub accepted : new.accepted.parts ≡ old.accepted.parts
    pub left : new.left.parts ≡ old.left.parts
