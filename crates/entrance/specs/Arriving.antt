-- What is told of a connection, and how one is told that was just accepted.
use Rattle.std.specs.Prelude.{◌≡◌, ℕ, ◌+◌, false, List}
use Rattle.wire.specs.Flow.{IsFresh}
use Rattle.wire.specs.Telling.{LinkTold}
use Rattle.wire.specs.declared.peer.Peer.{Peer}
use Rattle.world.specs.declared.awaited.Awaited.{Awaited}
use Rattle.world.specs.declared.awaited.Awaited.TheVariants.{Came, NobodyYet, End}

-- what is told of a connection, once it was ended
abbrev pub ended_so : LinkTold → LinkTold
ended_so told = record told { is_open = false }

-- nothing went over it yet, and it came from this address
pub record IsNew (told : LinkTold) (address : List ℕ) : Type 0 where
  pub fresh : IsFresh told.flow
  pub no_failed_read : told.read_faults ≡ 0
  pub no_failed_write : told.write_faults ≡ 0
  pub from : told.peer ≡ Peer.Accepted address

-- how two amounts change: the first counts a connection that came, the second that no more come
abbrev pub Counts : {L : Type 0} → Awaited L → ℕ → ℕ → ℕ → ℕ → Type 0
Counts (Came link address) accepted accepted' left left' = (accepted' ≡ accepted + 1) × (left' ≡ left)
Counts NobodyYet accepted accepted' left left' = (accepted' ≡ accepted) × (left' ≡ left)
Counts End accepted accepted' left left' = (accepted' ≡ accepted) × (left' ≡ left + 1)
