-- Connections and dialers in memory that never fail, as clauses see them.
use Rattle.std.specs.Prelude.{◌≡◌, ℕ, Bool, true, List, [], ◌∷◌, Option, Vec}
use Rattle.std.specs.declared.alloc.Global.{Global}
use Rattle.wire.specs.declared.peer.Peer.{Peer}

-- a connection: what comes on it, what it keeps of all that it took, its other end, and whether it wasn't ended yet
pub record UnfailingState : Type 0 where
  pub left : List ℕ
  pub kept : List ℕ
  pub room : ℕ
  pub peer : Peer
  pub is_open : Bool

-- a dialer: what comes on the connections that it is to give, how many bytes each keeps, and the one that was handed back last
pub record UnfailingDialerState : Type 0 where
  pub planned : List (Vec ℕ Global)
  pub room : ℕ
  pub latest : Option UnfailingState

-- what comes on the next connection
abbrev pub next_input : List (Vec ℕ Global) → List ℕ
next_input [] = []
next_input (input ∷ rest) = input.items

abbrev pub behind_next : List (Vec ℕ Global) → List (Vec ℕ Global)
behind_next [] = []
behind_next (input ∷ rest) = rest

-- a dial gave the next connection
pub record GivesUnfailing (before after : UnfailingDialerState) (peer : Peer) (link : UnfailingState) : Type 0 where
  pub link_is : link ≡ record { left = next_input before.planned; kept = []; room = before.room; peer = peer; is_open = true }
  pub same : after ≡ record before { planned = behind_next before.planned }
