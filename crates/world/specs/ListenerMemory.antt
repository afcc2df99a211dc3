-- Listeners in memory, as clauses see them.
use Rattle.std.specs.Prelude.{ℕ, zero, suc, ◌||◌, Bool, List, [], ◌∷◌, drop}
use Rattle.wire.specs.Calls.{Counted, called}
use Rattle.wire.specs.DialerMemory.{planned_link}
use Rattle.wire.specs.LinkMemory.{LinkState}
use Rattle.wire.specs.declared.failing_dialer.Plan.{Plan}
use Rattle.wire.specs.declared.peer.Peer.{Peer}
use Rattle.world.specs.Awaiting.{is_end, given_behind}
use Rattle.world.specs.declared.awaited.Awaited.{Awaited}
use Rattle.world.specs.declared.awaited.Awaited.TheVariants.{Came, NobodyYet, End}

-- a connection that is to come, and where from
pub record Arrival : Type 0 where
  pub plan : Plan
  pub address : List ℕ

-- a listener: what is to come, its calls, whether it said that nothing more comes, how many connections it gave, and how many waits
-- will find nobody yet
pub record ListenerState : Type 0 where
  pub coming : List Arrival
  pub accepts : Counted
  pub ended : Bool
  pub given : ℕ
  pub quiet : ℕ

-- the first connection as it is accepted, and its address
abbrev pub first_arrival : List Arrival → Awaited LinkState
first_arrival [] = End
first_arrival (first ∷ rest) = Came (planned_link first.plan (Peer.Accepted first.address)) first.address

-- what a call that doesn't fail answers, where so many waits find nobody yet
abbrev pub answer_behind : ℕ → List Arrival → Awaited LinkState
answer_behind zero coming = first_arrival coming
answer_behind (suc n) coming = NobodyYet

-- the listener behind such a call
abbrev pub waited : ℕ → ListenerState → ListenerState
waited zero l = record {
  coming = drop 1 l.coming;
  accepts = called l.accepts;
  ended = is_end (first_arrival l.coming) || l.ended;
  given = given_behind l.given (first_arrival l.coming);
  quiet = 0;
}
waited (suc n) l = record l { accepts = called l.accepts; quiet = n }
