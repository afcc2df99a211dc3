-- Where a connection ended in order, each request has a whole round.
use Rattle.std.proofs.Common.{◌≡◌, ◌⊎◌, inl, inr, ℕ, List, ◌++◌, Some, sym, ◌∙◌, ap, subst, refl}
use Rattle.wire.specs.Flow.{Flow, Moves}
use Rattle.connection.specs.Complete.{ClosedByLast, AnswersAll}
use Rattle.connection.specs.Requests.{LacksRequest, BeginsRequests}
use Rattle.connection.specs.Serving.{Round, ending_of, requests_of, sent_of, AllKept, EndsBehind, Stops}
use Rattle.connection.specs.declared.ended.Answered.{Answered}
use Rattle.connection.specs.declared.ended.Answered.TheVariants as rounds
use Rattle.connection.specs.declared.ended.Ended.{Ended}
use Rattle.connection.specs.declared.ended.Ended.TheVariants.{Closed, ReadFault, WriteFault, BadRequest, HistoryFull, NoMemory}
use Rattle.connection.proofs.ReadingFacts.{of_all, bad_of_all, empty_lacks}

closes_by : (answered : Answered) → ending_of answered ≡ Some Closed → answered ≡ rounds.Closes
closes_by rounds.Closes is = refl
closes_by rounds.Kept is = absurd (cc)
closes_by rounds.WriteFault is = absurd (cc)
closes_by rounds.HistoryFull is = absurd (cc)
closes_by rounds.NoMemory is = absurd (cc)

never_bad : (answered : Answered) → ending_of answered ≡ Some BadRequest → ⊥
never_bad rounds.Closes is = cc
never_bad rounds.Kept is = cc
never_bad rounds.WriteFault is = cc
never_bad rounds.HistoryFull is = cc
never_bad rounds.NoMemory is = cc

-- the connection ended between requests, or behind a response that says so
abbrev pub IsOrderly : Ended → Type 0
IsOrderly ended = (ended ≡ Closed) ⊎ (ended ≡ BadRequest)

unorderly : (ended : Ended) → (ended ≡ Closed → ⊥) → (ended ≡ BadRequest → ⊥) → IsOrderly ended → ⊥
unorderly ended one other (inl is) = one is
unorderly ended one other (inr is) = other is

whole_by : (after : Flow) (all : List Round) (rest extra left : List ℕ) (ended : Ended) → EndsBehind ended all left rest extra ⊎ (AllKept all × Stops ended (Some after) left rest extra) → IsOrderly ended
    → (AllKept all × LacksRequest (rest ++ after.left)) ⊎ ClosedByLast all
whole_by after all rest extra left Closed (inl behind) orderly =
    inr (record { front = behind.front; last = behind.last; split = behind.split; kept = behind.kept; closes = closes_by behind.last.answered behind.is })
whole_by after all rest extra left Closed (inr stops) orderly =
    inl (stops.0, subst LacksRequest (sym (ap (λ (l : List ℕ). l ++ after.left) stops.1.0 ∙ stops.1.2)) empty_lacks)
whole_by after all rest extra left BadRequest (inl behind) orderly = absurd (never_bad behind.last.answered behind.is)
whole_by after all rest extra left BadRequest (inr stops) orderly = inl (stops.0, bad_of_all after rest stops.1.0)
whole_by after all rest extra left ReadFault ends orderly = absurd (unorderly ReadFault (λ is. cc) (λ is. cc) orderly)
whole_by after all rest extra left WriteFault ends orderly = absurd (unorderly WriteFault (λ is. cc) (λ is. cc) orderly)
whole_by after all rest extra left HistoryFull ends orderly = absurd (unorderly HistoryFull (λ is. cc) (λ is. cc) orderly)
whole_by after all rest extra left NoMemory ends orderly = absurd (unorderly NoMemory (λ is. cc) (λ is. cc) orderly)

pub answers_all : (before after : Flow) (held read : List ℕ) (all : List Round) (rest extra left : List ℕ) (ended : Ended) → Moves (Some before) (Some after) read (sent_of all ++ extra)
    → BeginsRequests (held ++ read) (requests_of all) rest → EndsBehind ended all left rest extra ⊎ (AllKept all × Stops ended (Some after) left rest extra)
    → (ended ≡ Closed) ⊎ (ended ≡ BadRequest) → AnswersAll (held ++ before.left) all
answers_all before after held read all rest extra left ended moves requests ends orderly = record {
  behind = rest ++ after.left;
  requests = of_all before after held read (sent_of all ++ extra) (requests_of all) rest moves requests;
  whole = whole_by after all rest extra left ended ends orderly;
}
