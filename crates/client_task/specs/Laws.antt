-- Words for the laws of a client's round.
use Rattle.std.specs.Prelude.{◌≡◌, ⊤, ℕ}
use Rattle.cache_law.specs.declared.call.Call.{Call}
use Rattle.cache_law.specs.declared.call.Call.TheVariants as call
use Rattle.cache_law.specs.declared.call.Reply.{Reply}
use Rattle.cache_law.specs.declared.call.Reply.TheVariants as reply
use Rattle.cache_law.specs.declared.rounds.FetchOutcome.TheVariants.{Delivered, Failed, Ended}
use Rattle.cache_law.specs.declared.rounds.Given.{Given}
use Rattle.cache_law.specs.declared.rounds.Given.TheVariants as given
use Rattle.client_graph.specs.declared.round.Round.{Round}
use Rattle.client_graph.specs.declared.round.Next.{Next}
use Rattle.client_graph.specs.declared.round.Next.TheVariants.{Enter, Rest}
use Rattle.client_graph.specs.declared.round.ClientWant.{ClientWant}
use Rattle.client_graph.specs.declared.round.ClientWant.TheVariants as want
use Rattle.client_task.specs.Rounds.{Node, Before, Inside, Between}

abbrev pub round_of : Next → Round
round_of (Enter state context round) = round
round_of (Rest point round) = round

-- the round that stands at a node
abbrev pub round_at : Node → Round
round_at (Before next) = round_of next
round_at (Inside asked state ran round) = round
round_at (Between point round) = round

-- a fetch is asked for under the VCL of this number
abbrev pub IsUnder : ℕ → ClientWant → Type 0
IsUnder vcl (want.Fetch order) = order.vcl ≡ vcl
IsUnder vcl (want.Background order) = order.vcl ≡ vcl
IsUnder vcl want = ⊤

-- the round's end is asked for, or nothing more
abbrev pub IsLast : ClientWant → Type 0
IsLast (want.Cache call.End) = ⊤
IsLast want.Done = ⊤
IsLast want = ⊥

-- the cache's answer to a call of a round
abbrev pub IsAnswer : Call → Reply → Type 0
IsAnswer (call.Lookup query) (reply.Hit view) = ⊤
IsAnswer (call.Lookup query) (reply.Grace view token) = ⊤
IsAnswer (call.Lookup query) (reply.Miss token stale) = ⊤
IsAnswer (call.Lookup query) (reply.HitMiss token) = ⊤
IsAnswer (call.Lookup query) reply.HitPass = ⊤
IsAnswer (call.Lookup query) (reply.Wait token) = ⊤
IsAnswer (call.Purge key) (reply.Purged count) = ⊤
IsAnswer (call.Ban ban) reply.Banned = ⊤
IsAnswer (call.Xkey keys soft) (reply.Purged count) = ⊤
IsAnswer (call.Drop token) reply.Dropped = ⊤
IsAnswer call.Draw (reply.Drawn number) = ⊤
IsAnswer call.End reply.Ended = ⊤
IsAnswer call reply = ⊥

-- What is given answers what was wanted. A fetch that is waited for comes to a response or fails, another one just ends.
abbrev pub AnswersIt : ClientWant → Given → Type 0
AnswersIt (want.Cache call) (given.Reply told) = IsAnswer call told.reply
AnswersIt (want.Fetch order) (given.Fetched (Delivered view moment uncacheable)) = ⊤
AnswersIt (want.Fetch order) (given.Fetched Failed) = ⊤
AnswersIt (want.Send delivery) given.Sent = ⊤
AnswersIt (want.Background order) (given.Fetched Ended) = ⊤
AnswersIt want given = ⊥
