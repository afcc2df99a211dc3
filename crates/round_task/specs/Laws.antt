-- Words for the laws of a round.
use Rattle.std.specs.Prelude.{◌≡◌, ◌≢◌, ⊤, ℕ, List, [], ◌∷◌, Option, Some, None}
use Rattle.std.specs.List.{AllByRecursion}
use Rattle.cache_law.specs.declared.call.Call.TheVariants as call
use Rattle.cache_law.specs.declared.call.Reply.{Reply}
use Rattle.cache_law.specs.declared.call.Reply.TheVariants.{Began}
use Rattle.cache_law.specs.declared.rounds.Given.{Given}
use Rattle.cache_law.specs.declared.rounds.Given.TheVariants as given
use Rattle.client_graph.specs.declared.round.ClientWant.TheVariants as client
use Rattle.client_task.specs.Laws.{IsLast as IsClientLast}
use Rattle.round_task.specs.declared.want.Want.{Want}
use Rattle.round_task.specs.declared.want.Want.TheVariants.{Cache, Send, Done}
use Rattle.round_task.specs.Happened.{Happened}

-- the round's end is asked for, or nothing more
abbrev pub IsLast : Want → Type 0
IsLast (Cache call) = IsClientLast (client.Cache call)
IsLast Done = ⊤
IsLast want = ⊥

abbrev pub IsSend : Want → Type 0
IsSend (Send delivery) = ⊤
IsSend want = ⊥

abbrev pub IsEnd : Want → Type 0
IsEnd (Cache call.End) = ⊤
IsEnd want = ⊥

-- the first thing that happened was the round's Begin, and none was later
abbrev pub BeginsOnce : List Happened → Type 0
BeginsOnce [] = ⊥
BeginsOnce (one ∷ more) = (one.want ≡ Cache call.Begin) × AllByRecursion (λ later. later.want ≢ Cache call.Begin) more

-- the last was its End, and none was earlier
abbrev pub EndsOnce : List Happened → Type 0
EndsOnce [] = ⊥
EndsOnce (one ∷ []) = IsEnd one.want
EndsOnce (one ∷ other ∷ more) = (IsEnd one.want → ⊥) × EndsOnce (other ∷ more)

-- the number of the VCL that the round's Begin was told: its first given, which is the last of the list
abbrev pub vcl_told : Reply → Option ℕ
vcl_told (Began number vcl text) = Some vcl
vcl_told other = None

abbrev pub vcl_given : Given → Option ℕ
vcl_given (given.Reply told) = vcl_told told.reply
vcl_given other = None

abbrev pub vcl_in : List Given → Option ℕ
vcl_in [] = None
vcl_in (first ∷ []) = vcl_given first
vcl_in (given ∷ other ∷ givens) = vcl_in (other ∷ givens)
