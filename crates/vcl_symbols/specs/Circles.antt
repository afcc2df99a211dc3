-- Circles of calls: a subroutine may not call itself, directly or through others.
use Rattle.std.specs.Prelude.{ℕ, ◌≡◌, ◌<◌, ◌≤◌, List, Contains, All, slice_index, Option, Some, None}
use Rattle.vcl_symbols.specs.declared.call_graph.Call.{Call}
use Rattle.vcl_symbols.specs.Calls.{Reaches}

-- a call that stands at this place is on a circle: calls lead from the called one back to the caller
abbrev pub OnCircleAt : List Call → ℕ → Type 0
OnCircleAt calls place =
    (call : Call) × Contains calls call × (call.place ≡ place) × Reaches calls call.to call.from

-- the least place of which a sentence holds, or none
abbrev pub IsLeastPlace : (ℕ → Type 0) → Option ℕ → Type 0
IsLeastPlace Holds None = (place : ℕ) → Holds place → ⊥
IsLeastPlace Holds (Some least) = Holds least × ((place : ℕ) → Holds place → least ≤ place)

-- a place is before the least one so far
abbrev pub IsBefore : ℕ → Option ℕ → Type 0
IsBefore place None = Unit {0}
IsBefore place (Some least) = place < least

-- no call leads to a greater of these heights, of which each subroutine has one
abbrev pub NoneRises : List ℕ → List Call → Type 0
NoneRises heights calls = All (λ call. slice_index heights call.to ≤ slice_index heights call.from) calls
