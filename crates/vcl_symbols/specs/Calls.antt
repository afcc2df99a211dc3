-- Calls between subroutines, and what they lead to. Subroutines are numbered from 0.
use Rattle.std.specs.Prelude.{ℕ, zero, suc, ◌≡◌, ◌<◌, Bool, true, false, List, Contains, All, slice_index_or}
use Rattle.vcl_symbols.specs.declared.call_graph.Call.{Call}

-- v calls w
abbrev pub Calls : List Call → ℕ → ℕ → Type 0
Calls calls v w = (call : Call) × Contains calls call × (call.from ≡ v) × (call.to ≡ w)

-- n calls, each of them by the subroutine that the one before it calls, lead from v to w
abbrev pub Walk : List Call → ℕ → ℕ → ℕ → Type 0
Walk calls v zero w = v ≡ w
Walk calls v (suc n) w = (u : ℕ) × Calls calls v u × Walk calls u n w

-- calls lead from v to w; no call leads from v to itself
abbrev pub Reaches : List Call → ℕ → ℕ → Type 0
Reaches calls v w = (n : ℕ) × Walk calls v n w

-- the calls are between the first `count` subroutines
abbrev pub AreWithin : ℕ → List Call → Type 0
AreWithin count calls = All (λ call. (call.from < count) × (call.to < count)) calls

-- the subroutine of this number is marked
abbrev pub Marked : List Bool → ℕ → Type 0
Marked marks v = slice_index_or marks v false ≡ true
