use Rattle.std.proofs.Common.{◌≡◌}
use Rattle.cache_law.specs.State.{remembering}
use Rattle.cache_desk.proofs.Passes.{passed}
use Rattle.cache_desk.proofs.rounds.remember.Given as goal

-- the rounds before this place are changed
abbrev pub invariant-loop-place : goal.invariant-loop-place
invariant-loop-place l = l.rounds.items ≡ passed (remembering l.caller l.token) l.place l.initial.rounds.items
