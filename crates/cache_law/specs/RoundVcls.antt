-- What a history owes of its VCLs: a round runs under one VCL from its beginning to its end.
use Rattle.std.specs.Prelude.{◌≡◌, ◌⊎◌, ℕ, Bool, true, false, List, [], ◌∷◌, ◌==◌, ◌&&◌, Some, find}
use Rattle.std.specs.List.{AllByRecursion}
use Rattle.cache_law.specs.declared.state.OpenRound.{OpenRound}
use Rattle.cache_law.specs.declared.vcl.LoadedVcl.{LoadedVcl}
use Rattle.cache_law.specs.declared.call.Call.{Call}
use Rattle.cache_law.specs.declared.call.Call.TheVariants.{End}
use Rattle.cache_law.specs.declared.call.Entry.{Entry}
use Rattle.cache_law.specs.State.{State}

abbrev pub is_end : Call → Bool
is_end End = true
is_end call = false

-- none of the entries ends a round of the caller
abbrev pub StaysOpen : ℕ → List Entry → Type 0
StaysOpen caller entries = AllByRecursion (λ entry. ((entry.caller == caller) && is_end entry.call) ≡ false) entries

-- one of the VCLs
abbrev pub IsOneOf : LoadedVcl → List LoadedVcl → Type 0
IsOneOf loaded [] = ⊥
IsOneOf loaded (other ∷ vcls) = (loaded ≡ other) ⊎ IsOneOf loaded vcls

-- the caller's round is open under the VCL of this number, which is there with this text
pub record RunsUnder (state : State) (caller vcl : ℕ) (text : List ℕ) : Type 0 where
  pub round : OpenRound
  pub opened : find (λ round. round.caller == caller) state.rounds ≡ Some round
  pub under : round.vcl ≡ vcl
  pub loaded : LoadedVcl
  pub there : IsOneOf loaded state.vcls
  pub numbered : loaded.vcl.number ≡ vcl
  pub of_text : loaded.vcl.text ≡ text
