-- The VCL that a round runs under: the one that its Begin was told (vcl(7), "VCL Labels and versions").
use Rattle.std.specs.Prelude.{◌≡◌, ℕ, List, ◌∷◌, Option, Some}
use Rattle.std.specs.List.{AllByRecursion}
use Rattle.directors.specs.declared.target.Target.{Target}
use Rattle.cache_law.specs.declared.call.Call.TheVariants.{Begin, Pick}
use Rattle.cache_law.specs.declared.call.Entry.{Entry}
use Rattle.cache_law.specs.declared.cache.Told.{Told}
use Rattle.cache_law.specs.Core.{entry_of}
use Rattle.vcl_runs.specs.Languages.{Language}
use Rattle.round_task.specs.Laws.{vcl_told}
use Rattle.round_lead.specs.Seen.{StandsAt}
use Rattle.round_lead.specs.Things.{text_told}

-- where a director picks at this place, of a history before which so many entries of the run were made, it picks for this VCL
abbrev pub PicksFor : ℕ → List Entry → ℕ → Option ℕ → ℕ → Type 0
PicksFor from history caller vcl place =
    (number : ℕ) (target : Target) (word : ℕ) (answer : Told) → StandsAt from history place (entry_of caller (Pick number target word) answer) → vcl ≡ Some number

-- At the first of these places stands a Begin of the caller. The program is one of the text that it was told, and at the other
-- places directors pick for the VCL that it was told.
pub record RunsUnderItsVcl {P : Type 0} (language : Language P) (from : ℕ) (history : List Entry) (caller : ℕ) (places : List ℕ) (program : P) : Type 0 where
  pub first : ℕ
  pub others : List ℕ
  pub are : places ≡ first ∷ others
  pub told : Told
  pub begins : StandsAt from history first (entry_of caller Begin told)
  pub ran : language.programs (text_told told.reply) program
  pub picks : AllByRecursion (λ place. PicksFor from history caller (vcl_told told.reply) place) others
