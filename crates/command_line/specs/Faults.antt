-- The first fault of options.
use Rattle.std.specs.Prelude.{◌≡◌, ◌⊎◌, ℕ, ◌+◌, List, [], ◌∷◌, Option, Some, None, Result, Ok, Err, is_none, if◌then◌else◌, ⊤}
use Rattle.command_line.specs.declared.name.OptionName.{OptionName}
use Rattle.command_line.specs.declared.name.OptionName.TheVariants.{Listen, Vcl, Workers, Seed, Steps}
use Rattle.command_line.specs.declared.name.CommandName.{CommandName}
use Rattle.command_line.specs.declared.given.Given.{Given}
use Rattle.command_line.specs.declared.fault.Fault.{Fault}
use Rattle.command_line.specs.declared.fault.Fault.TheVariants.{Unknown, Twice, NoValue, BadValue, Missing}
use Rattle.command_line.specs.declared.fault.OrderError.{OrderError}
use Rattle.command_line.specs.declared.fault.OrderError.TheVariants.{Refused, NoMemory}
use Rattle.command_line.specs.Words.{named, takes, has, nothing, Puts, Takes, Reads}

-- the option of the command that the word at this place names, or why none can be given there
abbrev pub unless_given : CommandName → Given → ℕ → Option OptionName → Result OptionName Fault
unless_given command given place None = Err (Unknown place)
unless_given command given place (Some option) =
    if takes command option then (if has given option then Err (Twice place) else Ok option) else Err (Unknown place)

abbrev pub option_at : CommandName → Given → ℕ → List ℕ → Result OptionName Fault
option_at command given place word = unless_given command given place (named word)

-- no value stands behind the option at this place
abbrev pub IsValueless : ℕ → Result OptionName Fault → Fault → Type 0
IsValueless place (Ok option) fault = fault ≡ NoValue place
IsValueless place (Err unnamed) fault = fault ≡ unnamed

-- the option isn't one, or doesn't take the value behind its place
abbrev pub IsWrong : Given → ℕ → List ℕ → Result OptionName Fault → Fault → Type 0
IsWrong given place value (Ok option) fault = (fault ≡ BadValue (place + 1) option) × ((after : Given) → Puts given option value after → ⊥)
IsWrong given place value (Err unnamed) fault = fault ≡ unnamed

-- Options, the first of them at this place, can't be read behind what was given, and this is their first fault.
abbrev pub Stops : CommandName → Given → ℕ → List (List ℕ) → Fault → Type 0
Stops command given place [] fault = ⊥
Stops command given place (word ∷ []) fault = IsValueless place (option_at command given place word) fault
Stops command given place (word ∷ value ∷ more) fault =
    IsWrong given place value (option_at command given place word) fault
    ⊎ ((mid : Given) × Takes command given word value mid × Stops command mid (place + 2) more fault)

-- the first of the options that a command wants and that aren't given
abbrev pub missing_of_serve : Given → Option OptionName
missing_of_serve given =
    if is_none given.listen then Some Listen else
    if is_none given.file then Some Vcl else
    if is_none given.workers then Some Workers else
    None

abbrev pub missing_of_load : Given → Option OptionName
missing_of_load given =
    if is_none given.seed then Some Seed else
    if is_none given.steps then Some Steps else
    None

pub record IsMissing (missing : Option OptionName) (fault : Fault) : Type 0 where
  pub option : OptionName
  pub first : missing ≡ Some option
  pub is : fault ≡ Missing option

-- this is the first fault of the options of a command, which wants some
abbrev pub IsFault : CommandName → (Given → Option OptionName) → List (List ℕ) → Fault → Type 0
IsFault command missing options fault =
    Stops command nothing 0 options fault ⊎ ((given : Given) × Reads command nothing options given × IsMissing (missing given) fault)

-- they are refused for a fault of this kind, or memory is wanting
abbrev pub Refuses : (Fault → Type 0) → OrderError → Type 0
Refuses Faulty (Refused fault) = Faulty fault
Refuses Faulty NoMemory = ⊤
