-- The options that ask for a server, or for a load.
use Rattle.std.specs.Prelude.{◌≡◌, ◌≢◌, ◌≤◌, ℕ, Bool, List, [], ◌∷◌, codes, Option, Some, None, is_some, unwrap_or, IsUtf8, true, false, if◌then◌else◌}
use Rattle.std.specs.Str.{bytes_eq}
use Rattle.units.specs.Numbers.{IsNumber}
use Rattle.command_line.specs.declared.name.OptionName.{OptionName}
use Rattle.command_line.specs.declared.name.OptionName.TheVariants.{Listen, Vcl, Workers, Conns, Cli, Room, History, Seed, Steps}
use Rattle.command_line.specs.declared.name.CommandName.{CommandName}
use Rattle.command_line.specs.declared.name.CommandName.TheVariants.{Serve, Load}
use Rattle.command_line.specs.declared.given.Given.{Given}
use Rattle.command_line.specs.declared.order.ServeOptions.{ServeOptions}
use Rattle.command_line.specs.declared.order.LoadOptions.{LoadOptions}

-- the option that a word names
abbrev pub named : List ℕ → Option OptionName
named word =
    if bytes_eq word (codes "--listen") then Some Listen else
    if bytes_eq word (codes "--vcl") then Some Vcl else
    if bytes_eq word (codes "--workers") then Some Workers else
    if bytes_eq word (codes "--conns") then Some Conns else
    if bytes_eq word (codes "--cli") then Some Cli else
    if bytes_eq word (codes "--room") then Some Room else
    if bytes_eq word (codes "--history") then Some History else
    if bytes_eq word (codes "--seed") then Some Seed else
    if bytes_eq word (codes "--steps") then Some Steps else
    None

-- the options of each command
abbrev pub takes : CommandName → OptionName → Bool
takes Serve Seed = false
takes Serve Steps = false
takes Serve option = true
takes Load Seed = true
takes Load Steps = true
takes Load option = false

-- ---- values

-- the word is this number, which lies between the two
pub record IsWithin (least most : ℕ) (word : List ℕ) (number : ℕ) : Type 0 where
  pub is : IsNumber word number
  pub not_less : least ≤ number
  pub not_more : number ≤ most

-- the word is UTF-8, isn't empty, and doesn't begin with a hyphen
abbrev pub IsFile : List ℕ → Type 0
IsFile [] = ⊥
IsFile (first ∷ more) = (first ≢ 45) × IsUtf8 (first ∷ more)

-- ---- what options give, one behind another

abbrev pub nothing : Given
nothing = record { listen = None; file = None; workers = None; conns = None; cli = None; room = None; history = None; seed = None; steps = None }

abbrev pub has : Given → OptionName → Bool
has given Listen = is_some given.listen
has given Vcl = is_some given.file
has given Workers = is_some given.workers
has given Conns = is_some given.conns
has given Cli = is_some given.cli
has given Room = is_some given.room
has given History = is_some given.history
has given Seed = is_some given.seed
has given Steps = is_some given.steps

-- The option takes this value, and gives what it says.
abbrev pub Puts : Given → OptionName → List ℕ → Given → Type 0
Puts given Listen value after = (port : ℕ) × IsWithin 1 65535 value port × (after ≡ record given { listen = Some port })
Puts given Vcl value after = IsFile value × (after ≡ record given { file = Some value })
Puts given Workers value after = (workers : ℕ) × IsWithin 1 64 value workers × (after ≡ record given { workers = Some workers })
Puts given Conns value after = (conns : ℕ) × IsWithin 1 1000000 value conns × (after ≡ record given { conns = Some conns })
Puts given Cli value after = (port : ℕ) × IsWithin 1 65535 value port × (after ≡ record given { cli = Some port })
Puts given Room value after = (room : ℕ) × IsWithin 0 1073741824 value room × (after ≡ record given { room = Some room })
Puts given History value after = (history : ℕ) × IsWithin 0 1073741824 value history × (after ≡ record given { history = Some history })
Puts given Seed value after = (seed : ℕ) × IsWithin 0 2147483647 value seed × (after ≡ record given { seed = Some seed })
Puts given Steps value after = (steps : ℕ) × IsWithin 1 100000 value steps × (after ≡ record given { steps = Some steps })

-- The word names an option of the command that wasn't given yet, and that takes the value.
pub record Takes (command : CommandName) (given : Given) (word value : List ℕ) (after : Given) : Type 0 where
  pub option : OptionName
  pub names : named word ≡ Some option
  pub of_command : takes command option ≡ true
  pub first : has given option ≡ false
  pub puts : Puts given option value after

-- each option is two words, its name and its value
abbrev pub Reads : CommandName → Given → List (List ℕ) → Given → Type 0
Reads command given [] after = after ≡ given
Reads command given (word ∷ []) after = ⊥
Reads command given (word ∷ value ∷ more) after = (mid : Given) × Takes command given word value mid × Reads command mid more after

-- ---- what is asked for

-- the room and the history where they aren't given
abbrev pub usual : ℕ
usual = 268435456

-- more connections than the greatest history has requests
abbrev pub endless : ℕ
endless = 10000000

-- The order of a server is what was given; the number of connections, the console's port, the room and the history may be wanting.
pub record IsOrder (given : Given) (order : ServeOptions) : Type 0 where
  pub port : given.listen ≡ Some order.port
  pub file : given.file ≡ Some order.file
  pub workers : given.workers ≡ Some order.workers
  pub conns : order.conns ≡ unwrap_or given.conns endless
  pub cli : order.cli ≡ given.cli
  pub room : order.room ≡ unwrap_or given.room usual
  pub history : order.history ≡ unwrap_or given.history usual

-- the load is what was given
pub record IsLoad (given : Given) (load : LoadOptions) : Type 0 where
  pub seed : given.seed ≡ Some load.seed
  pub steps : given.steps ≡ Some load.steps

-- these options ask for this
abbrev pub Asks : List (List ℕ) → ServeOptions → Type 0
Asks options order = (given : Given) × Reads Serve nothing options given × IsOrder given order

abbrev pub AsksLoad : List (List ℕ) → LoadOptions → Type 0
AsksLoad options load = (given : Given) × Reads Load nothing options given × IsLoad given load
