-- What words ask for, and what a run does.
use Rattle.std.specs.Prelude.{◌≡◌, ◌⊎◌, ⊤, ℕ, Bool, true, false, List, [], ◌∷◌, codes, Option, Some, None, if◌then◌else◌}
use Rattle.std.specs.Str.{bytes_eq}
use Rattle.command_line.specs.declared.fault.OrderError.{OrderError}
use Rattle.command_line.specs.declared.fault.OrderError.TheVariants.{Refused, NoMemory}
use Rattle.command_line.specs.declared.name.CommandName.{CommandName}
use Rattle.command_line.specs.declared.name.CommandName.TheVariants as command
use Rattle.command_line.specs.declared.order.LoadOptions.{LoadOptions}
use Rattle.command_line.specs.declared.order.ServeOptions.{ServeOptions}
use Rattle.command_line.specs.Words.{Asks, AsksLoad}
use Rattle.command_line.specs.Faults.{IsFault, missing_of_load, missing_of_serve}
use Rattle.server.specs.declared.tally.Tally.{Tally}
use Rattle.varn_audit.specs.declared.outcome.Audited.{Audited}
use Rattle.varn_program.specs.declared.outcome.Outcome.{Outcome as Played}
use Rattle.varn_serve.specs.declared.ending.Served.{Served}
use Rattle.varn_command.specs.declared.outcome.Outcome.{Outcome}
use Rattle.varn_command.specs.Outcomes.{of_audited, of_played, of_served, of_unasked}

-- What is claimed of each command's run, and what of words that give no order.
pub record Claims : Type 1 where
  pub replays : Played → Type 0
  pub loads : LoadOptions → Played → Type 0
  pub serves : ServeOptions → Served Tally → Type 0
  pub audits : Audited → Type 0
  pub nothing : Type 0

-- the fault of the options of a command, which ask for nothing
abbrev pub IsUnasked : CommandName → List (List ℕ) → OrderError → Type 0
IsUnasked command.Serve options (Refused fault) = IsFault command.Serve missing_of_serve options fault × ((order : ServeOptions) → Asks options order → ⊥)
IsUnasked command.Load options (Refused fault) = IsFault command.Load missing_of_load options fault × ((load : LoadOptions) → AsksLoad options load → ⊥)
IsUnasked command options NoMemory = ⊤

-- the command of the first word, if it is one with an order, and its options
abbrev pub command_of : List (List ℕ) → Option (CommandName × List (List ℕ))
command_of [] = None
command_of (word ∷ options) =
    if bytes_eq word (codes "serve") then Some (command.Serve, options) else
    if bytes_eq word (codes "load") then Some (command.Load, options) else
    None

-- `audit` alone
abbrev pub asks_audit : List (List ℕ) → Bool
asks_audit [] = false
asks_audit (word ∷ []) = bytes_eq word (codes "audit")
asks_audit (word ∷ other ∷ words) = false

-- The options give an order, of which comes what is claimed.
abbrev pub Obeys : {O X : Type 0} → (List (List ℕ) → O → Type 0) → (O → X → Type 0) → (X → Outcome) → List (List ℕ) → Outcome → Type 0
Obeys {O} {X} Asks claims handed options outcome = (order : O) × (came : X) × Asks options order × claims order came × (outcome ≡ handed came)

-- They give none, for their first fault or for want of memory, and nothing was done.
abbrev pub Refuses : CommandName → Type 0 → List (List ℕ) → Outcome → Type 0
Refuses name nothing options outcome = (error : OrderError) × IsUnasked name options error × nothing × (outcome ≡ of_unasked error)

-- Options of `serve` or `load` are obeyed or refused; other words are those of a replay.
abbrev pub DoesAs : Claims → Option (CommandName × List (List ℕ)) → Outcome → Type 0
DoesAs claims None outcome = (came : Played) × claims.replays came × (outcome ≡ of_played came)
DoesAs claims (Some (command.Load, options)) outcome = Obeys AsksLoad claims.loads of_played options outcome ⊎ Refuses command.Load claims.nothing options outcome
DoesAs claims (Some (command.Serve, options)) outcome = Obeys Asks claims.serves of_served options outcome ⊎ Refuses command.Serve claims.nothing options outcome

-- Words that ask for an audit have one; of others their command decides.
abbrev pub DoesFor : Bool → Claims → List (List ℕ) → Outcome → Type 0
DoesFor true claims words outcome = (came : Audited) × claims.audits came × (outcome ≡ of_audited came)
DoesFor false claims words outcome = DoesAs claims (command_of words) outcome

-- What a run does with these words, of which this comes.
pub record Does (claims : Claims) (words : List (List ℕ)) (outcome : Outcome) : Type 0 where
  pub does : DoesFor (asks_audit words) claims words outcome
