-- A console that was opened, why there is none, and one that was taken down again.
use Rattle.std.specs.Prelude.{◌≡◌, ℕ, List, [], ◌∷◌, Option, Some, None}
use Rattle.wire.specs.Calls.{joined_count}
use Rattle.wire.specs.Talks.{Adds}
use Rattle.world.specs.Keeping.{IsUntold}
use Rattle.world.specs.declared.file.File.{File}
use Rattle.vmod_host.specs.declared.signature.Stored.{Stored}
use Rattle.console_link.specs.declared.talk.ConsoleTalk.{ConsoleTalk}
use Rattle.console_job.specs.Operating.{ConsoleTold, OperatorsTold}
use Rattle.console_job.specs.declared.job.ConsoleBook.{ConsoleBook}
use Rattle.console_job.specs.declared.opening.OpenError.{OpenError}
use Rattle.console_job.specs.declared.opening.OpenError.TheVariants.{Failed, NoMemory}

-- Nobody has come yet, nothing was asked of its clock, and its shelf has these files, of which none was asked for.
pub record IsOpen (stored : List Stored) (files : Option (List File)) (console : ConsoleTold) : Type 0 where
  pub functions : console.functions ≡ stored
  pub shelf : console.files ≡ files
  pub no_fault : console.faults ≡ 0
  pub untold : IsUntold console.readings
  pub nobody : console.came ≡ 0

-- listening failed, or memory was wanting
abbrev pub WhyClosed : Type 0 → OpenError → Type 0
WhyClosed failed Failed = failed
WhyClosed failed NoMemory = Unit {0}

-- there is a console exactly where there is a port for it
abbrev pub IsConsoleAt : {J : Type 0} → Option ℕ → Option J → (J → Type 0) → Type 0
IsConsoleAt None None Open = Unit {0}
IsConsoleAt None (Some job) Open = ⊥
IsConsoleAt (Some port) None Open = ⊥
IsConsoleAt (Some port) (Some job) Open = Open job

module _ {L T S D K : Type 0} (faults : S → ℕ) (given : T → ℕ) where
  -- The outside has the links in their order, the kit, and what listener and shelf counted.
  pub record IsTakenDown (book : ConsoleBook T S D K L) (before after : OperatorsTold L D K) : Type 0 where
    pub links_are : Adds before.links after.links book.links.items
    pub kits_are : Adds before.kits after.kits (book.kit ∷ [])
    pub given_are : after.given ≡ joined_count before.given (given book.listener)
    pub faults_are : after.shelf_faults ≡ joined_count before.shelf_faults (faults book.shelf)

  -- the same, where there was a console
  abbrev pub IsGone : Option (ConsoleBook T S D K L) → OperatorsTold L D K → OperatorsTold L D K → Type 0
  IsGone None before after = after ≡ before
  IsGone (Some book) before after = IsTakenDown book before after

-- what was said at the console, if there was one
abbrev pub talks_of : {L T S D K : Type 0} → Option (ConsoleBook T S D K L) → List ConsoleTalk
talks_of None = []
talks_of (Some book) = book.talks.items
