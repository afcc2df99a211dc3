-- What a line of a console leads to, where files are found on a shelf.
use Rattle.std.specs.Prelude.{◌≡◌, ◌⊎◌, ℕ, List, Option, None}
use Rattle.wire.specs.Causes.{Rose}
use Rattle.world.specs.Files.{IsShelved}
use Rattle.world.specs.declared.file.File.{File}
use Rattle.vmod_host.specs.declared.signature.Stored.{Stored}
use Rattle.cache_law.specs.declared.call.Call.{Call}
use Rattle.cli_console.specs.declared.command.Command.TheVariants as command
use Rattle.cli_console.specs.declared.message.Message.{Message}
use Rattle.cli_console.specs.Lines.{IsCommand, IsWrong, IsLoaded, IsNotLoaded}
use Rattle.cli_console.specs.Messages.{answer_text, said}
use Rattle.console_link.specs.declared.instructions.Instruction.{Instruction}
use Rattle.console_link.specs.declared.instructions.Instruction.TheVariants as instruction

-- this is what the shelf has of the name; or it has nothing because its count of faults rose
abbrev pub IsFound : Option (List File) → ℕ → ℕ → List ℕ → Option (List ℕ) → Type 0
IsFound files faults faults' name found = IsShelved files name found ⊎ ((found ≡ None) × Rose faults faults')

-- the line is to load what is found in a file, under a name
pub record Loads (stored : List Stored) (files : Option (List File)) (faults faults' : ℕ) (line name file : List ℕ) (found : Option (List ℕ)) : Type 0 where
  pub is : IsCommand stored line (command.Load name file)
  pub found_there : IsFound files faults faults' file found

-- the line makes this call, or what is found in its file does
abbrev pub MakesCall : List Stored → Option (List File) → ℕ → ℕ → List ℕ → Call → Type 0
MakesCall stored files faults faults' line call =
    IsCommand stored line (command.Cache call)
    ⊎ ((name : List ℕ) × (file : List ℕ) × (found : Option (List ℕ)) × Loads stored files faults faults' line name file found × IsLoaded stored name found call)

-- why the line says nothing, or what is found in its file isn't loaded
abbrev pub IsRefusedFor : List Stored → Option (List File) → ℕ → ℕ → List ℕ → Message → Type 0
IsRefusedFor stored files faults faults' line m =
    IsWrong stored line m
    ⊎ ((name : List ℕ) × (file : List ℕ) × (found : Option (List ℕ)) × Loads stored files faults faults' line name file found × IsNotLoaded stored file found m)

-- the text answers a line that makes no call and isn't `quit`, at this moment
abbrev pub AnswersAlone : List Stored → Option (List File) → ℕ → ℕ → List ℕ → ℕ → List ℕ → Type 0
AnswersAlone stored files faults faults' line moment text =
    (IsCommand stored line command.Ping × (text ≡ answer_text (said (Message.Pong moment))))
    ⊎ ((m : Message) × IsRefusedFor stored files faults faults' line m × (text ≡ answer_text (said m)))

-- what a line leads to
abbrev pub LeadsTo : List Stored → Option (List File) → ℕ → ℕ → List ℕ → Instruction → Type 0
LeadsTo stored files faults faults' line (instruction.Answer text) =
    (m : Message) × IsRefusedFor stored files faults faults' line m × (text ≡ answer_text (said m))
LeadsTo stored files faults faults' line (instruction.Quit text) = IsCommand stored line (command.Quit text)
LeadsTo stored files faults faults' line instruction.Ping = IsCommand stored line command.Ping
LeadsTo stored files faults faults' line (instruction.Call call) = MakesCall stored files faults faults' line call
