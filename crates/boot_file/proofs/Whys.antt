-- Why a file is no VCL to begin under, by its text.
use Rattle.std.proofs.Common.{ℕ, List, Option, Some}
use Rattle.vmod_host.specs.declared.signature.Stored.{Stored}
use Rattle.world.specs.declared.file.File.{File}
use Rattle.world.specs.Files.{IsShelved}
use Rattle.boot_file.specs.declared.error.BootError.{BootError}
use Rattle.boot_file.specs.declared.error.BootError.TheVariants.{Missing, Unreadable, Refused, NoMemory}
use Rattle.boot_file.specs.Booting.{Why, WhyText}

pub why_file : (files : Option (List File)) (name text : List ℕ) (stored : List Stored) (failed : Type 0) → IsShelved files name (Some text)
    → (e : BootError) → WhyText stored text e → Why files name stored failed e
why_file files name text stored failed shelved Missing why = absurd why
why_file files name text stored failed shelved Unreadable why = absurd why
why_file files name text stored failed shelved (Refused why_so at) why = (text, shelved, why)
why_file files name text stored failed shelved NoMemory why = tt
