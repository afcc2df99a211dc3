-- Which words ask for help.
use Rattle.std.specs.Prelude.{ℕ, List, [], ◌∷◌, codes, Option, Some, None, if◌then◌else◌}
use Rattle.std.specs.Str.{bytes_eq}
use Rattle.diagnostics.specs.declared.help.Help.{Help}
use Rattle.diagnostics.specs.declared.help.Help.TheVariants.{Program, Serve, Replay, Load, Audit, Version}

-- the help for one command
abbrev pub topic_of : List ℕ → Option Help
topic_of command =
    if bytes_eq command (codes "serve") then Some Serve else
    if bytes_eq command (codes "replay") then Some Replay else
    if bytes_eq command (codes "load") then Some Load else
    if bytes_eq command (codes "audit") then Some Audit else
    None

-- `--help` or `--version` alone, or `--help` behind a command
abbrev pub help_of : List (List ℕ) → Option Help
help_of [] = None
help_of (word ∷ []) =
    if bytes_eq word (codes "--help") then Some Program else
    if bytes_eq word (codes "--version") then Some Version else
    None
help_of (command ∷ word ∷ []) = if bytes_eq word (codes "--help") then topic_of command else None
help_of (command ∷ word ∷ other ∷ words) = None
