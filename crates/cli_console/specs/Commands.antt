-- The commands (varnish-cli(7)).
use Rattle.std.specs.Prelude.{ℕ, Bool, true, false, List, [], ◌∷◌, codes, Option, Some, None}
use Rattle.std.specs.Map.{lookup}
use Rattle.std.specs.Str.{bytes_eq}
use Rattle.cli_console.specs.declared.commands.CommandKind.{CommandKind}
use Rattle.cli_console.specs.declared.commands.CommandKind.TheVariants as command
use Rattle.cli_console.specs.declared.commands.Parameters.{Parameters}

-- their names
abbrev pub names : List (List ℕ × CommandKind)
names =
    (codes "ping", command.Ping)
    ∷ (codes "vcl.inline", command.VclInline)
    ∷ (codes "vcl.load", command.VclLoad)
    ∷ (codes "vcl.use", command.VclUse)
    ∷ (codes "vcl.discard", command.VclDiscard)
    ∷ (codes "vcl.list", command.VclList)
    ∷ (codes "ban", command.Ban)
    ∷ (codes "ban.list", command.BanList)
    ∷ (codes "backend.set_health", command.SetHealth)
    ∷ (codes "quit", command.Quit)
    ∷ []

unfoldable pub command_named : List ℕ → Option CommandKind
command_named name = lookup (bytes_eq name) names

-- so many words, the first of which is a VCL's name or isn't
abbrev pub from_to : ℕ → Option ℕ → Bool → Parameters
from_to least most begins_with_vcl = record { least = least; most = most; begins_with_vcl = begins_with_vcl }

-- what stands behind a command's name
abbrev pub parameters_of : CommandKind → Parameters
parameters_of command.Ping = from_to 0 (Some 1) false
parameters_of command.VclInline = from_to 2 (Some 2) true
parameters_of command.VclLoad = from_to 2 (Some 2) true
parameters_of command.VclUse = from_to 1 (Some 1) true
parameters_of command.VclDiscard = from_to 1 (Some 1) true
parameters_of command.VclList = from_to 0 (Some 0) false
parameters_of command.Ban = from_to 3 None false
parameters_of command.BanList = from_to 0 (Some 0) false
parameters_of command.SetHealth = from_to 2 (Some 2) false
parameters_of command.Quit = from_to 0 (Some 0) false
