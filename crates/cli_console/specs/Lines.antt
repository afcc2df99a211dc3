-- What a line of the console says, or why it says nothing (varnish-cli(7)).
use Rattle.std.specs.Prelude.{ℕ, ◌≡◌, ◌⊎◌, List, Option, Some, None}
use Rattle.cache_law.specs.declared.call.Call.{Call}
use Rattle.cache_law.specs.declared.call.Call.TheVariants as call
use Rattle.cache_law.specs.declared.vcl.VclSource.{VclSource}
use Rattle.vmod_host.specs.declared.signature.Stored.{Stored}
use Rattle.cli_console.specs.declared.command.Command.{Command}
use Rattle.cli_console.specs.declared.command.Command.TheVariants as command
use Rattle.cli_console.specs.declared.message.Message.{Message}
use Rattle.cli_console.specs.declared.message.Message.TheVariants as message
use Rattle.cli_console.specs.declared.orders.Order.{Order}
use Rattle.cli_console.specs.declared.orders.Order.TheVariants as order
use Rattle.cli_console.specs.Messages.{answer_text, said}
use Rattle.cli_console.specs.Orders.{IsOrderOf, IsWrongLine}
use Rattle.cli_console.specs.Sources.{IsSource, IsTextRefused}

-- the call loads the VCL of the text under the name
abbrev pub IsLoadOf : List Stored → List ℕ → List ℕ → Call → Type 0
IsLoadOf stored name text c = (source : VclSource) × IsSource stored name text source × (c ≡ call.Load source)

-- the command that does what is ordered
abbrev pub Carries : List Stored → Order → Command → Type 0
Carries stored order.Ping c = c ≡ command.Ping
Carries stored order.Quit c = c ≡ command.Quit (answer_text (said message.Closing))
Carries stored (order.Cache ordered) c = c ≡ command.Cache ordered
Carries stored (order.Inline name text) c = (ordered : Call) × IsLoadOf stored name text ordered × (c ≡ command.Cache ordered)
Carries stored (order.Load name file) c = c ≡ command.Load name file

-- only the text of a VCL can be wrong in what is ordered
abbrev pub IsTextWrong : List Stored → Order → Message → Type 0
IsTextWrong stored (order.Inline name text) m = IsTextRefused stored text m
IsTextWrong stored _ m = ⊥

-- what a line says
abbrev pub IsCommand : List Stored → List ℕ → Command → Type 0
IsCommand stored line c = (o : Order) × IsOrderOf line o × Carries stored o c

-- why a line says nothing
abbrev pub IsWrong : List Stored → List ℕ → Message → Type 0
IsWrong stored line m = IsWrongLine line m ⊎ ((o : Order) × IsOrderOf line o × IsTextWrong stored o m)

-- the call that loads what was found in a file
abbrev pub IsLoaded : List Stored → List ℕ → Option (List ℕ) → Call → Type 0
IsLoaded stored name None c = ⊥
IsLoaded stored name (Some text) c = IsLoadOf stored name text c

-- why what was found in a file isn't loaded: there is nothing, or the text is refused
abbrev pub IsNotLoaded : List Stored → List ℕ → Option (List ℕ) → Message → Type 0
IsNotLoaded stored file None m = m ≡ message.CannotRead file
IsNotLoaded stored file (Some text) m = IsTextRefused stored text m
