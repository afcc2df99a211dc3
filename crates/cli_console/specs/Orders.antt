-- What a line orders, or why it orders nothing (varnish-cli(7)). Bans are those of varnish-cli(7), "ban".
use Rattle.std.specs.Prelude.{ℕ, ◌≡◌, ◌⊎◌, ◌≤◌, Bool, false, not, ◌&&◌, List, [], ◌∷◌, length, codes, nat_lt, Option, Some, None, IsSomeAnd, Result, Ok, Err, MatchResult, if◌then◌else◌}
use Rattle.std.specs.Map.{lookup}
use Rattle.std.specs.Str.{bytes_eq}
use Rattle.cli_words.specs.Words.{HasWords}
use Rattle.ban_expr.specs.declared.error.BanError.{BanError}
use Rattle.ban_expr.specs.declared.error.BanError.TheVariants as error
use Rattle.ban_expr.specs.Reading.{Reads, IsRefusal}
use Rattle.cache_law.specs.declared.ban.Ban.{Ban}
use Rattle.cache_law.specs.declared.call.Call.TheVariants as call
use Rattle.cache_law.specs.declared.vcl.Health.{Health}
use Rattle.cache_law.specs.declared.vcl.Health.TheVariants.{Auto, Healthy, Sick}
use Rattle.cli_console.specs.declared.commands.CommandKind.{CommandKind}
use Rattle.cli_console.specs.declared.commands.CommandKind.TheVariants as command
use Rattle.cli_console.specs.declared.commands.Parameters.{Parameters}
use Rattle.cli_console.specs.declared.message.Message.{Message}
use Rattle.cli_console.specs.declared.message.Message.TheVariants as message
use Rattle.cli_console.specs.declared.orders.Order.{Order}
use Rattle.cli_console.specs.declared.orders.Order.TheVariants as order
use Rattle.cli_console.specs.Commands.{command_named, parameters_of}
use Rattle.cli_console.specs.Names.{is_vcl_name}

abbrev pub is_over : Option ℕ → ℕ → Bool
is_over None count = false
is_over (Some most) count = nat_lt most count

-- the first word is to be a VCL's name, and isn't
abbrev pub lacks_name : Bool → List (List ℕ) → Bool
lacks_name begins [] = false
lacks_name begins (name ∷ more) = begins && not (is_vcl_name name)

-- what is wrong with the words behind a command's name whatever the command does with them
abbrev pub kind_within : CommandKind → Parameters → List (List ℕ) → Result CommandKind Message
kind_within kind parameters arguments =
    if nat_lt (length arguments) parameters.least then Err message.TooFew
    else if is_over parameters.most (length arguments) then Err message.TooMany
    else if lacks_name parameters.begins_with_vcl arguments then Err message.BadName
    else Ok kind

abbrev pub kind_found : Option CommandKind → List (List ℕ) → Result CommandKind Message
kind_found None arguments = Err message.UnknownRequest
kind_found (Some kind) arguments = kind_within kind (parameters_of kind) arguments

-- the command that is called by its name, where it may have these words behind it
abbrev pub kind_of : List ℕ → List (List ℕ) → Result CommandKind Message
kind_of name arguments = kind_found (command_named name) arguments

-- the command may have so many words behind its name
abbrev pub takes : CommandKind → ℕ → Type 0
takes command.Ping count = count ≤ 1
takes command.VclInline count = count ≡ 2
takes command.VclLoad count = count ≡ 2
takes command.VclUse count = count ≡ 1
takes command.VclDiscard count = count ≡ 1
takes command.VclList count = count ≡ 0
takes command.Ban count = 3 ≤ count
takes command.BanList count = count ≡ 0
takes command.SetHealth count = count ≡ 2
takes command.Quit count = count ≡ 0

abbrev pub healths : List (List ℕ × Health)
healths = (codes "auto", Auto) ∷ (codes "healthy", Healthy) ∷ (codes "sick", Sick) ∷ []

unfoldable pub health_named : List ℕ → Option Health
health_named word = lookup (bytes_eq word) healths

-- the number by which it is shown why words are no ban
abbrev pub ban_number : BanError → Option ℕ
ban_number error.Field = Some 1
ban_number error.Operator = Some 2
ban_number error.Argument = Some 3
ban_number error.Pattern = Some 4
ban_number error.Shape = Some 5
ban_number error.NoMemory = None

abbrev pub IsBanRefused : BanError → Message → Type 0
IsBanRefused e m = (number : ℕ) × (ban_number e ≡ Some number) × (m ≡ message.BanRefused number)

-- what the command means with these words
abbrev pub Means : CommandKind → List (List ℕ) → Order → Type 0
Means command.Ping arguments o = o ≡ order.Ping
Means command.VclInline (name ∷ text ∷ []) o = o ≡ order.Inline name text
Means command.VclLoad (name ∷ file ∷ []) o = o ≡ order.Load name file
Means command.VclUse (name ∷ []) o = o ≡ order.Cache (call.Switch name)
Means command.VclDiscard (name ∷ []) o = o ≡ order.Cache (call.Discard name)
Means command.VclList arguments o = o ≡ order.Cache call.VclList
Means command.Ban arguments o =
    (ban : Ban) × (ban.words ≡ arguments) × Reads arguments ban.conditions × (o ≡ order.Cache (call.Ban ban))
Means command.BanList arguments o = o ≡ order.Cache call.BanList
Means command.SetHealth (backend ∷ state ∷ []) o =
    IsSomeAnd (health_named state) (λ health. o ≡ order.Cache (call.SetHealth backend health))
Means command.Quit arguments o = o ≡ order.Quit
Means kind arguments o = ⊥

-- what is wrong with the words where the command has a meaning only with some
abbrev pub Refuses : CommandKind → List (List ℕ) → Message → Type 0
Refuses command.Ban arguments m = (e : BanError) × IsRefusal arguments e × IsBanRefused e m
Refuses command.SetHealth (backend ∷ state ∷ []) m = (health_named state ≡ None) × (m ≡ message.NoState)
Refuses kind arguments m = ⊥

-- what words order, of which the first is the command's name
abbrev pub IsOrder : List (List ℕ) → Order → Type 0
IsOrder [] o = ⊥
IsOrder (name ∷ arguments) o = MatchResult (kind_of name arguments) (λ kind. Means kind arguments o) (λ m. ⊥)

-- Why words order nothing: there is no such command, it may not have as many or as few, the first isn't a VCL's name
-- where it is to be, or what is wrong with them for the command.
abbrev pub IsWrongOrder : List (List ℕ) → Message → Type 0
IsWrongOrder [] m = m ≡ message.UnknownRequest
IsWrongOrder (name ∷ arguments) m = MatchResult (kind_of name arguments) (λ kind. Refuses kind arguments m) (λ early. m ≡ early)

-- what a line orders
abbrev pub IsOrderOf : List ℕ → Order → Type 0
IsOrderOf line o = (words : List (List ℕ)) × HasWords line words × IsOrder words o

-- why a line orders nothing: it has no words, or these order nothing
abbrev pub IsWrongLine : List ℕ → Message → Type 0
IsWrongLine line m =
    (((words : List (List ℕ)) → HasWords line words → ⊥) × (m ≡ message.SyntaxError))
    ⊎ ((words : List (List ℕ)) × HasWords line words × IsWrongOrder words m)
