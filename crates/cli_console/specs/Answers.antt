-- What the console answers to a call and its reply.
use Rattle.std.specs.Prelude.{ℕ, ◌≡◌, Bool, true, false, List, [], Option, Some, None, IsSomeAnd}
use Rattle.cache_law.specs.declared.call.Call.{Call}
use Rattle.cache_law.specs.declared.call.Call.TheVariants as call
use Rattle.cache_law.specs.declared.call.Reply.{Reply}
use Rattle.cache_law.specs.declared.call.Reply.TheVariants as reply
use Rattle.cli_console.specs.declared.message.Message.{Message}
use Rattle.cli_console.specs.declared.message.Message.TheVariants as message
use Rattle.cli_console.specs.Listings.{bans_text, vcls_text}
use Rattle.cli_console.specs.Messages.{answer_text, said}

-- the name that a call has: of a VCL or of a backend
abbrev pub name_in : Call → List ℕ
name_in (call.SetHealth backend _) = backend
name_in (call.Load source) = source.name
name_in (call.Switch name) = name
name_in (call.Discard name) = name
name_in _ = []

-- what is said to a reply, where the call has this name
abbrev pub message_to : List ℕ → Reply → Option Message
message_to name reply.Banned = Some message.Done
message_to name (reply.Bans lines) = Some (message.Listing (bans_text lines))
message_to name (reply.HealthSet true) = Some message.Done
message_to name (reply.HealthSet false) = Some (message.NoBackend name)
message_to name (reply.Loaded number) = Some message.Compiled
message_to name reply.NameTaken = Some (message.NameTaken name)
message_to name reply.Switched = Some (message.NowActive name)
message_to name reply.NoVcl = Some (message.NoVcl name)
message_to name reply.Discarded = Some message.Done
message_to name reply.IsActive = Some (message.IsActive name)
message_to name (reply.Vcls lines) = Some (message.Listing (vcls_text lines))
message_to name _ = None

-- the text answers the call that has this reply
abbrev pub IsAnswer : Call → Reply → List ℕ → Type 0
IsAnswer c r text = IsSomeAnd (message_to (name_in c) r) (λ m. text ≡ answer_text (said m))

-- the calls that a console makes
abbrev pub is_console : Call → Bool
is_console (call.Ban ban) = true
is_console call.BanList = true
is_console (call.SetHealth backend _) = true
is_console (call.Load source) = true
is_console (call.Switch name) = true
is_console (call.Discard name) = true
is_console call.VclList = true
is_console _ = false
