-- What a subroutine's command asks of the cache (vcl(7), "ban"; vmod_xkey(3)).
use Rattle.std.specs.Prelude.{◌≡◌, ◌≢◌, ℕ, ℤ, pos, min, List, filter, Option, Some, None}
use Rattle.ban_expr.specs.Reading.{Reads, IsRefusal}
use Rattle.ban_expr.specs.declared.error.BanError.{BanError}
use Rattle.ban_expr.specs.declared.error.BanError.TheVariants.{NoMemory}
use Rattle.cache_law.specs.declared.ban.Ban.{Ban}
use Rattle.cache_law.specs.declared.call.Call.{Call}
use Rattle.cache_law.specs.declared.call.Call.TheVariants as call
use Rattle.cache_law.specs.declared.call.Reply.{Reply}
use Rattle.cache_law.specs.declared.call.Reply.TheVariants.{Banned, Purged}
use Rattle.http_heads.specs.declared.parts.Separators.TheVariants.{CommasAndBlanks}
use Rattle.http_heads.specs.Lists.{parts, is_full}
use Rattle.vcl_context.specs.declared.turn.Answer.{Answer}
use Rattle.vcl_context.specs.declared.turn.Command.{Command}
use Rattle.vcl_context.specs.declared.turn.Command.TheVariants as command
use Rattle.vcl_context.specs.declared.turn.Answer.TheVariants.{Done, Number}
use Rattle.client_task.specs.BanWords.{words_of}
use Rattle.client_task.specs.declared.place.Asked.{Asked}
use Rattle.client_task.specs.declared.place.Asked.TheVariants as asked

-- the text is this ban
pub record IsBan (text : List ℕ) (ban : Ban) : Type 0 where
  pub words : ban.words ≡ words_of text
  pub conditions : Reads ban.words ban.conditions

-- the words say no ban
abbrev pub SayNone : List (List ℕ) → Type 0
SayNone words = (error : BanError) × (error ≢ NoMemory) × IsRefusal words error

-- the text is no ban
abbrev pub IsNoBan : List ℕ → Type 0
IsNoBan text = SayNone (words_of text)

-- the keys of a purge
abbrev pub keys_of : List ℕ → List (List ℕ)
keys_of text = filter is_full (parts CommasAndBlanks text)

-- the command asks for this call
abbrev pub Asks : Command → Asked → Call → Type 0
Asks (command.Ban text) what request = (ban : Ban) × IsBan text ban × (what ≡ asked.Ban) × (request ≡ call.Ban ban)
Asks (command.Xkey keys soft) what request = (what ≡ asked.Xkey) × (request ≡ call.Xkey (keys_of keys) soft)

-- or for none: a text that is no ban
abbrev pub AsksNothing : Command → Type 0
AsksNothing (command.Ban text) = IsNoBan text
AsksNothing (command.Xkey keys soft) = ⊥

-- a count as a number of VCL
abbrev pub counted : ℕ → ℤ
counted count = pos (min count 9223372036854775807)

-- what a subroutine is answered to what it asked for, if that is answered
abbrev pub answer_to : Asked → Reply → Option Answer
answer_to asked.Ban Banned = Some Done
answer_to asked.Xkey (Purged count) = Some (Number (counted count))
answer_to asked reply = None
