-- The lines that commands stand for, whose texts are still as they are written.
use Rattle.std.specs.Prelude.{ℕ, ◌≡◌, List, []}
use Rattle.units.specs.Quoted.{IsQuoted}
use Rattle.session_text.specs.declared.session.Line.{Line}
use Rattle.session_text.specs.declared.session.Line.TheVariants.{At, Req, Reply, Fail, Cli, Lurk, Probe}
use Rattle.session_text.specs.declared.command.Command.{Command}
use Rattle.session_text.specs.declared.command.Command.TheVariants as commands
use Rattle.session_text.specs.declared.reading.LineReading.{LineReading}
use Rattle.session_text.specs.declared.reading.LineReading.TheVariants as readings
use Rattle.session_text.specs.Readings.{IsReading, Passed, End, Says, Bad}

-- the line is the command's, with its text unquoted
abbrev pub IsLineOf : Command → Line → Type 0
IsLineOf (commands.At moment) line = line ≡ At moment
IsLineOf (commands.Req client quoted) line = (text : List ℕ) × IsQuoted text quoted.now [] × (line ≡ Req client text)
IsLineOf (commands.Reply fetch quoted) line = (text : List ℕ) × IsQuoted text quoted.now [] × (line ≡ Reply fetch text)
IsLineOf (commands.Fail fetch) line = line ≡ Fail fetch
IsLineOf (commands.Cli text) line = line ≡ Cli text.now
IsLineOf (commands.Lurk count) line = line ≡ Lurk count
IsLineOf (commands.Probe backend good) line = line ≡ Probe backend.now good

-- the command has a line, of which this holds
abbrev pub ForLineOf : Command → (Line → Type 0) → Type 0
ForLineOf command P = ((line : Line) × IsLineOf command line) × ((line : Line) → IsLineOf command line → P line)

-- what the text of a line is read as
abbrev pub IsReadAs : List ℕ → LineReading → Type 0
IsReadAs text readings.Passed = IsReading text Passed
IsReadAs text readings.End = IsReading text End
IsReadAs text (readings.Says command) = ForLineOf command (λ line. IsReading text (Says line))
IsReadAs text (readings.Bad kind) = IsReading text (Bad kind)
