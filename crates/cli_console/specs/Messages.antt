-- What each answer of the console says, and its text.
use Rattle.std.specs.Prelude.{ℕ, ◌-◌, ◌/◌, List, [], ◌∷◌, ◌++◌, length, codes, replicate}
use Rattle.std.specs.Fmt.{decimal}
use Rattle.vcl_tree.specs.Numbers.{number_of}
use Rattle.cli_console.specs.declared.message.Answer.{Answer}
use Rattle.cli_console.specs.declared.message.Message.{Message}
use Rattle.cli_console.specs.declared.message.Message.TheVariants as message

abbrev pub saying : ℕ → List ℕ → Answer
saying status body = record { status = status; body = body }

-- the status and the body of each answer
abbrev pub said : Message → Answer
said message.SyntaxError = saying 100 (codes "Syntax error")
said message.UnknownRequest = saying 101 (codes "Unknown request.")
said message.TooFew = saying 104 (codes "Too few parameters")
said message.TooMany = saying 105 (codes "Too many parameters")
said message.BadName = saying 106 (codes "Bad name")
said (message.Pong moment) = saying 200 (codes "PONG " ++ decimal (moment / 1000) ++ codes " 1.0")
said message.Compiled = saying 200 (codes "VCL compiled.")
said (message.VclRefused kind place) = saying 106 (codes "VCL refused: " ++ decimal (number_of kind) ++ codes " at " ++ decimal place)
said (message.NameTaken name) = saying 106 (codes "Already a VCL named " ++ name)
said (message.CannotRead file) = saying 300 (codes "Cannot read " ++ file)
said (message.NowActive name) = saying 200 (codes "VCL '" ++ name ++ codes "' now active")
said (message.NoVcl name) = saying 106 (codes "No VCL named " ++ name)
said (message.IsActive name) = saying 300 (codes "VCL " ++ name ++ codes " is the active VCL")
said (message.BanRefused number) = saying 106 (codes "Ban refused: " ++ decimal number)
said message.NoState = saying 106 (codes "No such state")
said (message.NoBackend name) = saying 106 (codes "No backend named " ++ name)
said message.Done = saying 200 []
said (message.Listing lines) = saying 200 lines
said message.Closing = saying 500 (codes "Closing CLI connection")

-- with blanks behind it up to eight bytes
abbrev pub left_justified : List ℕ → List ℕ
left_justified text = text ++ replicate (8 - length text) 32

-- the text of an answer: the status, a blank, the length of the body left-justified, LF, the body, and LF
abbrev pub answer_text : Answer → List ℕ
answer_text answer = decimal answer.status ++ 32 ∷ left_justified (decimal (length answer.body)) ++ 10 ∷ answer.body ++ 10 ∷ []
