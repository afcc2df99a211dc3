-- A line that is `quit` is nothing else.
use Rattle.std.proofs.Common.{◌≡◌, inl, inr, ℕ, List, Option, refl, ◌∙◌, subst}
use Rattle.world.specs.declared.file.File.{File}
use Rattle.vmod_host.specs.declared.signature.Stored.{Stored}
use Rattle.cli_console.specs.declared.command.Command.{Command}
use Rattle.cli_console.specs.declared.command.Command.TheVariants as command
use Rattle.cli_console.specs.declared.message.Message.{Message}
use Rattle.cli_console.specs.declared.message.Message.TheVariants as message
use Rattle.cli_console.specs.declared.orders.Order.{Order}
use Rattle.cli_console.specs.declared.orders.Order.TheVariants as order
use Rattle.cli_console.specs.Lines.{Carries, IsCommand, IsTextWrong, IsWrong}
use Rattle.cli_console.specs.Messages.{answer_text, said}
use Rattle.cli_console.specs.Orders.{IsOrderOf}
use Rattle.cli_console.proofs.Meanings.{line_one, line_either}
use Rattle.cache_law.specs.declared.call.Call.{Call}
use Rattle.console_link.specs.Instructions.{Loads, MakesCall, IsRefusedFor, AnswersAlone}
use Rattle.console_link.specs.Talks.{Stand, IsAnswered}
use Rattle.console_link.specs.declared.talk.ConsoleLine.{ConsoleLine}

module _ (stored : List Stored) where
  quit_order : (o : Order) (text : List ℕ) → Carries stored o (command.Quit text) → o ≡ order.Quit
  quit_order order.Quit text carries = refl
  quit_order order.Ping text carries = absurd (cc)
  quit_order (order.Cache ordered) text carries = absurd (cc)
  quit_order (order.Inline name source) text carries = let made = carries.2 in absurd (cc)
  quit_order (order.Load name file) text carries = absurd (cc)

  order_is : (line text : List ℕ) (o : Order) → IsCommand stored line (command.Quit text) → IsOrderOf line o → o ≡ order.Quit
  order_is line text o quit is = line_one line o quit.0 is quit.1 ∙ quit_order quit.0 text quit.2

  command_is : (line text : List ℕ) (c : Command) → IsCommand stored line (command.Quit text) → IsCommand stored line c → c ≡ command.Quit (answer_text (said message.Closing))
  command_is line text c quit other = subst (λ (o : Order). Carries stored o c) (order_is line text other.0 quit other.1) other.2

  never_wrong : (line text : List ℕ) (m : Message) → IsCommand stored line (command.Quit text) → IsWrong stored line m → ⊥
  never_wrong line text m quit (inl wrong) = line_either line quit.0 m quit.1 wrong
  never_wrong line text m quit (inr wrong) = subst (λ (o : Order). IsTextWrong stored o m) (order_is line text wrong.0 quit wrong.1) wrong.2

  module _ (files : Option (List File)) (faults faults' : ℕ) (line text : List ℕ) (quit : IsCommand stored line (command.Quit text)) where
    no_load : (name file : List ℕ) (found : Option (List ℕ)) → Loads stored files faults faults' line name file found → ⊥
    no_load name file found loads = let same = command_is line text (command.Load name file) quit loads.is in cc

    no_call : (call : Call) → MakesCall stored files faults faults' line call → ⊥
    no_call call (inl is) = let same = command_is line text (command.Cache call) quit is in cc
    no_call call (inr (name, file, found, loads, loaded)) = no_load name file found loads

    no_refusal : (m : Message) → IsRefusedFor stored files faults faults' line m → ⊥
    no_refusal m (inl wrong) = never_wrong line text m quit wrong
    no_refusal m (inr (name, file, found, loads, refused)) = no_load name file found loads

    no_answer : (moment : ℕ) (sent : List ℕ) → AnswersAlone stored files faults faults' line moment sent → ⊥
    no_answer moment sent (inl ping) = let same = command_is line text command.Ping quit ping.0 in cc
    no_answer moment sent (inr (m, refused, said_so)) = no_refusal m refused

  -- a line that is answered and after which the talk goes on isn't `quit`
  pub quit_ends : (files : Option (List File)) (x y : Stand) (line : ConsoleLine) (text : List ℕ) → IsAnswered stored files x y line
      → IsCommand stored line.line (command.Quit text) → ⊥
  quit_ends files x y line text (inl (call, told, enters, answer)) quit = no_call files x.faults y.faults line.line text quit call enters.makes
  quit_ends files x y line text (inr (alone, answer)) quit = no_answer files x.faults y.faults line.line text quit line.moment line.sent answer
