-- What a line came to.
use Rattle.std.proofs.Common.{◌≡◌, ◌⊎◌, inl, inr, ℕ, List, [], Result, Ok, Err, Option, Some, None, IfOk, sym, ◌∙◌, ap, subst}
use Rattle.std.specs.declared.alloc.AllocError.{AllocError}
use Rattle.std.proofs.lemmas.List.{append-nil}
use Rattle.std.proofs.lemmas.List.Elements.{All-nil}
use Rattle.wire.specs.Tapes.{Tells}
use Rattle.world.specs.declared.file.File.{File}
use Rattle.vmod_host.specs.declared.signature.Stored.{Stored}
use Rattle.cache_law.specs.declared.call.Call.{Call}
use Rattle.cache_law.specs.declared.call.Entry.{Entry}
use Rattle.cache_law.specs.declared.cache.Told.{Told}
use Rattle.cli_console.specs.declared.command.Command.TheVariants as command
use Rattle.cli_console.specs.declared.message.Message.{Message}
use Rattle.cli_console.specs.declared.refusal.CliAnswer.{CliAnswer}
use Rattle.cli_console.specs.declared.refusal.CliAnswer.TheVariants.{Refused}
use Rattle.cli_console.specs.Lines.{IsCommand, IsNotLoaded}
use Rattle.cli_console.specs.Refusals.{TellsWhy}
use Rattle.cli_console.specs.Messages.{answer_text, said}
use Rattle.turnstile.specs.Knowledge.{saw, Owns}
use Rattle.shared_cache.specs.Sharing.{CallerKnows, Called, caller_of, numbers}
use Rattle.console_link.specs.Answering.{IsKept, ReplyTold, EnterTold, KeptTold, AnswerTold, PingTold}
use Rattle.console_link.specs.Instructions.{MakesCall, IsRefusedFor, LeadsTo, Loads}
use Rattle.console_link.specs.declared.instructions.Instruction.{Instruction}
use Rattle.console_link.specs.declared.instructions.Instruction.TheVariants as instruction
use Rattle.console_link.specs.Talks.{Stand, Turned, Enters, Alone}
use Rattle.console_link.specs.declared.talk.ConsoleEnd.{ConsoleEnd}
use Rattle.console_link.specs.declared.talk.ConsoleEnd.TheVariants.{Quit, Closed, TooLong, ReadFault, WriteFault, HistoryFull, NoMemory}
use Rattle.console_link.specs.declared.talk.ConsoleLine.{ConsoleLine}

-- nothing was entered
pub turned : (x y : Stand) → y.known ≡ x.known → (y.readings ≡ x.readings) ⊎ ((reading : ℕ) × Tells x.readings y.readings reading) → Turned x y
turned x y knows read = record {
  knows = knows ∙ sym (ap (λ (k : CallerKnows). saw x.known k.seen) knows);
  grown = ([], ap (λ (k : CallerKnows). k.seen) knows ∙ sym (append-nil x.known.seen), All-nil (λ (e : Entry). ¬ (Owns x.known (caller_of e))));
  same = ap numbers knows;
  read = read;
}

-- why what is found in a file isn't loaded
pub not_loaded : (stored : List Stored) (files : Option (List File)) (faults faults' : ℕ) (line name file : List ℕ) (found : Option (List ℕ)) (answer : CliAnswer)
    (result : Result Instruction AllocError) → Loads stored files faults faults' line name file found → TellsWhy (IsNotLoaded stored file found) answer
    → IfOk result (λ i. (text : List ℕ) × (answer ≡ Refused text) × (i ≡ instruction.Answer text)) → IfOk result (LeadsTo stored files faults faults' line)
not_loaded stored files faults faults' line name file found answer (Err e) loads why told = tt
not_loaded stored files faults faults' line name file found answer (Ok i) loads why told =
    let because : TellsWhy (IsNotLoaded stored file found) (Refused told.0) = subst (λ (a : CliAnswer). TellsWhy (IsNotLoaded stored file found) a) told.1 why in
    subst (λ (j : Instruction). LeadsTo stored files faults faults' line j) (sym told.2) (because.0, inr (name, file, found, loads, because.1), because.2)

module _ (stored : List Stored) (files : Option (List File)) (x y : Stand) (text : List ℕ) where
  kept_so : (call : Call) (told : Told) (reading : ℕ) (line : ConsoleLine) (ended : Option ConsoleEnd) → MakesCall stored files x.faults y.faults text call
      → Tells x.readings y.readings reading → Called x.known y.known reading call told → IsKept text told line → ReplyTold call told line ended
      → KeptTold stored files x y line ended
  kept_so call told reading line ended makes read called kept reply =
      let enters : Enters stored files x y line call told =
      record {
        makes = subst (λ (t : List ℕ). MakesCall stored files x.faults y.faults t call) (sym kept.line_is) makes;
        reading = reading;
        read = read;
        called = called;
        moment = kept.moment;
        place = kept.place;
      } in
      by_end ended enters reply
    where
      by_end : (ended : Option ConsoleEnd) → Enters stored files x y line call told → ReplyTold call told line ended → KeptTold stored files x y line ended
      by_end None enters reply = inl (call, told, enters, reply)
      by_end (Some NoMemory) enters reply = (call, told, enters, reply)
      by_end (Some Quit) enters reply = absurd reply
      by_end (Some Closed) enters reply = absurd reply
      by_end (Some TooLong) enters reply = absurd reply
      by_end (Some ReadFault) enters reply = absurd reply
      by_end (Some WriteFault) enters reply = absurd reply
      by_end (Some HistoryFull) enters reply = absurd reply

  -- the call of a line, and its answer
  pub entered : (call : Call) (result : Result (ConsoleLine × Option ConsoleEnd) ConsoleEnd) → MakesCall stored files x.faults y.faults text call
      → y.known ≡ saw x.known y.known.seen → EnterTold x.known y.known x.readings y.readings text call result → AnswerTold stored files x y text result
  entered call (Ok kept) makes knows told =
      (told.4.line_is, kept_so call told.0 told.1 kept.0 kept.1 makes told.2 told.3 told.4 told.5)
  entered call (Err HistoryFull) makes knows told = record { call = call; makes = makes; reading = told.0; read = told.1; declined = told.2 }
  entered call (Err NoMemory) makes knows told = record { knows = knows; grown = told.0; same = told.1; read = told.2 }
  entered call (Err Quit) makes knows told = absurd told
  entered call (Err Closed) makes knows told = absurd told
  entered call (Err TooLong) makes knows told = absurd told
  entered call (Err ReadFault) makes knows told = absurd told
  entered call (Err WriteFault) makes knows told = absurd told

  alone_so : (line : ConsoleLine) → y.known ≡ x.known → Tells x.readings y.readings line.moment → line.place ≡ None → Alone x y line
  alone_so line knows read place = record { knows = knows; read = read; place = place }

  -- a line that is refused
  pub refused : (line : ConsoleLine) (m : Message) → line.line ≡ text → y.known ≡ x.known → Tells x.readings y.readings line.moment → line.place ≡ None
      → IsRefusedFor stored files x.faults y.faults text m → line.sent ≡ answer_text (said m) → AnswerTold stored files x y text (Ok (line, None))
  refused line m line_is knows read place why sent = (
    line_is,
    inr (alone_so line knows read place, inr (m, subst (λ (t : List ℕ). IsRefusedFor stored files x.faults y.faults t m) (sym line_is) why, sent)),
  )

  -- `quit`
  pub quits : (line : ConsoleLine) → line.line ≡ text → y.known ≡ x.known → Tells x.readings y.readings line.moment → line.place ≡ None
      → IsCommand stored text (command.Quit line.sent) → AnswerTold stored files x y text (Ok (line, Some Quit))
  quits line line_is knows read place is = (
    line_is,
    (alone_so line knows read place, subst (λ (t : List ℕ). IsCommand stored t (command.Quit line.sent)) (sym line_is) is),
  )

  -- `ping`
  pub pinged : (result : Result (ConsoleLine × Option ConsoleEnd) ConsoleEnd) → y.known ≡ x.known → IsCommand stored text command.Ping
      → PingTold x.readings y.readings text result → AnswerTold stored files x y text result
  pinged (Ok kept) knows is told = (
    told.0,
    subst (λ (ended : Option ConsoleEnd). KeptTold stored files x y kept.0 ended) (sym told.3) (inr (
      alone_so kept.0 knows told.4 told.1,
      inl (subst (λ (t : List ℕ). IsCommand stored t command.Ping) (sym told.0) is, told.2),
    )),
  )
  pinged (Err NoMemory) knows is told = turned x y knows (inr told)
  pinged (Err Quit) knows is told = absurd told
  pinged (Err Closed) knows is told = absurd told
  pinged (Err TooLong) knows is told = absurd told
  pinged (Err ReadFault) knows is told = absurd told
  pinged (Err WriteFault) knows is told = absurd told
  pinged (Err HistoryFull) knows is told = absurd told
