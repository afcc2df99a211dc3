-- Reading on, where no whole line stands there yet.
use Rattle.std.proofs.Common.{◌≡◌, ℕ, ◌≤◌, List, [], ◌++◌, length, Ok, Err, Option, sym, ◌∙◌, ap, subst, arith}
use Rattle.std.proofs.lemmas.List.{append_assoc}
use Rattle.message_reader.specs.Inputs.{Hears, Fills}
use Rattle.message_reader.specs.declared.stop.Stop.{Stop}
use Rattle.message_reader.specs.declared.stop.Stop.TheVariants.{Read, Early, BadHead, BadBody, TooLarge, NoMemory}
use Rattle.wire.specs.Flow.{Flow}
use Rattle.wire.proofs.Flowing.{Moves-trans}
use Rattle.console_link.specs.Lines.{LineTold, ending_of, line_length}
use Rattle.console_link.specs.declared.talk.ConsoleEnd.{ConsoleEnd}
use Rattle.console_link.proofs.LineFacts.{no_earlier}

-- one read more, and all that came is held
pub filled_more : (first second third : Option Flow) (start held now : List ℕ) (count : ℕ) → Hears first second start (λ input. held ≡ input)
    → Hears second third held (Fills third held now (Ok count)) → Hears first third start (λ input. now ≡ input)
filled_more first second third start held now count heard came = (
  heard.0 ++ came.0,
  Moves-trans first second third heard.0 came.0 [] [] heard.1 came.1,
  came.2.0 ∙ ap (λ (l : List ℕ). l ++ came.0) heard.2 ∙ append_assoc start heard.0 came.0,
)

-- what was looked at has no LF, whatever came behind it
pub scanned_all : (second third : Option Flow) (held now : List ℕ) (count : ℕ) → line_length held ≡ length held → Hears second third held (Fills third held now (Ok count))
    → length held ≤ line_length now
scanned_all second third held now count begun came = omega (arith, begun, ap line_length came.2.0, no_earlier held came.0)

failed_so : (third : Option Flow) (held now input : List ℕ) (stop : Stop) → Fills third held now (Err stop) input → (whole : List ℕ) → LineTold third now (Err (ending_of stop)) whole
failed_so third held now input Read told whole = tt
failed_so third held now input NoMemory told whole = tt
failed_so third held now input Early told whole = absurd told
failed_so third held now input BadHead told whole = absurd told
failed_so third held now input BadBody told whole = absurd told
failed_so third held now input TooLarge told whole = absurd told

-- the read failed, or there was no memory for what it gave
pub unfilled : (first second third : Option Flow) (start held now : List ℕ) (stop : Stop) (ended : ConsoleEnd) → ended ≡ ending_of stop
    → Hears first second start (λ input. held ≡ input) → Hears second third held (Fills third held now (Err stop)) → Hears first third start (LineTold third now (Err ended))
unfilled first second third start held now stop ended is heard came = (
  heard.0 ++ came.0,
  Moves-trans first second third heard.0 came.0 [] [] heard.1 came.1,
  subst (λ (e : ConsoleEnd). LineTold third now (Err e) (start ++ (heard.0 ++ came.0))) (sym is)
      (failed_so third held now (held ++ came.0) stop came.2 (start ++ (heard.0 ++ came.0))),
)
