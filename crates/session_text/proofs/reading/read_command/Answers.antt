use Rattle.std.proofs.Common.{sym, subst, refl, ◌++◌, ◌∷◌}
use Rattle.session_text.specs.declared.session.FaultKind.TheVariants as kinds
use Rattle.session_text.specs.declared.reading.Keyword.{Keyword}
use Rattle.session_text.specs.Keywords.{keyword_text}
use Rattle.session_text.specs.Readings.{IsReading, IsLine, Bad}
use Rattle.std.specs.Prelude.{codes}
use Rattle.session_text.specs.declared.session.Line.TheVariants.{Cli}
use Rattle.session_text.proofs.Commanded.{one_line}
use Rattle.session_text.proofs.Words.{end_behind}
use Rattle.session_text.proofs.reading.read_command.Goals as goal

pub returns-in-End : goal.returns-in-End
returns-in-End c =
    let at : Keyword → Type 0 = λ k. IsReading (keyword_text k ++ 32 ∷ c.args.argument.now) (Bad kinds.Argument) in
    subst at (sym c.in-End.is) (end_behind c.args.argument.now)

pub returns-in-Cli : goal.returns-in-Cli
returns-in-Cli c = rw c.in-Cli.is (one_line (λ line. IsLine (codes "cli" ++ 32 ∷ c.args.argument.now) line) (Cli c.args.argument.now) (c.args.argument.now, refl, refl))
