use Rattle.session_text.proofs.Words.{bad_fail}
use Rattle.std.proofs.Common.{refl, ◌++◌, ◌∷◌}
use Rattle.std.specs.Prelude.{codes}
use Rattle.session_text.specs.declared.session.Line.TheVariants.{Fail}
use Rattle.session_text.specs.Readings.{IsLine}
use Rattle.session_text.proofs.Commanded.{one_line}
use Rattle.session_text.proofs.reading.read_fail.Goals as goal

pub returns-in-None : goal.returns-in-None
returns-in-None c = bad_fail c.args.argument.now (λ n h. c.in-None.ensures n h)

pub returns-in-Some : goal.returns-in-Some
returns-in-Some c = one_line (λ line. IsLine (codes "fail" ++ 32 ∷ c.args.argument.now) line) (Fail c.in-Some.fetch) (c.args.argument.now, refl, c.in-Some.ensures)
