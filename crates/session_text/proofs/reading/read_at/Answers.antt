use Rattle.std.proofs.Common.{arith}
use Rattle.session_text.proofs.Words.{bad_at, number_same}
use Rattle.std.proofs.Common.{refl, ◌++◌, ◌∷◌}
use Rattle.std.specs.Prelude.{codes}
use Rattle.session_text.specs.declared.session.Line.TheVariants.{At}
use Rattle.session_text.specs.Readings.{IsLine}
use Rattle.session_text.proofs.Commanded.{one_line}
use Rattle.session_text.proofs.reading.read_at.Goals as goal

pub returns-in_default : goal.returns-in_default
returns-in_default c = bad_at c.args.argument.now (λ n h l. c.in_default.ensures n h)

pub returns-then-moment-gt-MOMENT_LIMIT : goal.returns-then-moment-gt-MOMENT_LIMIT
returns-then-moment-gt-MOMENT_LIMIT c = bad_at c.args.argument.now (λ n h l. let same = number_same _ _ _ h c.in-Some.ensures in omega arith)

pub returns : goal.returns
returns c = one_line (λ line. IsLine (codes "at" ++ 32 ∷ c.args.argument.now) line) (At c.in-Some.moment) (c.args.argument.now, refl, (c.in-Some.ensures, c.if-moment-gt-MOMENT_LIMIT.false))
