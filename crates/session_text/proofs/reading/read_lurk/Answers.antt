use Rattle.std.proofs.Common.{arith}
use Rattle.session_text.proofs.Words.{bad_lurk, number_same}
use Rattle.std.proofs.Common.{refl, ◌++◌, ◌∷◌}
use Rattle.std.specs.Prelude.{codes}
use Rattle.session_text.specs.declared.session.Line.TheVariants.{Lurk}
use Rattle.session_text.specs.Readings.{IsLine}
use Rattle.session_text.proofs.Commanded.{one_line}
use Rattle.session_text.proofs.reading.read_lurk.Goals as goal

pub returns-in_default : goal.returns-in_default
returns-in_default c = bad_lurk c.args.argument.now (λ n h l. c.in_default.ensures n h)

pub returns-then-count-gt4294967295 : goal.returns-then-count-gt4294967295
returns-then-count-gt4294967295 c = bad_lurk c.args.argument.now (λ n h l. let same = number_same _ _ _ h c.in-Some.ensures in omega arith)

pub returns : goal.returns
returns c = one_line (λ line. IsLine (codes "lurk" ++ 32 ∷ c.args.argument.now) line) (Lurk c.in-Some.count) (c.args.argument.now, refl, (c.in-Some.ensures, omega arith))
