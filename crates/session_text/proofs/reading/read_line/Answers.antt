use mathlib.Core.Logic.{inr}
use Rattle.std.proofs.lemmas.Bool.{false≢true}
use Rattle.session_text.proofs.Words.{unknown}
use Rattle.session_text.proofs.reading.read_line.Goals as goal

pub returns-in_default-keyword_of : goal.returns-in_default-keyword_of
returns-in_default-keyword_of c = unknown c.args.text.now c.in-Some.word.now (λ p. false≢true (c.if-is_passed.ensures.1 p)) (c.in-Some.ensures.0, inr (c.in-Some.argument.now, c.in-Some.ensures.1)) c.in_default-keyword_of.ensures
