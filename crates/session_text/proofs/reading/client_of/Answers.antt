use Rattle.std.proofs.Common.{arith}
use Rattle.session_text.proofs.Words.{number_same}
use Rattle.session_text.proofs.reading.client_of.Goals as goal

pub returns-then-client-eq0 : goal.returns-then-client-eq0
returns-then-client-eq0 c = λ n h l m. let same = number_same _ _ _ h c.in-Some.ensures in omega arith

pub returns-then-client-gt250 : goal.returns-then-client-gt250
returns-then-client-gt250 c = λ n h l m. let same = number_same _ _ _ h c.in-Some.ensures in omega arith
