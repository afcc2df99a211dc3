use Rattle.std.proofs.Common.{length}
use Rattle.std.proofs.lemmas.Bool.{false≢true}
use Rattle.session_text.proofs.Words.{quoted_whole, is_whole}
use Rattle.session_text.proofs.reading.is_quoted.Goals as goal

pub returns-in-Some : goal.returns-in-Some
returns-in-Some c = is_whole c.args.bytes.now c.in-Some.behind c.in-Some.ensures

pub returns-in-None : goal.returns-in-None
returns-in-None c = (λ f. absurd (false≢true f), λ h. absurd (c.in-None.ensures h.0 (length c.args.bytes.now) (quoted_whole h.0 c.args.bytes.now h.1)))
