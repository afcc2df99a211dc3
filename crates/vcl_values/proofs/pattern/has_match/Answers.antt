use Rattle.std.proofs.Common.{is_some, ◌∙◌, ap, arith}
use Rattle.regex.specs.Patterns.{find}
use Rattle.vcl_values.proofs.ReadingLemmas.{first_found-regex}
use Rattle.vcl_values.proofs.pattern.has_match.Goals as goal

pub returns : goal.returns
returns c = c.is_match.ensures.found ∙ ap (λ re. is_some (find re c.args.text.now 0)) c.in_ok-matcher.ensures.pattern ∙ first_found-regex c.args.regex.now c.requires c.args.text.now (λ k. omega (arith, c.type_inv.text k))
