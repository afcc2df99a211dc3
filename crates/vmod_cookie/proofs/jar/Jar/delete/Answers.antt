use Rattle.std.proofs.Common.{rules, tests, filter, not, ap, ◌∙◌}
use Rattle.std.specs.Str.{bytes_eq}
use Rattle.indexmap.proofs.CallerLemmas.{filter-RetainsPairs}
use Rattle.vmod_cookie.proofs.jar.Jar.delete.Goals as goal

pub returns : goal.returns
returns c = filter-RetainsPairs _ (λ cookie. not (bytes_eq cookie.0 c.args.name.now)) _ (λ k v b w g t. search (rules, tests)) _ _ c.retain.ensures.filtered ∙ ap (filter (λ cookie. not (bytes_eq cookie.0 c.args.name.now))) c.self.view_is
