use Rattle.std.proofs.Common.{◌≡◌, ap, ◌∙◌, subst, filter}
use Rattle.std.specs.Prelude.{IfOk}
use Rattle.std.specs.Str.{byte}
use Rattle.vmod_host.specs.Jar.{only, parts_at}
use Rattle.vmod_host.specs.JarMeanings.{jar_value}
use Rattle.vmod_cookie.proofs.changing.only.Goals as goal

pub returns : goal.returns
returns c =
    subst (λ jar. IfOk c.jar_value.result (λ answer. answer ≡ jar_value jar))
    (c.keep.ensures ∙ ((λ i. filter (λ cookie. c.in_ok-names.ensures cookie.0 i) c.args.jar) ∙ ap (λ list. only c.args.jar (parts_at (byte ",") list)) c.bytes.ensures))
    c.jar_value.ensures
