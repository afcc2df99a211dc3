use Rattle.std.proofs.Common.{◌≤◌, ◌<◌, ℕ, List, sym, ◌∙◌, ap, subst}
use Rattle.std.specs.Prelude.{IfOk}
use Rattle.session_text.specs.declared.session.Line.{Line}
use Rattle.session_text.specs.declared.session.Line.TheVariants as lines
use Rattle.replay.specs.Build.{StandsFor}
use Rattle.replay.proofs.script.build_line.Goals as goal

pub returns-in-Req : goal.returns-in-Req
returns-in-Req g c =
    let stored = c.args.vmods.now.stored in
    subst (λ (line : Line). IfOk c.build_request.result (StandsFor stored line))
    (ap (λ (text : List ℕ). lines.Req c.in-Req.client text) c.bytes.ensures ∙ sym c.in-Req.is) (c.build_request.ensures stored)
