-- One more empty line is passed over.
use Rattle.std.proofs.Common.{rules, sym, ◌∙◌, ap}
use Rattle.http_heads.specs.Lines.{ended_lines, from_full}
use Rattle.http_heads.proofs.LineLemmas.{from_full-empty}
use Rattle.http_heads.proofs.lines.after_empty_lines.Goals as goal

pub loop-line-preserved : goal.loop-line-preserved
loop-line-preserved c =
    let passed = from_full-empty c.in-Some.line.now (ended_lines c.in-Some.behind.now) (search rules) in
    sym passed ∙ sym (ap from_full c.in-Some.ensures.line) ∙ c.loop-line.invariant
