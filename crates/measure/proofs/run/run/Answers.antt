-- What was counted, and its line.
use Rattle.std.proofs.Common.{ℕ, List, Err, ap, refl, subst, ◌∙◌}
use Rattle.std.specs.Io.KnownBytes.{Appends}
use Rattle.wire.specs.Content.{AppendsPart}
use Rattle.measure.proofs.run.run.Goals as goal

pub returns-in-Ok-write_all-clause-ends : goal.returns-in-Ok-write_all-clause-ends
returns-in-Ok-write_all-clause-ends g c =
    let line = c.in-Ok-line_for.ensures.line in (
      record {
        asked = record { task = c.in-Some.task; says = c.in-Some.ensures; input = c.in-Ok.input.items; reads = c.in-Ok.ensures.bytes };
        short = c.in-Ok-line_for.ensures.short;
        number = line.0;
        is = line.1;
      },
      subst (λ (bytes : List ℕ). Appends (g.K.Sink.held c.args.sink.now) (g.K.Sink.held c.write_all.new.sink) bytes)
          (c.as_slice.ensures.value ∙ line.2) c.in-Ok-write_all.ensures.whole,
    )

pub returns-clause-ends : goal.returns-clause-ends
returns-clause-ends g c =
    let line = c.in-Ok-line_for.ensures.line in (
      record {
        asked = record { task = c.in-Some.task; says = c.in-Some.ensures; input = c.in-Ok.input.items; reads = c.in-Ok.ensures.bytes };
        short = c.in-Ok-line_for.ensures.short;
        number = line.0;
        is = line.1;
      },
      subst (λ (bytes : List ℕ). AppendsPart (g.K.Sink.held c.args.sink.now) (g.K.Sink.held c.write_all.new.sink) bytes)
          (c.as_slice.ensures.value ∙ line.2) c.in-Err.ensures.part,
    )

pub returns-in-Err-Refused-clause-ends : goal.returns-in-Err-Refused-clause-ends
returns-in-Err-Refused-clause-ends g c = (
  record {
    asked = record { task = c.in-Some.task; says = c.in-Some.ensures; input = c.in-Ok.input.items; reads = c.in-Ok.ensures.bytes };
    none = c.in-Err-Refused.ensures.refused (ap Err c.in-Err-Refused.field-0-is);
  },
  refl,
)
