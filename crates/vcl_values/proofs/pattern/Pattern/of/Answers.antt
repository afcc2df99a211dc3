use Rattle.std.proofs.Common.{◌∙◌, ap, inl}
use Rattle.std.specs.Str.{is_utf8}
use Rattle.std.proofs.lemmas.Str.{is_utf8-from_IsUtf8}
use Rattle.vcl_values.specs.Readings.{IsAccepted}
use Rattle.vcl_values.specs.ReadHere.{IsReadHere}
use Rattle.vcl_values.proofs.ReadingLemmas.{HasNoReading-bytes, IsAccepted-reading, refusal_cause, IsAccepted-regex}
use Rattle.vcl_values.proofs.pattern.Pattern.of.Goals as goal

pub returns-in_default-clause-refused : goal.returns-in_default-clause-refused
returns-in_default-clause-refused c = λ refused. inl (HasNoReading-bytes _ (rw c.bytes-2.ensures at c.in_default.ensures.cases.0))

pub invariant_of-result : goal.invariant_of-result
invariant_of-result c = record {
  utf8 = ap is_utf8 (c.in-Ok-new.ensures.source ∙ c.in-Ok.ensures.cases.0) ∙ is_utf8-from_IsUtf8 _ c.in-Ok.ensures.cases.1;
  config = c.in-Ok-new.ensures.config;
  is_read = c.in-Ok-new.ensures.read;
}

accepted : (c : goal.In-Ok-new) → IsAccepted c.args.text.now
accepted c =
    let here : IsReadHere c.in-Ok-new.regex = invariant_of-result c in
    rw (c.in-Ok-new.ensures.source, c.in-Ok.ensures.cases.0, c.bytes-2.ensures) at (IsAccepted-regex c.in-Ok-new.regex here)

pub returns-in-Ok-new-clause-no_reading : goal.returns-in-Ok-new-clause-no_reading
returns-in-Ok-new-clause-no_reading c = λ short none. absurd (IsAccepted-reading c.args.text.now (accepted c) none)

pub returns-in-Ok-new-clause-accepted : goal.returns-in-Ok-new-clause-accepted
returns-in-Ok-new-clause-accepted c = accepted c

pub returns-in-Err-Syntax-clause-refused : goal.returns-in-Err-Syntax-clause-refused
returns-in-Err-Syntax-clause-refused c = λ refused.
    let utf8 = is_utf8-from_IsUtf8 c.bytes-2.result.now c.in-Ok.ensures.cases.1 in
    let no_memory = rw c.in-Err-Syntax.field-0-is at c.in-Err-Syntax.ensures.kind in
    let cause = refusal_cause c.in-Ok.source.now c.in-Err-Syntax.field-0-0.kind (ap is_utf8 c.in-Ok.ensures.cases.0 ∙ utf8) no_memory (c.in-Err-Syntax.ensures.refused c.in-Err-Syntax.field-0-0 c.in-Err-Syntax.field-0-is) in
    rw (c.in-Ok.ensures.cases.0, c.bytes-2.ensures) at cause
