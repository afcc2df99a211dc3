use Rattle.std.proofs.Common.{◌≡◌, ◌∷◌, ◌∙◌, ap, sym, refl}
use Rattle.std.specs.Prelude.{codes}
use Rattle.std.proofs.lemmas.Slice.Eq.{bytes_eq-Decides}
use Rattle.std.proofs.lemmas.Bool.{false≢true}
use Rattle.ban_expr.proofs.Joined.{last_joined, more_joined, less_joined, too_short}
use Rattle.ban_expr.proofs.reading.+are_clauses.Goals as goal

pub returns-in_default : goal.returns-in_default
returns-in_default t c = (λ h. absurd (false≢true h), λ a. absurd (too_short c.args.words.now a.0 c.in_default.ensures a.1 a.2))

pub returns-in-None : goal.returns-in-None
returns-in-None t c =
    let front = c.in-Some.front in
    (λ _. last_joined c.args.words.now front.field.now front.operator.now front.argument.now front.behind.now c.in-Some.ensures c.in-None.ensures.cases, λ _. refl)

pub returns-then-eq : goal.returns-then-eq
returns-then-eq t c =
    let front = c.in-Some.front in
    let split = c.in-Some-split_first in
    let words = c.in-Some.ensures ∙ ap (λ rest. front.field.now ∷ front.operator.now ∷ front.argument.now ∷ rest) split.ensures.cases.0 in
    let joint = rw (c.bytes.ensures, c.as_slice.ensures) at ((bytes_eq-Decides c.bytes.result.now c.as_slice.result.now).0 (sym c.eq.ensures ∙ c.if-eq.true)) in (
      λ r. more_joined c.args.words.now front.field.now front.operator.now front.argument.now split.joint.now split.more.now words joint (c.are_clauses.ensures.0 r),
      λ a. c.are_clauses.ensures.1 ((less_joined c.args.words.now front.field.now front.operator.now front.argument.now split.joint.now split.more.now words a).1),
    )

pub returns-else-eq : goal.returns-else-eq
returns-else-eq t c =
    let front = c.in-Some.front in
    let split = c.in-Some-split_first in
    let words = c.in-Some.ensures ∙ ap (λ rest. front.field.now ∷ front.operator.now ∷ front.argument.now ∷ rest) split.ensures.cases.0 in
    let is_joint = λ (e : split.joint.now ≡ codes "&&"). c.eq.ensures ∙ (bytes_eq-Decides c.bytes.result.now c.as_slice.result.now).1 (c.bytes.ensures ∙ e ∙ sym c.as_slice.ensures) in
    rw (c.if-eq.false) (
      λ h. absurd (false≢true h),
      λ a. absurd (false≢true (sym c.if-eq.false ∙ is_joint (less_joined c.args.words.now front.field.now front.operator.now front.argument.now split.joint.now split.more.now words a).0)),
    )
