-- What every field says, the first says.
use Rattle.std.proofs.Common.{◌≡◌, Some, None, true, false, sym, ◌∙◌, ap, subst, arith}
use Rattle.http_bodies.specs.Framings.{length_name, length_number, is_that, says_length}
use Rattle.http_bodies.proofs.LengthFacts.{first_says, none_named, that}
use Rattle.http_bodies.proofs.framing.said_length.Goals as goal

pub returns-in-None : goal.returns-in-None
returns-in-None c n says = absurd (omega (arith, none_named length_name c.args.fields.now c.in-None.ensures, c.requires))

pub returns-in-None-length_of : goal.returns-in-None-length_of
returns-in-None-length_of c n says =
    let first = first_says n c.args.fields.now c.in-Some.first.now c.in-Some.ensures says in
    let none : None ≡ length_number c.in-Some.first.now = c.in-None-length_of.ensures ∙ ap length_number c.bytes.ensures in
    let never : false ≡ true = subst (λ r. is_that n r ≡ true) (sym none) first in
    cc

pub returns-then-all_agree : goal.returns-then-all_agree
returns-then-all_agree c =
    let some : Some c.in-Some-length_of.length ≡ length_number c.in-Some.first.now = c.in-Some-length_of.ensures ∙ ap length_number c.bytes.ensures in (
      sym (c.if-all_agree.ensures ∙ ap (says_length c.in-Some-length_of.length) c.as_slice.ensures),
      λ m says. that m c.in-Some-length_of.length
          (subst (λ r. is_that m r ≡ true) (sym some) (first_says m c.args.fields.now c.in-Some.first.now c.in-Some.ensures says)),
    )

pub returns-else-all_agree : goal.returns-else-all_agree
returns-else-all_agree c n says =
    let some : Some c.in-Some-length_of.length ≡ length_number c.in-Some.first.now = c.in-Some-length_of.ensures ∙ ap length_number c.bytes.ensures in
    let same : n ≡ c.in-Some-length_of.length = that n c.in-Some-length_of.length
    (subst (λ r. is_that n r ≡ true) (sym some) (first_says n c.args.fields.now c.in-Some.first.now c.in-Some.ensures says)) in
    let fails : false ≡ says_length c.in-Some-length_of.length c.args.fields.now = c.if-all_agree.ensures ∙ ap (says_length c.in-Some-length_of.length) c.as_slice.ensures in
    let holds : says_length c.in-Some-length_of.length c.args.fields.now ≡ true = subst (λ k. says_length k c.args.fields.now ≡ true) same says in
    cc
