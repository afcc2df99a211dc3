use Rattle.std.proofs.Common.{◌≡◌, refl, sym, ◌∙◌, take}
use Rattle.std.specs.Prelude.{false}
use Rattle.vcl_tree.specs.declared.token.TokenKind.{TokenKind}
use Rattle.vcl_tokens.specs.Reading.{is_wrong, is_passed_over, Means}
use Rattle.vcl_tokens.proofs.ReadingLemmas.{none_begins}
use Rattle.vcl_tokens.proofs.pieces.next_piece.Goals as goal

pub returns-in_default-clause-refused : goal.returns-in_default-clause-refused
returns-in_default-clause-refused c = (refl, none_begins c.args.place c.args.text.now c.requires c.in_default.ensures)

pub returns-in-None-clause-refused : goal.returns-in-None-clause-refused
returns-in-None-clause-refused c =
    let other : is_passed_over c.in-Some.form ≡ false = sym (c.is_passed.ensures) ∙ c.if-is_passed.false in
    let wrong = rw c.in-None.is at c.in_ok-kind.ensures in
    let none : (t : TokenKind) → Means c.in-Some.form (take c.in-Some.length c.args.text.now) t → ⊥ = rw c.split_at.ensures.front at wrong in
    (refl, is_wrong c.in-Some.ensures other none)
