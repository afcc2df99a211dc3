-- The classes of the byte.
use Rattle.std.proofs.Common.{◌≡◌, ◌<◌, ◌≤◌, ◌⊎◌, inl, inr, true, false, refl, sym, ◌∙◌, subst, arith}
use Rattle.httparse.specs.Grammar.{is_token_byte}
use Rattle.http_bodies.specs.declared.place.Place.TheVariants.{Whole, Line}
use Rattle.http_bodies.specs.declared.place.LinePart.TheVariants.{TrailerLine, LastFeed}
use Rattle.http_bodies.specs.Places.{IsNext}
use Rattle.http_bodies.proofs.TrailerFacts.{section_feed, section_return, section_name, section_none}
use Rattle.http_bodies.proofs.trailer.trailer_byte.Goals as goal

pub returns-then-byte-eq10-clause-next : goal.returns-then-byte-eq10-clause-next
returns-then-byte-eq10-clause-next c =
    subst (λ b. IsNext (TrailerLine c.args.fields c.args.left) b Whole) (sym c.if-byte-eq10.true) (section_feed c.args.fields c.args.left c.requires.waits)

pub returns-then-left-gt1-clause-next : goal.returns-then-left-gt1-clause-next
returns-then-left-gt1-clause-next c =
    subst (λ b. IsNext (TrailerLine c.args.fields c.args.left) b (Line LastFeed)) (sym c.if-byte-eq13.true)
    (section_return c.args.fields c.args.left c.if-left-gt1.true)

pub returns-then-not-is_header_name_token-clause-refused : goal.returns-then-not-is_header_name_token-clause-refused
returns-then-not-is_header_name_token-clause-refused c =
    let narrow : c.args.byte ≡ 13 → c.args.left ≤ 1 = λ is. elim c.else-byte-eq13.either [
      | inl narrow ↦ narrow.1
      | inr other ↦ absurd (other is)
    ] in
    let why : is_token_byte c.args.byte ≡ true → (c.args.fields ≡ 0) ⊎ (c.args.left < 4) = λ token.
    let holds = c.is_header_name_token.ensures ∙ token in
    elim c.then-not-is_header_name_token.either [
      | inl none ↦ let never : false ≡ true = sym none ∙ holds in absurd (let no : ⊥ = cc in no)
      | inr rest ↦ elim rest [
        | inl none ↦ inl none.1
        | inr short ↦ inr short.2
      ]
    ] in
    inl (refl, section_none c.args.fields c.args.left c.args.byte c.if-byte-eq10.false narrow why)

pub returns-clause-next : goal.returns-clause-next
returns-clause-next c =
    section_name c.args.fields c.args.left c.args.byte (sym (c.if-not-is_header_name_token.ensures)) (omega (arith, c.if-fields-eq0.false)) (omega (arith, c.requires.waits))
