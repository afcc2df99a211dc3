-- The classes of the byte.
use Rattle.std.proofs.Common.{◌≡◌, ◌-◌, ◌<◌, inl, inr, true, false, refl, sym, ◌∙◌, subst, arith}
use Rattle.httparse.specs.Grammar.{is_token_byte}
use Rattle.http_bodies.specs.declared.place.Place.TheVariants.{Line}
use Rattle.http_bodies.specs.declared.place.LinePart.TheVariants.{FieldName, FieldValue}
use Rattle.http_bodies.specs.Places.{IsNext}
use Rattle.http_bodies.proofs.TrailerFacts.{name_colon, name_more, name_none}
use Rattle.http_bodies.proofs.trailer.name_byte.Goals as goal

pub returns-then-byte-eq58-clause-next : goal.returns-then-byte-eq58-clause-next
returns-then-byte-eq58-clause-next c =
    subst (λ b. IsNext (FieldName c.args.fields c.args.left) b (Line (FieldValue c.args.fields (c.args.left - 1)))) (sym c.if-byte-eq58.true)
    (name_colon c.args.fields c.args.left (omega (arith, c.requires.waits)))

pub returns-then-not-is_header_name_token-clause-refused : goal.returns-then-not-is_header_name_token-clause-refused
returns-then-not-is_header_name_token-clause-refused c =
    let why : is_token_byte c.args.byte ≡ true → c.args.left < 4 = λ token.
    let holds = c.is_header_name_token.ensures ∙ token in
    elim c.then-not-is_header_name_token.either [
      | inl none ↦ let never : false ≡ true = sym none ∙ holds in absurd (let no : ⊥ = cc in no)
      | inr short ↦ short.1
    ] in
    inl (refl, name_none c.args.fields c.args.left c.args.byte c.if-byte-eq58.false why)

pub returns-clause-next : goal.returns-clause-next
returns-clause-next c =
    name_more c.args.fields c.args.left c.args.byte (sym (c.if-not-is_header_name_token.ensures)) (omega (arith, c.requires.waits))
