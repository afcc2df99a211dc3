-- The classes of the byte.
use Rattle.std.proofs.Common.{◌≡◌, ◌-◌, inl, inr, false, refl, sym, subst, arith}
use Rattle.httparse.specs.Grammar.{is_value_byte}
use Rattle.http_bodies.specs.declared.place.Place.TheVariants.{Line}
use Rattle.http_bodies.specs.declared.place.LinePart.TheVariants.{TrailerLine, FieldValue, FieldFeed}
use Rattle.http_bodies.specs.Places.{IsNext}
use Rattle.http_bodies.proofs.TrailerFacts.{value_feed, value_return, value_more, value_none}
use Rattle.http_bodies.proofs.trailer.value_byte.Goals as goal

pub returns-then-byte-eq10-clause-next : goal.returns-then-byte-eq10-clause-next
returns-then-byte-eq10-clause-next c =
    subst (λ b. IsNext (FieldValue c.args.fields c.args.left) b (Line (TrailerLine c.args.fields (c.args.left - 1)))) (sym c.if-byte-eq10.true)
    (value_feed c.args.fields c.args.left (omega (arith, c.requires.waits)))

pub returns-then-left-lt-MIN_VALUE-clause-refused : goal.returns-then-left-lt-MIN_VALUE-clause-refused
returns-then-left-lt-MIN_VALUE-clause-refused c =
    inl (refl, value_none c.args.fields c.args.left c.args.byte c.if-byte-eq10.false (inl c.if-left-lt-MIN_VALUE.true))

pub returns-then-byte-eq13-clause-next : goal.returns-then-byte-eq13-clause-next
returns-then-byte-eq13-clause-next c =
    subst (λ b. IsNext (FieldValue c.args.fields c.args.left) b (Line (FieldFeed c.args.fields (c.args.left - 1)))) (sym c.if-byte-eq13.true)
    (value_return c.args.fields c.args.left (omega (arith, c.requires.waits)))

pub returns-then-not-is_header_value_token-clause-refused : goal.returns-then-not-is_header_value_token-clause-refused
returns-then-not-is_header_value_token-clause-refused c =
    let none : is_value_byte c.args.byte ≡ false = sym (c.if-not-is_header_value_token.ensures) in
    inl (refl, value_none c.args.fields c.args.left c.args.byte c.if-byte-eq10.false (inr (c.if-byte-eq13.false, none)))

pub returns-clause-next : goal.returns-clause-next
returns-clause-next c =
    value_more c.args.fields c.args.left c.args.byte (sym (c.if-not-is_header_value_token.ensures)) (omega (arith, c.requires.waits))
